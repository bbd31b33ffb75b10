use Rattle.std.proofs.Common.{◌∙◌, ◌+◌, ◌-◌, ◌++◌, ◌∷◌, [], ap, arith, pos, ◌+ℤ◌, w64, FitsSigned}
use Rattle.std.proofs.lemmas.Int.{to_z-of_z, ints}
use Rattle.std.specs.Int.{cast_signed}
use Rattle.swf_evaluation.specs.Builtins.{numbers_from}
use Rattle.swf_jq_builtins.proofs.NumberRows.{numbers_next}
use Rattle.swf_jq_builtins.proofs.arrays.numbers.Goals as goal

pub loop-preserved : goal.loop-preserved
loop-preserved c =
    let n = cast_signed w64 c.loop.next-bits in
    let f : FitsSigned w64 (n +ℤ pos 1) = omega (arith, ints) in
    let e = to_z-of_z w64 (n +ℤ pos 1) f in
    let g = to_z-of_z w64 c.args.first c.ranges.first in
    let i = c.int.ensures in
    let inv = c.loop.invariant in
    let pushed = c.in_ok-push.ensures.items ∙ ap (λ v. c.loop.values.items ++ v ∷ []) i in
    rw (e, g) (
      ap (λ xs. xs ++ numbers_from (n +ℤ pos 1) (c.args.count - (c.loop.counter + 1))) pushed
          ∙ numbers_next c.loop.values.items n c.args.count c.loop.counter (omega arith)
          ∙ inv.0 ∙ ap (λ z. numbers_from z c.args.count) g,
      omega (arith, ints, g),
    )
