use Rattle.std.proofs.Common.{◌≡◌, ◌∙◌, ◌++◌, [], ap, sym, arith, append-nil}
use Rattle.std.specs.Prelude.{zip}
use Rattle.swf_jq_builtins.proofs.Pairs.{zip_ended}
use Rattle.swf_jq_builtins.proofs.sorting.with_keys.Goals as goal

pub returns : goal.returns
returns c =
    let a = c.loop-pair.pair-iterator.a.rest in
    let b = c.loop-pair.pair-iterator.b.rest in
    let done = c.loop-pair.pairs.items in
    let none : zip a.items b.items ≡ [] = zip_ended a.items b.items c.in-None.ensures.steps (λ u e. omega (arith, e.0, a.ok)) (λ u e. omega (arith, e.0, b.ok)) in
    sym (append-nil done) ∙ ap (λ l. done ++ l) (sym none) ∙ c.loop-pair.invariant
