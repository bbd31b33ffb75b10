use Rattle.std.proofs.Common.{◌∙◌, ◌++◌, ◌∷◌, [], ap, sym, arith, get_or, map, pos, w64, ℕ}
use Rattle.std.proofs.lemmas.Grind.{get_or_default_zero}
use Rattle.std.proofs.lemmas.Int.{to_z_pos}
use Rattle.swf_value.specs.Value.{int}
use Rattle.swf_reports.proofs.PendingLemmas.{one_more}
use Rattle.swf_reports.proofs.waits.strand_member.Goals as goal

pub loop-number-init : goal.loop-number-init
loop-number-init c = ap (λ ys. ys ++ map (λ (b : ℕ). int (pos b)) c.as_slice-number-items.result.now) c.new-items.ensures.items

pub loop-number-preserved : goal.loop-number-preserved
loop-number-preserved c =
    let xs = c.as_slice-number-items.result.now in
    let i = c.loop-number.number-index in
    let n = get_or xs i 0 in
    one_more (λ (b : ℕ). int (pos b)) xs i n c.loop-number.items.items c.push.new.self.items _ c.loop-number-test.true (sym (get_or_default_zero xs i n c.loop-number-test.true))
    (c.in_ok-push.ensures.items ∙ ap (λ v. c.loop-number.items.items ++ v ∷ []) (c.int.ensures ∙ ap int (to_z_pos w64 n (omega (arith, (c.type_inv.number-items i).fits))))) c.loop-number.invariant
