use Rattle.std.proofs.Common.{◌≡◌, ◌∙◌, ap, sym, refl, codes, pos, Some, option_map, unwrap_or, FitsSigned, w64, arith}
use Rattle.std.proofs.lemmas.Int.{to_z-of_z, ints}
use Rattle.swf_text.proofs.SameLemmas.{chars_ascii}
use Rattle.swf_value.specs.Members.{member_at}
use Rattle.swf_value.specs.Value.{InRange}
use Rattle.swf_make.specs.Totals.{number_in}
use Rattle.swf_make.proofs.totals.amount_of.Goals as goal

pub returns-in-Some-clause-amount : goal.returns-in-Some-clause-amount
returns-in-Some-clause-amount c =
    let named : Some c.in-Some.output.now ≡ member_at (codes "output") c.args.report.now = c.in-Some.ensures ∙ ap (λ k. member_at k c.args.report.now) (chars_ascii (codes "output") refl) in
    let r : InRange c.number_in.result = c.number_in.ensures.in_range in
    let f : FitsSigned w64 c.number_in.result = omega (arith, ints) in
    rw (sym named) (to_z-of_z w64 c.number_in.result f ∙ c.number_in.ensures.number)

pub returns-in-None-clause-amount : goal.returns-in-None-clause-amount
returns-in-None-clause-amount c = ap (λ o. unwrap_or (option_map number_in o) (pos 0)) (c.in-None.ensures ∙ ap (λ k. member_at k c.args.report.now) (chars_ascii (codes "output") refl))
