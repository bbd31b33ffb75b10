use Rattle.std.proofs.Common.{◌≡◌, ◌∙◌, ap, sym, refl, codes, pos, Some, option_map, unwrap_or, FitsSigned, w64, arith}
use Rattle.std.proofs.lemmas.Int.{to_z-of_z, ints}
use Rattle.swf_text.proofs.SameLemmas.{chars_ascii}
use Rattle.swf_value.specs.Members.{member_at}
use Rattle.swf_value.specs.Value.{InRange}
use Rattle.swf_make.specs.Totals.{number_of}
use Rattle.swf_make.proofs.totals.number_in.Goals as goal

pub returns-in-Some-clause-number : goal.returns-in-Some-clause-number
returns-in-Some-clause-number c =
    let named : Some c.in-Some.number.now ≡ member_at (codes "n") c.args.output.now = c.in-Some.ensures ∙ ap (λ k. member_at k c.args.output.now) (chars_ascii (codes "n") refl) in
    let r : InRange c.number_of.result = c.number_of.ensures.in_range in
    let f : FitsSigned w64 c.number_of.result = omega (arith, ints) in
    rw (sym named) (to_z-of_z w64 c.number_of.result f ∙ c.number_of.ensures.number)

pub returns-in-None-clause-number : goal.returns-in-None-clause-number
returns-in-None-clause-number c = ap (λ o. unwrap_or (option_map number_of o) (pos 0)) (c.in-None.ensures ∙ ap (λ k. member_at k c.args.output.now) (chars_ascii (codes "n") refl))
