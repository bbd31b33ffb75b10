use Rattle.std.proofs.Common.{◌≡◌, ◌∙◌, ap, sym, refl, codes, false, Some, option_map, unwrap_or}
use Rattle.swf_text.proofs.SameLemmas.{chars_ascii}
use Rattle.swf_value.specs.Members.{member_at}
use Rattle.swf_make.specs.Totals.{is_text}
use Rattle.swf_make.proofs.totals.is_completed.Goals as goal

pub returns-in-Some : goal.returns-in-Some
returns-in-Some c =
    let named : Some c.in-Some.status.now ≡ member_at (codes "status") c.args.report.now = c.in-Some.ensures ∙ ap (λ k. member_at k c.args.report.now) (chars_ascii (codes "status") refl) in
    record { completed = rw (sym named) c.is_text.ensures.text }

pub returns-in-None : goal.returns-in-None
returns-in-None c = record { completed = ap (λ o. unwrap_or (option_map (is_text (codes "completed")) o) false) (c.in-None.ensures ∙ ap (λ k. member_at k c.args.report.now) (chars_ascii (codes "status") refl)) }
