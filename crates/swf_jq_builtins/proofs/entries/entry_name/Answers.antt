use Rattle.std.proofs.Common.{◌≡◌, ◌∙◌, ap, sym, refl, codes, Some, option_and_then}
use Rattle.swf_value.specs.Members.{member_at}
use Rattle.swf_text.proofs.SameLemmas.{chars_ascii}
use Rattle.swf_evaluation.specs.Builtins.{text_in}
use Rattle.swf_jq_builtins.proofs.entries.entry_name.Goals as goal

pub returns-in-Some : goal.returns-in-Some
returns-in-Some c =
    let named : Some c.in-Some.name.now ≡ member_at (codes "key") c.args.entry.now = c.in-Some.ensures ∙ ap (λ k. member_at k c.args.entry.now) (chars_ascii (codes "key") refl) in
    rw (sym named) c.text_in.ensures

pub returns-in-None : goal.returns-in-None
returns-in-None c = ap (option_and_then text_in) (c.in-None.ensures ∙ ap (λ k. member_at k c.args.entry.now) (chars_ascii (codes "key") refl))
