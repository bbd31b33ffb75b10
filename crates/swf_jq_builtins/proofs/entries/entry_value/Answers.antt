use Rattle.std.proofs.Common.{◌≡◌, ◌∙◌, ap, sym, refl, codes, Some, unwrap_or}
use Rattle.swf_value.specs.Members.{member_at}
use Rattle.swf_value.specs.Value.{null}
use Rattle.swf_text.proofs.SameLemmas.{chars_ascii}
use Rattle.swf_jq_builtins.proofs.entries.entry_value.Goals as goal

pub returns-in-Some : goal.returns-in-Some
returns-in-Some c =
    let named : Some c.in-Some.value.now ≡ member_at (codes "value") c.args.entry.now = c.in-Some.ensures ∙ ap (λ k. member_at k c.args.entry.now) (chars_ascii (codes "value") refl) in
    rw (sym named) c.copy.ensures

pub returns-in-None : goal.returns-in-None
returns-in-None c = c.null.ensures ∙ ap (λ o. unwrap_or o null) (c.in-None.ensures ∙ ap (λ k. member_at k c.args.entry.now) (chars_ascii (codes "value") refl))
