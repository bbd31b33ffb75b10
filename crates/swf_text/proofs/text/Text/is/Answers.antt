use Rattle.std.proofs.Common.{◌≡◌, ◌∙◌, ap, sym, true, chars}
use Rattle.std.proofs.lemmas.Slice.Eq.{bytes_eq-Decides}
use Rattle.swf_text.proofs.TextLemmas.{same_bytes}
use Rattle.swf_text.proofs.text.Text.is.Goals as goal

pub returns : goal.returns
returns c =
    let own = c.as_str.result.now in
    let seen : chars own ≡ c.args.self.now = ap chars c.as_str.ensures.value ∙ rw (c.deref.ensures) c.self.view_is in
    let decides = bytes_eq-Decides own c.args.other.now in (
      λ (t : c.eq.result ≡ true). sym seen ∙ ap chars (decides.0 (sym c.eq.ensures ∙ t)),
      λ (e : c.args.self.now ≡ chars c.args.other.now). c.eq.ensures ∙ decides.1 (same_bytes own c.args.other.now c.as_str.utf8 c.utf8.other (seen ∙ e)),
    )
