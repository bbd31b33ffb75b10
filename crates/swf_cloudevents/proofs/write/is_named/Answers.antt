use Rattle.std.proofs.Common.{◌≡◌, ◌∙◌, chars, sym, ap}
use Rattle.swf_text.specs.Same.{same}
use Rattle.swf_text.proofs.SameLemmas.{same_true, same_refl, same_decides, chars_ascii}
use Rattle.swf_text.proofs.TextLemmas.{same_bytes}
use Rattle.swf_cloudevents.proofs.write.is_named.Goals as goal

pub returns : goal.returns
returns c =
    let n = c.args.name.now in
    let w = c.args.word.now in
    let own : chars w ≡ w = chars_ascii w c.requires in
    same_decides c.eq.result (chars n) w
    (λ t. ap chars (same_true n w (sym c.eq.ensures ∙ t)) ∙ own)
    (λ e. c.eq.ensures ∙ ap (λ x. same x w) (same_bytes n w c.utf8.name c.utf8.word (e ∙ sym own)) ∙ same_refl w)
