use Rattle.std.proofs.Common.{◌∙◌, ap, sym, refl}
use Rattle.std.proofs.lemmas.Str.{encodes-chars, scalars-chars}
use Rattle.std.specs.Str.{encode_utf8_all}
use Rattle.swf_text.proofs.text.Text.as_str.Goals as goal

pub returns-clause-bytes : goal.returns-clause-bytes
returns-clause-bytes c = sym (encodes-chars c.as_str.result.now c.as_str.utf8) ∙ ap encode_utf8_all (rw (← c.self.view_is, ← c.deref.ensures, c.as_str.ensures.value) refl)

pub returns-clause-scalars : goal.returns-clause-scalars
returns-clause-scalars c = rw (← c.self.view_is, ← c.deref.ensures, ← c.as_str.ensures.value) (scalars-chars c.as_str.result.now c.as_str.utf8)
