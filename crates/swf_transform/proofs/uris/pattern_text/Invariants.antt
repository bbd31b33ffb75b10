use Rattle.std.proofs.Common.{◌≡◌, None, drop}
use Rattle.swf_templates.specs.Uris.{pattern_text}
use Rattle.swf_transform.proofs.Joined.{behind}
use Rattle.swf_transform.proofs.uris.pattern_text.Given as goal

abbrev pub invariant-loop-character : goal.invariant-loop-character
invariant-loop-character l = behind l.out (pattern_text l.name (drop l.character-index l.pattern) l.input) ≡ pattern_text None l.pattern l.input
