use Rattle.std.proofs.Common.{◌≡◌, take, map, if◌then◌else◌}
use Rattle.std.specs.Char.{to_ascii_lowercase, to_ascii_uppercase}
use Rattle.swf_jq_builtins.proofs.strings.text_in_case.Given as goal

abbrev pub invariant-loop-character : goal.invariant-loop-character
invariant-loop-character l = l.draft ≡ map (if l.upper then to_ascii_uppercase else to_ascii_lowercase) (take l.character-index l.character-items)
