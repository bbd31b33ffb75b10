use Rattle.std.proofs.Common.{◌≡◌, take}
use Rattle.swf_duration.specs.Capped.{capped}
use Rattle.swf_duration.specs.Duration.{number}
use Rattle.swf_duration.proofs.duration.number.Given as goal

abbrev pub invariant-loop-character : goal.invariant-loop-character
invariant-loop-character l = l.value ≡ capped (number (take l.character-index l.text))
