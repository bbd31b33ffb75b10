use Rattle.std.proofs.Common.{◌≡◌, ◌++◌, drop}
use Rattle.swf_evaluation.specs.Builtins.{characters}
use Rattle.swf_jq_builtins.proofs.pieces.each_character.Given as goal

abbrev pub invariant-loop-character : goal.invariant-loop-character
invariant-loop-character l = l.texts.items ++ characters (drop l.character-index l.letters) ≡ characters l.letters
