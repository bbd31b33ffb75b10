use Rattle.std.proofs.Common.{◌≡◌, ◌++◌, drop}
use Rattle.swf_forms.proofs.expression.text_of.Given as goal

-- the characters so far and those that are left are all
abbrev pub invariant-loop-character : goal.invariant-loop-character
invariant-loop-character l = l.characters ≡ l.text ++ drop l.character-index l.characters
