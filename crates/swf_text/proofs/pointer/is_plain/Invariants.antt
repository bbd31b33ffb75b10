use Rattle.std.proofs.Common.{◌≡◌, flat_map}
use Rattle.swf_text.specs.Pointer.{pointer_char}
use Rattle.swf_text.proofs.pointer.is_plain.Given as goal

abbrev pub invariant-loop-character : goal.invariant-loop-character
invariant-loop-character l = flat_map pointer_char l.yielded ≡ l.yielded
