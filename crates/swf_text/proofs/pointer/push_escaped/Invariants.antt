use Rattle.std.proofs.Common.{◌≡◌, ◌++◌, flat_map}
use Rattle.swf_text.specs.Pointer.{pointer_char}
use Rattle.swf_text.proofs.pointer.push_escaped.Given as goal

abbrev pub invariant-loop-character : goal.invariant-loop-character
invariant-loop-character l = l.out ≡ l.fn.out ++ flat_map pointer_char l.yielded
