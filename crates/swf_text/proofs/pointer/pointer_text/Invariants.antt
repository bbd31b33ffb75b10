use Rattle.std.proofs.Common.{◌≡◌, ◌++◌, drop}
use Rattle.swf_text.specs.Pointer.{pointer}
use Rattle.swf_text.proofs.pointer.pointer_text.Given as goal

abbrev pub invariant-loop-part : goal.invariant-loop-part
invariant-loop-part l = l.out ++ pointer (drop l.part-index l.part-items) ≡ pointer l.part-items
