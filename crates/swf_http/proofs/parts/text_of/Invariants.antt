use Rattle.std.proofs.Common.{◌≡◌, take}
use Rattle.swf_http.proofs.parts.text_of.Given as goal

abbrev pub invariant-loop-b : goal.invariant-loop-b
invariant-loop-b l = l.text ≡ take l.b-index l.bytes
