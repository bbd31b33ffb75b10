use Rattle.std.proofs.Common.{◌≡◌, take, map}
use Rattle.std.specs.Char.{to_ascii_lowercase}
use Rattle.swf_http.proofs.parts.lower_text_of.Given as goal

abbrev pub invariant-loop-b : goal.invariant-loop-b
invariant-loop-b l = l.text ≡ map to_ascii_lowercase (take l.b-index l.bytes)
