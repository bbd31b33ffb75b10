use Rattle.std.proofs.Common.{◌≡◌, take, map}
use Rattle.swf_calls.proofs.HeaderLemmas.{field_member}
use Rattle.swf_calls.proofs.headers.field_members.Given as goal

abbrev pub invariant-loop-field : goal.invariant-loop-field
invariant-loop-field l = l.members.items ≡ map field_member (take l.field-index l.fields)
