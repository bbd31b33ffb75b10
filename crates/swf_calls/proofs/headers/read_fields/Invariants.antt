use Rattle.std.proofs.Common.{◌≡◌, ◌++◌, drop, option_map}
use Rattle.swf_value.specs.Node.{members_of}
use Rattle.swf_calls.specs.Headers.{headers_in}
use Rattle.swf_calls.proofs.headers.read_fields.Given as goal

-- the headers so far, and those of the members that are left
abbrev pub invariant-loop-member : goal.invariant-loop-member
invariant-loop-member l = option_map (λ hs. l.fields.items ++ hs) (headers_in (members_of (drop l.member-index l.members))) ≡ headers_in (members_of l.members)
