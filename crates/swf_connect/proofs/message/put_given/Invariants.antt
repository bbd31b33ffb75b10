use Rattle.std.proofs.Common.{◌≡◌, drop}
use Rattle.swf_connect.specs.Sending.{passed_headers, put_fields}
use Rattle.swf_connect.proofs.message.put_given.Given as goal

-- what is left, put among the headers so far
abbrev pub invariant-loop-header : goal.invariant-loop-header
invariant-loop-header l = put_fields (passed_headers (drop l.header-index l.given)) l.headers ≡ put_fields (passed_headers l.given) l.fn.headers
