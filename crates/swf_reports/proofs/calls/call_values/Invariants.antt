use Rattle.std.proofs.Common.{◌≡◌, ◌++◌, drop, map}
use Rattle.swf_meaning.specs.Pending.{call_value}
use Rattle.swf_reports.proofs.calls.call_values.Given as goal

-- with the calls that are left it is all
abbrev pub invariant-loop-call : goal.invariant-loop-call
invariant-loop-call l = l.values.items ++ map call_value (drop l.call-index l.calls) ≡ map call_value l.calls
