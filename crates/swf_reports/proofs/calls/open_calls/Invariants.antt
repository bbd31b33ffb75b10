use Rattle.std.proofs.Common.{◌≡◌, take}
use Rattle.std.specs.List.{flat_map}
use Rattle.swf_meaning.specs.Pending.{open_calls}
use Rattle.swf_reports.proofs.calls.open_calls.Given as goal

-- the calls of the instances so far
abbrev pub invariant-loop-number : goal.invariant-loop-number
invariant-loop-number l = l.calls.items ≡ flat_map (λ i. open_calls i.node) (take l.number l.instances.instances)
