use Rattle.std.proofs.Common.{◌≡◌, map, take}
use Rattle.swf_protocol.specs.Spoken.{fault_value}
use Rattle.swf_protocol.proofs.spoken.faults_json.Given as goal

abbrev pub invariant-loop-fault : goal.invariant-loop-fault
invariant-loop-fault l = l.items.items ≡ map fault_value (take l.fault-index l.faults)
