use Rattle.std.proofs.Common.{◌≡◌, flat_map, take}
use Rattle.swf_check.specs.Verdict.{fault_line}
use Rattle.swf_check.proofs.verdict.fault_lines.Given as goal

abbrev pub invariant-loop-fault : goal.invariant-loop-fault
invariant-loop-fault l = l.lines.items ≡ flat_map fault_line (take l.fault-index l.faults)
