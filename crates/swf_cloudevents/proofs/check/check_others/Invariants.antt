use Rattle.std.proofs.Common.{◌≡◌, drop}
use Rattle.swf_value.specs.Node.{members_of}
use Rattle.swf_cloudevents.specs.Faults.{other_faults}
use Rattle.swf_cloudevents.proofs.check.check_others.Given as goal

-- the members that are left decide
abbrev pub invariant-loop-member : goal.invariant-loop-member
invariant-loop-member l = other_faults (members_of l.members) ≡ other_faults (members_of (drop l.member-index l.members))
