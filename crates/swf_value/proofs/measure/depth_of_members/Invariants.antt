use Rattle.std.proofs.Common.{◌≡◌, ◌-◌, ◌^◌, ◌≤◌, drop, max, min}
use Rattle.swf_value.specs.Node.{members_of}
use Rattle.swf_value.specs.Value.{depth_members}
use Rattle.swf_value.proofs.measure.depth_of_members.Given as goal

abbrev pub invariant-loop-member : goal.invariant-loop-member
invariant-loop-member l = (l.most ≤ 2 ^ 32 - 1) × (min (max l.most (depth_members (members_of (drop l.member-index l.members)))) (2 ^ 32 - 1) ≡ min (depth_members (members_of l.members)) (2 ^ 32 - 1))
