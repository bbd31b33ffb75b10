use Rattle.std.proofs.Common.{◌≡◌, max}
use Rattle.swf_value.specs.Found.{deepest_member}
use Rattle.swf_value.proofs.whole.depth_of_members.Given as goal

abbrev pub invariant-loop-member : goal.invariant-loop-member
invariant-loop-member l = max l.most (deepest_member l.member-iterator) ≡ deepest_member l.members.entries
