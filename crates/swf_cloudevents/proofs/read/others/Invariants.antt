use Rattle.std.proofs.Common.{◌≡◌, drop}
use Rattle.swf_value.specs.Node.{members_of}
use Rattle.swf_cloudevents.specs.Event.{others}
use Rattle.swf_cloudevents.proofs.Others.{joined}
use Rattle.swf_cloudevents.proofs.read.others.Given as goal

-- those that were kept, and those of the members that are left
abbrev pub invariant-loop-member : goal.invariant-loop-member
invariant-loop-member l = others (members_of l.members) ≡ joined l.kept.items (others (members_of (drop l.member-index l.members)))
