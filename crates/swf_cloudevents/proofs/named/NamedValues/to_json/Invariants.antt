use Rattle.std.proofs.Common.{◌≡◌, take}
use Rattle.swf_cloudevents.proofs.named.NamedValues.to_json.Given as goal

abbrev pub invariant-loop-member : goal.invariant-loop-member
invariant-loop-member l = l.members.items ≡ take l.member-index l.member-items
