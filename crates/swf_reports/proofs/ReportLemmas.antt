-- In which order the members of a report stand.
use Rattle.std.proofs.Common.{refl, codes}
use Rattle.swf_value.specs.Value.{Value, member, no_members, Ascending}
use Rattle.swf_meaning.specs.Node.{Node, Fresh, Live, Done, Fault}
use Rattle.swf_meaning.specs.Answer.{with_error, with_output}

-- the names stand in order
pub report_ascends : (n : Node) (context id status : Value) → Ascending (member (codes "context") context (with_error n (member (codes "id") id (with_output n (member (codes "status") status no_members)))))
report_ascends (Fresh t r) context id status = (refl, (refl, (tt, tt)))
report_ascends (Live r k) context id status = (refl, (refl, (tt, tt)))
report_ascends (Done w f) context id status = (refl, (refl, (refl, (tt, tt))))
report_ascends (Fault p) context id status = (refl, (refl, (refl, (tt, tt))))
