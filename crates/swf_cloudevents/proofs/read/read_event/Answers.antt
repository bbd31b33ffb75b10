use Rattle.std.proofs.Common.{◌∙◌, ap, sym}
use Rattle.swf_cloudevents.specs.Event.{event_of, event_in}
use Rattle.swf_cloudevents.specs.Faults.{faults}
use Rattle.swf_cloudevents.proofs.Firsts.{faulty_as_told}
use Rattle.swf_value.specs.Node.{node_value}
use Rattle.swf_cloudevents.proofs.read.read_event.Goals as goal

pub returns-in_err-check_members-in-Object-clause-bad : goal.returns-in_err-check_members-in-Object-clause-bad
returns-in_err-check_members-in-Object-clause-bad c k w e =
    let handed = rw e at c.from_residual.ensures.1 in
    let ms = c.in-Object.members in
    ap event_of (sym c.node.ensures.value ∙ ap node_value c.in-Object.is) ∙ faulty_as_told (event_in ms) (faults ms) c.in_err-check_members-in-Object.field-0.0 k w c.in_err-check_members-in-Object.ensures (cc handed)
