use Rattle.std.proofs.Common.{◌∙◌, sym}
use Rattle.swf_record.proofs.Events.{told_where_same}
use Rattle.swf_record.proofs.event.told_event.Goals as goal

pub returns : goal.returns
returns c =
    let read = sym c.in-Some.is ∙ c.in_ok-event.ensures in
    c.then_some.ensures ∙ told_where_same c.args.value.now c.in_ok-written.written c.in-Some.event c.is-same.result read c.in_ok-written.ensures c.is-same.ensures
