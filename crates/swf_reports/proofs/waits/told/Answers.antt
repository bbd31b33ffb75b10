use Rattle.swf_reports.proofs.PendingLemmas.{told_is}
use Rattle.swf_reports.proofs.waits.told.Goals as goal

pub returns : goal.returns
returns c = told_is c.args.events.now c.args.from c.min-from.result c.min-end.result c.min-from.ensures c.min-end.ensures
