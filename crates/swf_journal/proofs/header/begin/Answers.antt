use Rattle.std.proofs.Common.{◌∙◌}
use Rattle.swf_journal.proofs.JournalCallLemmas.{begun_after}
use Rattle.swf_journal.proofs.OpenLemmas.{begun_holds, looks_untouched}
use Rattle.swf_journal.proofs.header.begin.Goals as goal

pub returns-in_err-sync_first-clause-same : goal.returns-in_err-sync_first-clause-same
returns-in_err-sync_first-clause-same g c = λ image seen frames stands. begun_holds image.journal frames stands

pub returns-clause-same : goal.returns-clause-same
returns-clause-same g c = λ image seen frames stands. begun_holds image.journal frames stands

pub returns-clause-calls : goal.returns-clause-calls
returns-clause-calls g c = begun_after _ _ _ c.begin_synced.result c.in_ok-sync_first.ensures.listed.done c.begin_synced.ensures.calls

pub returns-in_err-sync_first-clause-untouched : goal.returns-in_err-sync_first-clause-untouched
returns-in_err-sync_first-clause-untouched g c = λ image seen long. record { same = c.sync_first.ensures.seen; stop = c.sync_first.ensures.stop; any_moment = c.sync_first.ensures.any_moment }

pub returns-clause-untouched : goal.returns-clause-untouched
returns-clause-untouched g c = λ image seen long.
    let S = g.S.Store in
    let one = c.sync_first.ensures in
    let two = c.begin_synced.ensures.untouched image (one.seen ∙ seen) long in
    looks_untouched S.moment S.left_since S.said S.may_leave S.seen c.args.store.now c.sync_first.new.store c.begin_synced.new.store one.said one.seen one.stop one.any_moment two.same two.stop two.any_moment
