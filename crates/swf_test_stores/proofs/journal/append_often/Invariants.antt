use Rattle.swf_journal.specs.Place.{IsJournalOf}
use Rattle.swf_test_stores.proofs.journal.append_often.Given as goal

abbrev pub invariant-loop-appended : goal.invariant-loop-appended
invariant-loop-appended g l = IsJournalOf (g.S.Store.seen l.store) l.journal
