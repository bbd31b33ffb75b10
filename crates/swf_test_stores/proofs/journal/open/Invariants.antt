use Rattle.swf_journal.specs.Place.{IsReadingOf}
use Rattle.swf_test_stores.proofs.journal.open.Given as goal

abbrev pub invariant-loop-frames : goal.invariant-loop-frames
invariant-loop-frames g l = IsReadingOf (g.S.Store.seen l.store) l.reading
