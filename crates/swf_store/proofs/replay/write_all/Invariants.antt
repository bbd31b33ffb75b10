use Rattle.std.proofs.Common.{◌≡◌, drop}
use Rattle.swf_store.specs.Replay.{whole}
use Rattle.swf_store.proofs.replay.write_all.Given as goal

abbrev pub invariant-loop-change : goal.invariant-loop-change
invariant-loop-change l = whole l.image (drop l.change-index l.changes) ≡ whole l.initial.image l.changes
