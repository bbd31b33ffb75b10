use Rattle.std.proofs.Common.{◌≡◌, ◌++◌, ◌≤◌, [], length, take, drop}
use Rattle.swf_store.specs.Images.{harmed}
use Rattle.swf_store.proofs.replay.push_all_harmed.Given as goal

abbrev pub invariant-loop-after : goal.invariant-loop-after
invariant-loop-after l = record {
  left : l.after ≡ drop l.number l.changes;
  within : l.number ≤ length l.changes;
  so_far : l.images.items ++ harmed l.synced (take l.number l.changes) l.after ≡ l.initial.images.items ++ harmed l.synced [] l.changes;
}

abbrev pub decreases-loop-after : goal.decreases-loop-after
decreases-loop-after l = length l.after
