use Rattle.std.proofs.Common.{◌≡◌, ◌+◌, [], length}
use Rattle.swf_store.specs.Replay.{replay as replayed}
use Rattle.swf_store.proofs.replay.replay.Given as goal

abbrev pub invariant-loop-rest : goal.invariant-loop-rest
invariant-loop-rest l = record {
  count : l.number + length l.rest ≡ length l.calls;
  so_far : replayed l.failing l.number l.rest l.files ≡ replayed l.failing 0 l.calls (record { synced = l.first; unsynced = [] });
}

abbrev pub decreases-loop-rest : goal.decreases-loop-rest
decreases-loop-rest l = length l.rest
