use Rattle.std.proofs.Common.{◌≡◌, ◌<◌, length}
use Rattle.swf_queue.proofs.AlarmLemmas.{WonBut}
use Rattle.swf_queue.proofs.alarms.Alarms.set.Given as goal

abbrev pub invariant-loop-place : goal.invariant-loop-place
invariant-loop-place l = record {
  inside : l.place < length l.self-inside.inner.items;
  won : WonBut l.self-inside.inner.items l.self-inside.alarms.items l.place;
  wide : length l.self-inside.inner.items ≡ length l.initial.self-inside.inner.items;
  alarms : l.self-inside.alarms ≡ l.initial.self-inside.alarms;
}

abbrev pub decreases-loop-place : goal.decreases-loop-place
decreases-loop-place l = l.place
