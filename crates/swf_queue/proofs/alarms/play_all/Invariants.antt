use Rattle.std.proofs.Common.{◌≡◌, ◌≤◌, length, ◌-◌}
use Rattle.swf_queue.proofs.AlarmLemmas.{WonFrom}
use Rattle.swf_queue.proofs.alarms.play_all.Given as goal

abbrev pub invariant-loop-place : goal.invariant-loop-place
invariant-loop-place l = record {
  within : l.place ≤ length l.inner;
  won : WonFrom l.inner l.alarms l.place;
  len : length l.inner ≡ length l.initial.inner;
}

abbrev pub decreases-loop-place : goal.decreases-loop-place
decreases-loop-place l = l.place - 1
