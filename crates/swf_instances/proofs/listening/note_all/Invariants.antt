use Rattle.std.proofs.Common.{◌≡◌, length}
use Rattle.swf_instances.specs.Held.{instances_in}
use Rattle.swf_instances.specs.Kept.{Listening}
use Rattle.swf_instances.proofs.listening.note_all.Given as goal

abbrev pub invariant-loop-number : goal.invariant-loop-number
invariant-loop-number l = record {
  listening : Listening (instances_in l.machines.entries) l.listeners.wanted l.stale;
  room : l.listeners.room ≡ l.fn.listeners.room;
  stale : l.stale.room ≡ l.fn.stale.room;
}

abbrev pub decreases-loop-number : goal.decreases-loop-number
decreases-loop-number l = length l.stale.numbers
