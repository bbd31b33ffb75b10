use Rattle.std.proofs.Common.{◌≡◌, length}
use Rattle.swf_instances.specs.Held.{instances_in}
use Rattle.swf_instances.specs.Queued.{Queued}
use Rattle.swf_instances.proofs.next.first_enabled.Given as goal

abbrev pub invariant-loop-number : goal.invariant-loop-number
invariant-loop-number l =
    let is = instances_in l.machines.entries in
    record {
      queue : Queued l.now is l.fn.queue.numbers → Queued l.now is l.queue.numbers;
      count : l.queue.count ≡ l.fn.queue.count;
      room : l.queue.room ≡ l.fn.queue.room;
    }

abbrev pub decreases-loop-number : goal.decreases-loop-number
decreases-loop-number l = length l.queue.numbers
