-- What holds of all instances in memory.
use Rattle.std.specs.Prelude.{◌≡◌, ℕ, List, Option, Some, false, length, slice_get}
use Rattle.swf_meaning.specs.World.{Instance}
use Rattle.swf_listeners.specs.Listeners.{wanted_by}
use Rattle.swf_listeners.specs.Wanted.{Wanted, wanted_of}
use Rattle.swf_offers.specs.EventTypes.{event_types}
use Rattle.swf_queue.specs.Queue.{Queue, is_among}
use Rattle.swf_instances.specs.Held.{instances_in, AreHeld}
use Rattle.swf_instances.specs.Queued.{Queued}
use Rattle.swf_instances.specs.Waits.{alarms_of}

-- the queue agrees with the instances, and the alarms are theirs
pub record Waiting (is : List Instance) (now : ℕ) (queue : Queue) (alarms : List (Option ℕ)) : Type 0 where
  pub queued : Queued now is queue.numbers
  pub count : queue.count ≡ length is
  pub own : alarms ≡ alarms_of is

-- it is noted what each listens for, but for those that are stale
pub record Listening (is : List Instance) (wanted : List Wanted) (stale : Queue) : Type 0 where
  pub many : length wanted ≡ length is
  pub count : stale.count ≡ length is
  pub noted : (n : ℕ) (i : Instance) → slice_get is n ≡ Some i → is_among n stale.numbers ≡ false → wanted_by wanted n ≡ wanted_of (event_types i.node)

-- each is under its own id, and what waits and what is noted is theirs
pub record Kept (es : List (List ℕ × Instance)) (now : ℕ) (queue : Queue) (alarms : List (Option ℕ)) (wanted : List Wanted) (stale : Queue) : Type 0 where
  pub held : AreHeld es
  pub waiting : Waiting (instances_in es) now queue alarms
  pub listening : Listening (instances_in es) wanted stale
