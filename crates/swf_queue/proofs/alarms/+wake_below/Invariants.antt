use Rattle.std.proofs.Common.{◌*◌, ◌-◌, length}
use Rattle.swf_queue.proofs.alarms.+wake_below.Given as goal

abbrev pub decreases-wake_below : goal.decreases-wake_below
decreases-wake_below l = 2 * length l.inner.now - l.place
