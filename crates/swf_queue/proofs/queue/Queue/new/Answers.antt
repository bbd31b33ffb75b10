use Rattle.swf_queue.proofs.FlagLemmas.{flagged_none}
use Rattle.swf_queue.proofs.queue.Queue.new.Goals as goal

pub invariant_of-result : goal.invariant_of-result
invariant_of-result c = flagged_none _ _ _ c.new.ensures.items c.new-2.ensures.items
