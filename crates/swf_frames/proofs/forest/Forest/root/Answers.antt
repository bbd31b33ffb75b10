use Rattle.swf_frames.specs.Stacks.{rows}
use Rattle.swf_frames.proofs.DistinctLemmas.{all_distinct}
use Rattle.swf_frames.proofs.forest.Forest.root.Goals as goal

pub returns-clause-distinct : goal.returns-clause-distinct
returns-clause-distinct g c = rw (← c.self.view_is) (all_distinct (rows c.self.inside.stacks.items) c.self.inside.next c.self.invariant.0)
