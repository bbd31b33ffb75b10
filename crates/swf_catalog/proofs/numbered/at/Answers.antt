use Rattle.swf_catalog.proofs.TaskLemmas.{task_at-index}
use Rattle.swf_catalog.proofs.numbered.at.Goals as goal

pub returns : goal.returns
returns c = task_at-index _ _ _ c.requires
