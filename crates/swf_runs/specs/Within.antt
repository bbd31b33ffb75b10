-- How much a world holds at most.
use Rattle.std.specs.Prelude.{◌≤◌, length}
use Rattle.std.specs.List.{AllByRecursion}
use Rattle.swf_meaning.specs.Fork.{most_branches}
use Rattle.swf_meaning.specs.Strands.{branches_in}
use Rattle.swf_meaning.specs.World.{World}
use Rattle.swf_runs.specs.After.{most_documents, most_instances}

-- no more documents, instances, and branches of the forks at work in an instance than there may be
pub record IsWithin (w : World) : Type 0 where
  pub documents : length w.documents ≤ most_documents
  pub instances : length w.instances ≤ most_instances
  pub branches : AllByRecursion (λ i. branches_in i.node ≤ most_branches) w.instances
