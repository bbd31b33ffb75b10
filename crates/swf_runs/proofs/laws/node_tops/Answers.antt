use Rattle.swf_runs.proofs.StrandLemmas.{are_found}
use Rattle.swf_runs.proofs.laws.node_tops.Goals as goal

pub returns : goal.returns
returns c = record { listed_is_found = are_found }
