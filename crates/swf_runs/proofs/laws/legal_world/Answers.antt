use Rattle.swf_runs.proofs.KeepLemmas.{legal_world}
use Rattle.swf_runs.proofs.laws.legal_world.Goals as goal

pub returns : goal.returns
returns c = record { world_is_kept = legal_world }
