use Rattle.swf_runs.proofs.GrowLemmas.{legal_grows}
use Rattle.swf_runs.proofs.laws.legal_grows.Goals as goal

pub returns : goal.returns
returns c = record { nothing_is_taken_back = legal_grows }
