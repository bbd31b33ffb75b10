use Rattle.swf_runs.proofs.WaitingLemmas.{legal_alive}
use Rattle.swf_runs.proofs.laws.legal_alive.Goals as goal

pub returns : goal.returns
returns c = record { forks_go_on = legal_alive }
