use Rattle.swf_runs.proofs.DueLemmas.{legal_over}
use Rattle.swf_runs.proofs.laws.legal_over.Goals as goal

pub returns : goal.returns
returns c = record { timers_end = legal_over }
