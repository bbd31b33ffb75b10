use Rattle.swf_runs.proofs.WaitingLemmas.{legal_waiting}
use Rattle.swf_runs.proofs.laws.legal_waiting.Goals as goal

pub returns : goal.returns
returns c = record { waiting_is_listed = legal_waiting }
