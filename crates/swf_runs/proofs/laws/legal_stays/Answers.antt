use Rattle.swf_runs.proofs.StayLemmas.{legal_stays}
use Rattle.swf_runs.proofs.laws.legal_stays.Goals as goal

pub returns : goal.returns
returns c = record { ended_reports_stay = legal_stays }
