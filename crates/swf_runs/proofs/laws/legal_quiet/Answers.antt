use Rattle.swf_runs.proofs.QuietLemmas.{legal_quiet}
use Rattle.swf_runs.proofs.laws.legal_quiet.Goals as goal

pub returns : goal.returns
returns c = record { quiet_is_no_step = legal_quiet }
