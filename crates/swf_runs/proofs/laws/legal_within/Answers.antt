use Rattle.swf_runs.proofs.LimitLemmas.{legal_within}
use Rattle.swf_runs.proofs.laws.legal_within.Goals as goal

pub returns : goal.returns
returns c = record { limits_hold = legal_within }
