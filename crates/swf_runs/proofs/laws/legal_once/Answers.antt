-- No legal run uses a key twice.
use Rattle.swf_runs.proofs.OnceLemmas.{once_of_legal}
use Rattle.swf_runs.proofs.laws.legal_once.Goals as goal

pub returns : goal.returns
returns c = record { no_key_twice = once_of_legal }
