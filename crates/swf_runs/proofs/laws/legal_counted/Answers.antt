use Rattle.swf_runs.proofs.HistoryLemmas.{legal_counted}
use Rattle.swf_runs.proofs.laws.legal_counted.Goals as goal

pub returns : goal.returns
returns c = record { keys_have_places = legal_counted }
