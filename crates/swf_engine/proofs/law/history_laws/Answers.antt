use Rattle.swf_engine.proofs.LawLemmas.{history_one, damaged_none}
use Rattle.swf_engine.proofs.law.history_laws.Goals as goal

pub returns-clause-one : goal.returns-clause-one
returns-clause-one c = history_one

pub returns-clause-damaged : goal.returns-clause-damaged
returns-clause-damaged c = damaged_none
