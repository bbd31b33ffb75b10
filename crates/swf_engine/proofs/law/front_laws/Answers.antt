use Rattle.swf_engine.proofs.FrontLemmas.{reads_on, rest_on, whole_history}
use Rattle.swf_engine.proofs.law.front_laws.Goals as goal

pub returns-clause-reads : goal.returns-clause-reads
returns-clause-reads c = reads_on

pub returns-clause-rest : goal.returns-clause-rest
returns-clause-rest c = rest_on

pub returns-clause-whole : goal.returns-clause-whole
returns-clause-whole c = whole_history
