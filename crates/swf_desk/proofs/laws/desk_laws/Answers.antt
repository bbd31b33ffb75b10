use Rattle.swf_desk.proofs.ClientLemmas.{right, once, heard, asked_by, answered, silent}
use Rattle.swf_desk.proofs.laws.desk_laws.Goals as goal

pub returns-clause-right : goal.returns-clause-right
returns-clause-right g c = right

pub returns-clause-once : goal.returns-clause-once
returns-clause-once g c = once

pub returns-clause-heard : goal.returns-clause-heard
returns-clause-heard g c = heard

pub returns-clause-inputs : goal.returns-clause-inputs
returns-clause-inputs g c = asked_by _

pub returns-clause-answered : goal.returns-clause-answered
returns-clause-answered g c = answered

pub returns-clause-silent : goal.returns-clause-silent
returns-clause-silent g c = silent
