use Rattle.swf_protocol.proofs.Again.{command_again}
use Rattle.swf_protocol.proofs.Plain.{never_memory}
use Rattle.swf_protocol.proofs.WordLemmas.{joined_words}
use Rattle.swf_protocol.proofs.laws.command_laws.Goals as goal

pub returns-clause-words : goal.returns-clause-words
returns-clause-words c = joined_words

pub returns-clause-again : goal.returns-clause-again
returns-clause-again c = command_again

pub returns-clause-never : goal.returns-clause-never
returns-clause-never c = never_memory
