use Rattle.swf_jq_parse.proofs.Complete.{complete}
use Rattle.swf_jq_parse.proofs.First.{sound, unambiguous, is_first}
use Rattle.swf_jq_parse.proofs.laws.grammar_laws.Goals as goal

pub returns : goal.returns
returns c = (complete, sound, unambiguous, is_first)
