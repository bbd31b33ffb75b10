use Rattle.swf_calls.proofs.ReplyLemmas.{value_again, reply_again, content_within}
use Rattle.swf_calls.proofs.laws.reply_laws.Goals as goal

pub returns-clause-value : goal.returns-clause-value
returns-clause-value c = λ v r e. (value_again v r e).0

pub returns-clause-range : goal.returns-clause-range
returns-clause-range c = λ v r e. (value_again v r e).1

pub returns-clause-reply : goal.returns-clause-reply
returns-clause-reply c = reply_again

pub returns-clause-content : goal.returns-clause-content
returns-clause-content c = content_within
