use Rattle.swf_http.proofs.ResponseVerdicts.{one_response}
use Rattle.swf_http.proofs.laws.responses_are_one.Goals as goal

pub returns : goal.returns
returns c = one_response c.args.head
