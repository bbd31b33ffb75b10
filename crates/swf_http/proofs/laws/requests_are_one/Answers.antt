use Rattle.swf_http.proofs.VerdictLemmas.{one_request}
use Rattle.swf_http.proofs.laws.requests_are_one.Goals as goal

pub returns : goal.returns
returns c = one_request
