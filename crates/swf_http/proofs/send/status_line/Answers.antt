use Rattle.swf_http.specs.Sent.{status_line}
use Rattle.swf_http.proofs.send.status_line.Goals as goal

pub returns : goal.returns
unfolding status_line
returns c = c.status_parts.ensures
