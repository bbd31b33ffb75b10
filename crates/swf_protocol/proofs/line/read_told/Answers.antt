use Rattle.swf_protocol.proofs.Speaking.{told_again}
use Rattle.swf_protocol.proofs.line.read_told.Goals as goal

pub returns-in-Ok-clause-speakable : goal.returns-in-Ok-clause-speakable
returns-in-Ok-clause-speakable c = told_again c.in_ok-value.value c.in-Ok.event c.in_ok-value.ensures.said c.in-Ok.ensures.event
