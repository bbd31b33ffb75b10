use Rattle.swf_protocol.proofs.Unspaced.{id_read}
use Rattle.swf_protocol.proofs.line.read_status.Goals as goal

pub returns-clause-speakable : goal.returns-clause-speakable
returns-clause-speakable c = id_read c.in_ok-id.id c.in-Some.word.now c.in_ok-id.ensures (let a = c.if-not-is_id.false in let b = c.is_id.ensures in let d = c.as_bytes.ensures.value in cc)
