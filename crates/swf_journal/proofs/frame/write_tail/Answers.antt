use Rattle.std.proofs.Common.{rules}
use Rattle.swf_journal.specs.Frames.{length_bytes}
use Rattle.swf_journal.proofs.frame.write_tail.Goals as goal

pub returns : goal.returns
unfolding length_bytes
returns c = search rules
