use Rattle.std.proofs.Common.{sym, ◌∙◌, ap}
use Rattle.swf_journal.specs.Frames.{frame_tail}
use Rattle.swf_journal.proofs.FrameLemmas.{body_in_tail}
use Rattle.swf_journal.proofs.frame.build.Goals as goal

pub invariant_of-result : goal.invariant_of-result
invariant_of-result c =
    let tail = c.in_ok-bytes.ensures in
    tail ∙ ap frame_tail (sym (body_in_tail c.args.body.now c.in_ok-bytes.bytes.items tail))

pub returns : goal.returns
returns c = body_in_tail c.args.body.now c.in_ok-bytes.bytes.items c.in_ok-bytes.ensures
