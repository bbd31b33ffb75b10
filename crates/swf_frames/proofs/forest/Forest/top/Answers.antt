use Rattle.std.proofs.Common.{◌∙◌, ap, sym, option_and_then}
use Rattle.swf_frames.specs.Tree.{top_frame}
use Rattle.swf_frames.proofs.ViewLemmas.{IsRead, frames_read}
use Rattle.swf_frames.proofs.forest.Forest.top.Goals as goal

pub returns : goal.returns
returns g c =
    let read : IsRead c.self.inside.stacks.items c.self.inside.next c.args.strand c.in_ok-place.place c.index.result.now =
    record { forest = c.self.invariant; found = rw (← c.deref.ensures.value) c.in_ok-place.ensures.found; is = c.index.ensures } in
    rw (← c.self.view_is) (c.last.ensures.value ∙ (ap top_frame c.deref-2.ensures.value ∙ sym (ap (option_and_then top_frame) (frames_read read))))
