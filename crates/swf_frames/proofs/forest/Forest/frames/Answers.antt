use Rattle.std.proofs.Common.{◌∙◌, ap, sym, Some}
use Rattle.swf_frames.proofs.ViewLemmas.{IsRead, frames_read}
use Rattle.swf_frames.proofs.forest.Forest.frames.Goals as goal

pub returns : goal.returns
returns g c =
    let read : IsRead c.self.inside.stacks.items c.self.inside.next c.args.strand c.in_ok-place.place c.index.result.now =
    record { forest = c.self.invariant; found = rw (← c.deref.ensures.value) c.in_ok-place.ensures.found; is = c.index.ensures } in
    rw (← c.self.view_is) (ap Some c.as_slice.ensures.value ∙ sym (frames_read read))
