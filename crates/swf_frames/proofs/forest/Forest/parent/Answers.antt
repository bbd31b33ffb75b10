use Rattle.std.proofs.Common.{◌≡◌, ◌∙◌, sym, arith, None}
use Rattle.swf_frames.specs.Tree.{find}
use Rattle.swf_frames.specs.Stacks.{rows, strands_of}
use Rattle.swf_frames.proofs.AboveLemmas.{above_absent}
use Rattle.swf_frames.proofs.ViewLemmas.{IsRead, number_within, parent_there}
use Rattle.swf_frames.proofs.forest.Forest.parent.Goals as goal

pub returns-in_err-place : goal.returns-in_err-place
returns-in_err-place g c =
    let none : find (strands_of (rows c.self.inside.stacks.items)) c.args.strand ≡ None = rw (← c.deref.ensures.value) c.in_err-place.ensures.none in
    rw (← c.self.view_is) (c.from_residual.ensures ∙ sym (above_absent None (strands_of (rows c.self.inside.stacks.items)) c.args.strand none))

pub index-requires : goal.index-requires
index-requires g c =
    let within = number_within c.deref.result.now c.in_ok-place.place c.args.strand c.in_ok-place.ensures.found in omega arith

pub returns : goal.returns
returns g c =
    let read : IsRead c.self.inside.stacks.items c.self.inside.next c.args.strand c.in_ok-place.place c.index.result.now =
    record { forest = c.self.invariant; found = rw (← c.deref.ensures.value) c.in_ok-place.ensures.found; is = c.index.ensures } in
    rw (← c.self.view_is) (sym (parent_there read))
