use Rattle.std.proofs.Common.{◌≡◌, ◌∙◌, ◌-◌, ap, sym, rules, arith, None, length, take, option_and_then}
use Rattle.std.specs.Vec.{vec_len}
use Rattle.swf_frames.specs.Tree.{find, top_frame}
use Rattle.swf_frames.specs.Stacks.{rows, strands_of}
use Rattle.swf_frames.proofs.ViewLemmas.{IsRead, number_within, frames_read, changed_there, forest_there, stays, top_popped}
use Rattle.swf_frames.proofs.forest.Forest.pop.Goals as goal

pub returns-in_err-place-clause-left : goal.returns-in_err-place-clause-left
returns-in_err-place-clause-left g c =
    let none : find (strands_of (rows c.self.inside.stacks.items)) c.args.strand ≡ None = rw (← c.deref.ensures.value) c.in_err-place.ensures.none in
    rw (← c.self.view_is) (ap (λ x. record { next = c.self.inside.next; strands = x }) (sym (stays (λ fs. take (length fs - 1) fs) (strands_of (rows c.self.inside.stacks.items)) c.args.strand none)))

pub index_mut-requires : goal.index_mut-requires
index_mut-requires g c =
    let within = number_within c.deref.result.now c.in_ok-place.place c.args.strand c.in_ok-place.ensures.found in omega arith

pub invariant_of-self : goal.invariant_of-self
invariant_of-self g c =
    let read : IsRead c.self.inside.stacks.items c.self.inside.next c.args.strand c.in_ok-place.place c.index_mut.result.now =
    record { forest = c.self.invariant; found = rw (← c.deref.ensures.value) c.in_ok-place.ensures.found; is = c.index_mut.ensures.value } in
    forest_there read c.pop.new.self

pub returns-clause-top : goal.returns-clause-top
returns-clause-top g c =
    let read : IsRead c.self.inside.stacks.items c.self.inside.next c.args.strand c.in_ok-place.place c.index_mut.result.now =
    record { forest = c.self.invariant; found = rw (← c.deref.ensures.value) c.in_ok-place.ensures.found; is = c.index_mut.ensures.value } in
    let fs = c.index_mut.result.now.frames in
    let len : vec_len fs ≡ length fs.items = search rules in
    rw (← c.self.view_is) (top_popped fs.items c.pop.new.self.items c.pop.result c.pop.ensures.items (rw len at c.pop.ensures.variant) ∙ sym (ap (option_and_then top_frame) (frames_read read)))

pub returns-clause-left : goal.returns-clause-left
returns-clause-left g c =
    let read : IsRead c.self.inside.stacks.items c.self.inside.next c.args.strand c.in_ok-place.place c.index_mut.result.now =
    record { forest = c.self.invariant; found = rw (← c.deref.ensures.value) c.in_ok-place.ensures.found; is = c.index_mut.ensures.value } in
    let fs = c.index_mut.result.now.frames in
    let len : vec_len fs ≡ length fs.items = search rules in
    rw (← c.self.view_is) (ap (λ x. record { next = c.self.inside.next; strands = x }) (changed_there read (λ fs. take (length fs - 1) fs) c.pop.new.self (rw len at c.pop.ensures.rest)))
