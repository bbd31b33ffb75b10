use Rattle.std.proofs.Common.{◌≡◌, ◌++◌, ◌∷◌, [], ◌∙◌, ap, sym, Some}
use Rattle.std.proofs.lemmas.Option.{none-some}
use Rattle.swf_frames.specs.Tree.{frames}
use Rattle.swf_frames.proofs.ViewLemmas.{IsRead, frames_read, changed_there, same_there, forest_there}
use Rattle.swf_frames.proofs.forest.Forest.push.Goals as goal

pub invariant_of-self : goal.invariant_of-self
invariant_of-self g c =
    let read : IsRead c.self.inside.stacks.items c.self.inside.next c.args.strand c.in-Some.place c.index_mut.result.now =
    record { forest = c.self.invariant; found = rw (← c.deref.ensures.value) c.in-Some.ensures.found; is = c.index_mut.ensures.value } in
    forest_there read c.push.new.self

pub returns-in-Err-clause-err : goal.returns-in-Err-clause-err
returns-in-Err-clause-err g c =
    let read : IsRead c.self.inside.stacks.items c.self.inside.next c.args.strand c.in-Some.place c.index_mut.result.now =
    record { forest = c.self.invariant; found = rw (← c.deref.ensures.value) c.in-Some.ensures.found; is = c.index_mut.ensures.value } in
    rw (← c.self.view_is) (ap (λ x. record { next = c.self.inside.next; strands = x }) (same_there read c.push.new.self c.in-Err.ensures.items))

pub returns-in-Err-clause-stale : goal.returns-in-Err-clause-stale
returns-in-Err-clause-stale g c =
    let read : IsRead c.self.inside.stacks.items c.self.inside.next c.args.strand c.in-Some.place c.index_mut.result.now =
    record { forest = c.self.invariant; found = rw (← c.deref.ensures.value) c.in-Some.ensures.found; is = c.index_mut.ensures.value } in
    let there : frames c.args.self.now c.args.strand ≡ Some c.index_mut.result.now.frames.items = rw (← c.self.view_is) (frames_read read) in
    (λ e. cc, λ e. absurd (none-some c.index_mut.result.now.frames.items (sym e ∙ there)))

pub invariant_of-self-2 : goal.invariant_of-self-2
invariant_of-self-2 g c =
    let read : IsRead c.self.inside.stacks.items c.self.inside.next c.args.strand c.in-Some.place c.index_mut.result.now =
    record { forest = c.self.invariant; found = rw (← c.deref.ensures.value) c.in-Some.ensures.found; is = c.index_mut.ensures.value } in
    forest_there read c.push.new.self

pub returns-clause-ok : goal.returns-clause-ok
returns-clause-ok g c =
    let read : IsRead c.self.inside.stacks.items c.self.inside.next c.args.strand c.in-Some.place c.index_mut.result.now =
    record { forest = c.self.invariant; found = rw (← c.deref.ensures.value) c.in-Some.ensures.found; is = c.index_mut.ensures.value } in
    rw (← c.self.view_is) (ap (λ x. record { next = c.self.inside.next; strands = x }) (changed_there read (λ fs. fs ++ c.args.frame ∷ []) c.push.new.self c.in_default-push.ensures.items))

pub returns-clause-stale : goal.returns-clause-stale
returns-clause-stale g c =
    let read : IsRead c.self.inside.stacks.items c.self.inside.next c.args.strand c.in-Some.place c.index_mut.result.now =
    record { forest = c.self.invariant; found = rw (← c.deref.ensures.value) c.in-Some.ensures.found; is = c.index_mut.ensures.value } in
    let there : frames c.args.self.now c.args.strand ≡ Some c.index_mut.result.now.frames.items = rw (← c.self.view_is) (frames_read read) in
    (λ e. cc, λ e. absurd (none-some c.index_mut.result.now.frames.items (sym e ∙ there)))
