use Rattle.std.proofs.Common.{◌≡◌, ◌∙◌, ap, sym, None, Some}
use Rattle.swf_frames.specs.Tree.{find}
use Rattle.swf_frames.specs.Stacks.{rows, strands_of}
use Rattle.swf_frames.proofs.DistinctLemmas.{all_distinct}
use Rattle.swf_frames.proofs.ViewLemmas.{IsRead, frames_read, changed_there, forest_there, stays}
use Rattle.swf_frames.proofs.forest.Forest.replace.Goals as goal

pub invariant_of-self : goal.invariant_of-self
invariant_of-self g c =
    let read : IsRead c.self.inside.stacks.items c.self.inside.next c.args.strand c.in-Some.place c.index_mut.result.now =
    record { forest = c.self.invariant; found = rw (← c.deref.ensures.value) c.in-Some.ensures.found; is = c.index_mut.ensures.value } in
    forest_there read c.replace.new.dest

pub returns-in-Some-clause-former : goal.returns-in-Some-clause-former
returns-in-Some-clause-former g c =
    let read : IsRead c.self.inside.stacks.items c.self.inside.next c.args.strand c.in-Some.place c.index_mut.result.now =
    record { forest = c.self.invariant; found = rw (← c.deref.ensures.value) c.in-Some.ensures.found; is = c.index_mut.ensures.value } in
    rw (← c.self.view_is) (frames_read read ∙ ap (λ v. Some v.items) (sym c.replace.ensures.value))

pub returns-in-Some-clause-replaced : goal.returns-in-Some-clause-replaced
returns-in-Some-clause-replaced g c =
    let read : IsRead c.self.inside.stacks.items c.self.inside.next c.args.strand c.in-Some.place c.index_mut.result.now =
    record { forest = c.self.invariant; found = rw (← c.deref.ensures.value) c.in-Some.ensures.found; is = c.index_mut.ensures.value } in
    rw (← c.self.view_is) (ap (λ x. record { next = c.self.inside.next; strands = x }) (changed_there read (λ _. c.args.frames.items) c.replace.new.dest (ap (λ v. v.items) c.replace.ensures.after)))

pub returns-in-None-clause-replaced : goal.returns-in-None-clause-replaced
returns-in-None-clause-replaced g c =
    let none : find (strands_of (rows c.self.inside.stacks.items)) c.args.strand ≡ None = rw (← c.deref.ensures.value) c.in-None.ensures.none in
    rw (← c.self.view_is) (ap (λ x. record { next = c.self.inside.next; strands = x }) (sym (stays (λ _. c.args.frames.items) (strands_of (rows c.self.inside.stacks.items)) c.args.strand none)))

pub returns-in-Some-clause-distinct : goal.returns-in-Some-clause-distinct
returns-in-Some-clause-distinct g c =
    let read : IsRead c.self.inside.stacks.items c.self.inside.next c.args.strand c.in-Some.place c.index_mut.result.now =
    record { forest = c.self.invariant; found = rw (← c.deref.ensures.value) c.in-Some.ensures.found; is = c.index_mut.ensures.value } in
    all_distinct _ _ (forest_there read c.replace.new.dest).0

pub returns-in-None-clause-distinct : goal.returns-in-None-clause-distinct
returns-in-None-clause-distinct g c = rw (← c.self.view_is) (all_distinct _ _ c.self.invariant.0)
