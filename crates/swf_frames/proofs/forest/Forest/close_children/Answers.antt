use Rattle.std.proofs.Common.{◌≡◌, ◌∙◌, [], None, Some, sym, ap, subst, arith}
use Rattle.swf_frames.specs.Tree.{find, no_strands}
use Rattle.swf_frames.specs.Stacks.{rows, links, strands_of, number_at, no_children, kept, Rises}
use Rattle.swf_frames.specs.Kin.{with_children}
use Rattle.swf_frames.proofs.SplitLemmas.{stays_below}
use Rattle.swf_frames.proofs.CloseLemmas.{frames_found}
use Rattle.swf_frames.proofs.GrowLemmas.{links_same, close_rows}
use Rattle.swf_frames.proofs.ViewLemmas.{number_within}
use Rattle.swf_frames.proofs.forest.Forest.close_children.Goals as goal

pub returns-in_default-clause-closed : goal.returns-in_default-clause-closed
returns-in_default-clause-closed g c =
    let rs = rows c.self.inside.stacks.items in
    let none : find (strands_of rs) c.args.strand ≡ None = rw (← c.deref.ensures.value) c.in_default.ensures.none in
    rw (← c.self.view_is) (ap (λ x. record { next = c.self.inside.next; strands = x }) (sym (stays_below no_strands (strands_of rs) c.args.strand none)))

pub set_children-requires : goal.set_children-requires
set_children-requires g c =
    let within = number_within c.deref.result.now c.in-Some.place c.args.strand c.in-Some.ensures.found in omega arith

pub drop_below-requires : goal.drop_below-requires
drop_below-requires g c =
    let same = ap links c.set_children.ensures.rows ∙ links_same (rows c.self.inside.stacks.items) c.in-Some.place c.none.result in
    (c.self.inside.next, subst (λ ls. Rises 0 ls c.self.inside.next) (sym same) c.self.invariant.0.0)

pub invariant_of-self : goal.invariant_of-self
invariant_of-self g c =
    let rs = rows c.self.inside.stacks.items in
    let n = c.args.strand in
    let place = c.in-Some.place in
    let found : number_at rs place ≡ Some n = rw (← c.deref.ensures.value) c.in-Some.ensures.found in
    let new : rows c.drop_below.new.stacks.items ≡ kept n [] (with_children rs place no_children) = c.drop_below.ensures ∙ ap (kept n []) (c.set_children.ensures.rows ∙ ap (with_children rs place) c.none.ensures) in
    (close_rows rs c.self.inside.next c.self.invariant place n found (rows c.drop_below.new.stacks.items) new).1

pub returns-clause-told : goal.returns-clause-told
returns-clause-told g c =
    rw (← c.self.view_is) (sym (frames_found (rows c.self.inside.stacks.items) c.self.inside.next c.self.invariant.0 c.args.strand (rw (← c.deref.ensures.value) (sym c.in-Some.ensures.told))))

pub returns-clause-closed : goal.returns-clause-closed
returns-clause-closed g c =
    let rs = rows c.self.inside.stacks.items in
    let n = c.args.strand in
    let place = c.in-Some.place in
    let found : number_at rs place ≡ Some n = rw (← c.deref.ensures.value) c.in-Some.ensures.found in
    let new : rows c.drop_below.new.stacks.items ≡ kept n [] (with_children rs place no_children) = c.drop_below.ensures ∙ ap (kept n []) (c.set_children.ensures.rows ∙ ap (with_children rs place) c.none.ensures) in
    rw (← c.self.view_is) (ap (λ x. record { next = c.self.inside.next; strands = x }) (close_rows rs c.self.inside.next c.self.invariant place n found (rows c.drop_below.new.stacks.items) new).0)
