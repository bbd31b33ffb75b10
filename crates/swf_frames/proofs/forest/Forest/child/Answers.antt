use Rattle.std.proofs.Common.{◌∙◌, sym, ap, Some, arith}
use Rattle.swf_frames.proofs.KinLemmas.{from_within, from_past}
use Rattle.swf_frames.proofs.ViewLemmas.{IsRead, child_there, child_low}
use Rattle.swf_frames.proofs.forest.Forest.child.Goals as goal

pub overflow_add-children : goal.overflow_add-children
overflow_add-children g c =
    let read : IsRead c.self.inside.stacks.items c.self.inside.next c.args.strand c.in_ok-place.place c.index.result.now =
    record { forest = c.self.invariant; found = rw (← c.deref.ensures.value) c.in_ok-place.ensures.found; is = c.index.ensures } in
    let low = child_low read c.args.number c.if-number-children.true in
    omega arith

pub prove-unreachable-requires : goal.prove-unreachable-requires
prove-unreachable-requires g c =
    let read : IsRead c.self.inside.stacks.items c.self.inside.next c.args.strand c.in_ok-place.place c.index.result.now =
    record { forest = c.self.invariant; found = rw (← c.deref.ensures.value) c.in_ok-place.ensures.found; is = c.index.ensures } in
    let low = child_low read c.args.number c.if-number-children.true in
    absurd (omega arith)

pub returns-then-number-children : goal.returns-then-number-children
returns-then-number-children g c =
    let read : IsRead c.self.inside.stacks.items c.self.inside.next c.args.strand c.in_ok-place.place c.index.result.now =
    record { forest = c.self.invariant; found = rw (← c.deref.ensures.value) c.in_ok-place.ensures.found; is = c.index.ensures } in
    let children = c.index.result.now.children in
    rw (← c.self.view_is) (ap Some c.new.ensures ∙ sym (child_there read c.args.number ∙ from_within children.first children.count c.args.number c.if-number-children.true))

pub returns-else-number-children : goal.returns-else-number-children
returns-else-number-children g c =
    let read : IsRead c.self.inside.stacks.items c.self.inside.next c.args.strand c.in_ok-place.place c.index.result.now =
    record { forest = c.self.invariant; found = rw (← c.deref.ensures.value) c.in_ok-place.ensures.found; is = c.index.ensures } in
    let children = c.index.result.now.children in
    rw (← c.self.view_is) (sym (child_there read c.args.number ∙ from_past children.first children.count c.args.number c.if-number-children.false))
