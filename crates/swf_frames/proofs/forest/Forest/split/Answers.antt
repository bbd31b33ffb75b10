use Rattle.std.proofs.Common.{◌≡◌, ◌∙◌, ◌+◌, ◌++◌, ◌≤◌, ℕ, Some, None, option_map, length, refl, sym, ap, subst, rules, arith}
use Rattle.std.proofs.lemmas.Bool.{false≢true}
use Rattle.std.proofs.lemmas.Option.{none-some}
use Rattle.std.specs.Option.{is_some}
use Rattle.std.specs.Vec.{vec_len}
use Rattle.swf_frames.specs.Tree.{Tree, frames, child}
use Rattle.swf_frames.specs.Stacks.{rows, fresh_rows}
use Rattle.swf_frames.specs.Kin.{IsForest, with_children}
use Rattle.swf_frames.proofs.SplitLemmas.{unused}
use Rattle.swf_frames.proofs.KinLemmas.{from_within, from_past}
use Rattle.swf_frames.proofs.ViewLemmas.{IsRead, number_within, frames_read, child_there}
use Rattle.swf_frames.proofs.GrowLemmas.{split_there}
use Rattle.swf_frames.proofs.forest.Forest.split.Goals as goal

pub returns-then-index-gt0-clause-stale : goal.returns-then-index-gt0-clause-stale
returns-then-index-gt0-clause-stale g c =
    let read : IsRead c.self.inside.stacks.items c.self.inside.next c.args.strand c.in-Some.place c.index.result.now =
    record { forest = c.self.invariant; found = rw (← c.deref.ensures.value) c.in-Some.ensures.found; is = c.index.ensures } in
    let there : frames c.args.self.now c.args.strand ≡ Some c.index.result.now.frames.items = rw (← c.self.view_is) (frames_read read) in
    (λ e. cc, λ e. absurd (none-some c.index.result.now.frames.items (sym e ∙ there)))

pub returns-then-index-gt0-clause-has_children : goal.returns-then-index-gt0-clause-has_children
returns-then-index-gt0-clause-has_children g c =
    let read : IsRead c.self.inside.stacks.items c.self.inside.next c.args.strand c.in-Some.place c.index.result.now =
    record { forest = c.self.invariant; found = rw (← c.deref.ensures.value) c.in-Some.ensures.found; is = c.index.ensures } in
    let children = c.index.result.now.children in
    let first : child c.args.self.now c.args.strand 0 ≡ Some (children.first + 0) = rw (← c.self.view_is) (child_there read 0 ∙ from_within children.first children.count 0 c.if-index-gt0.true) in
    (λ e. ap is_some first, λ e. refl)

pub returns-in_default-make_room-clause-stale : goal.returns-in_default-make_room-clause-stale
returns-in_default-make_room-clause-stale g c =
    let read : IsRead c.self.inside.stacks.items c.self.inside.next c.args.strand c.in-Some.place c.index.result.now =
    record { forest = c.self.invariant; found = rw (← c.deref.ensures.value) c.in-Some.ensures.found; is = c.index.ensures } in
    let there : frames c.args.self.now c.args.strand ≡ Some c.index.result.now.frames.items = rw (← c.self.view_is) (frames_read read) in
    (λ e. cc, λ e. absurd (none-some c.index.result.now.frames.items (sym e ∙ there)))

pub returns-in_default-make_room-clause-has_children : goal.returns-in_default-make_room-clause-has_children
returns-in_default-make_room-clause-has_children g c =
    let read : IsRead c.self.inside.stacks.items c.self.inside.next c.args.strand c.in-Some.place c.index.result.now =
    record { forest = c.self.invariant; found = rw (← c.deref.ensures.value) c.in-Some.ensures.found; is = c.index.ensures } in
    let children = c.index.result.now.children in
    let none : child c.args.self.now c.args.strand 0 ≡ None = rw (← c.self.view_is) (child_there read 0 ∙ from_past children.first children.count 0 c.if-index-gt0.false) in
    (λ e. cc, λ e. absurd (false≢true (sym (ap is_some none) ∙ e)))

pub set_children-requires : goal.set_children-requires
set_children-requires g c =
    let stacks = c.make_room.new.stacks in
    let vec : vec_len stacks ≡ length stacks.items = search rules in
    let same = ap length c.make_room.ensures.stacks in
    let within = number_within c.self.inside.stacks.items c.in-Some.place c.args.strand (rw (← c.deref.ensures.value) c.in-Some.ensures.found) in
    omega arith

pub invariant_of-self-2 : goal.invariant_of-self-2
invariant_of-self-2 g c =
    let read : IsRead c.self.inside.stacks.items c.self.inside.next c.args.strand c.in-Some.place c.index.result.now =
    record { forest = c.self.invariant; found = rw (← c.deref.ensures.value) c.in-Some.ensures.found; is = c.index.ensures } in
    let fs = c.args.frames.items in
    let next = c.self.inside.next in
    let vec : vec_len c.args.frames ≡ length fs = search rules in
    let len : c.len.result ≡ length fs = c.len.ensures ∙ vec in
    let grown = c.add_stacks.ensures
    ∙ ap (λ rs. rs ++ fresh_rows c.args.strand next fs) (c.set_children.ensures.rows ∙ λ i. with_children (rows (c.make_room.ensures.stacks i)) c.in-Some.place (record { first = next; count = len i })) in
    let made = split_there read (omega (arith, c.if-index-gt0.false)) fs c.add_stacks.new.stacks.items grown in
    let more : c.len-2.result ≡ length fs = c.len-2.ensures ∙ vec in
    subst (λ k. IsForest (rows c.add_stacks.new.stacks.items) (next + k)) (sym more) made.1

pub returns-clause-ok : goal.returns-clause-ok
returns-clause-ok g c =
    let read : IsRead c.self.inside.stacks.items c.self.inside.next c.args.strand c.in-Some.place c.index.result.now =
    record { forest = c.self.invariant; found = rw (← c.deref.ensures.value) c.in-Some.ensures.found; is = c.index.ensures } in
    let fs = c.args.frames.items in
    let next = c.self.inside.next in
    let vec : vec_len c.args.frames ≡ length fs = search rules in
    let len : c.len.result ≡ length fs = c.len.ensures ∙ vec in
    let grown = c.add_stacks.ensures
    ∙ ap (λ rs. rs ++ fresh_rows c.args.strand next fs) (c.set_children.ensures.rows ∙ λ i. with_children (rows (c.make_room.ensures.stacks i)) c.in-Some.place (record { first = next; count = len i })) in
    let made = split_there read (omega (arith, c.if-index-gt0.false)) fs c.add_stacks.new.stacks.items grown in
    let more : c.len-2.result ≡ length fs = c.len-2.ensures ∙ vec in
    rw (← c.self.view_is) (λ i. record { next = next + more i; strands = made.0 i })

pub returns-clause-unused : goal.returns-clause-unused
returns-clause-unused g c =
    let P : Tree g.row.F.Denot → Type 0 = λ t. (n : ℕ) → t.next ≤ n → frames t n ≡ None in
    subst P c.self.view_is (λ n h. ap (option_map (λ b. b.frames)) (unused (rows c.self.inside.stacks.items) c.self.inside.next c.self.invariant.0 n h))

pub returns-clause-stale : goal.returns-clause-stale
returns-clause-stale g c =
    let read : IsRead c.self.inside.stacks.items c.self.inside.next c.args.strand c.in-Some.place c.index.result.now =
    record { forest = c.self.invariant; found = rw (← c.deref.ensures.value) c.in-Some.ensures.found; is = c.index.ensures } in
    let there : frames c.args.self.now c.args.strand ≡ Some c.index.result.now.frames.items = rw (← c.self.view_is) (frames_read read) in
    (λ e. cc, λ e. absurd (none-some c.index.result.now.frames.items (sym e ∙ there)))

pub returns-clause-has_children : goal.returns-clause-has_children
returns-clause-has_children g c =
    let read : IsRead c.self.inside.stacks.items c.self.inside.next c.args.strand c.in-Some.place c.index.result.now =
    record { forest = c.self.invariant; found = rw (← c.deref.ensures.value) c.in-Some.ensures.found; is = c.index.ensures } in
    let children = c.index.result.now.children in
    let none : child c.args.self.now c.args.strand 0 ≡ None = rw (← c.self.view_is) (child_there read 0 ∙ from_past children.first children.count 0 c.if-index-gt0.false) in
    (λ e. cc, λ e. absurd (false≢true (sym (ap is_some none) ∙ e)))
