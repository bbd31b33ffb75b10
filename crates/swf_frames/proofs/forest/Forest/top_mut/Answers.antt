use Rattle.std.proofs.Common.{◌≡◌, ◌∙◌, ◌-◌, ap, sym, rules, inl, inr, length, set, option_and_then}
use Rattle.std.specs.Vec.{vec_len, with_item}
use Rattle.swf_frames.specs.Tree.{top_frame, changed, with_top}
use Rattle.std.proofs.lemmas.Bool.{eqb-true}
use Rattle.swf_frames.specs.Stacks.{rows, strands_of}
use Rattle.swf_frames.proofs.ViewLemmas.{IsRead, frames_read, changed_there, forest_there, top_empty}
use Rattle.swf_frames.proofs.forest.Forest.top_mut.Goals as goal

pub invariant_of-self-lent : goal.invariant_of-self-lent
invariant_of-self-lent g c = λ w.
    let read : IsRead c.self.inside.stacks.items c.self.inside.next c.args.strand c.in_ok-place.place c.index_mut.result.now =
    record { forest = c.self.invariant; found = rw (← c.deref.ensures.value) c.in_ok-place.ensures.found; is = c.index_mut.ensures.value } in
    let fs = c.index_mut.result.now.frames in
    forest_there read (with_item fs (vec_len fs - 1) w)

pub returns-then-is_empty : goal.returns-then-is_empty
returns-then-is_empty g c =
    let read : IsRead c.self.inside.stacks.items c.self.inside.next c.args.strand c.in_ok-place.place c.index.result.now =
    record { forest = c.self.invariant; found = rw (← c.deref.ensures.value) c.in_ok-place.ensures.found; is = c.index.ensures } in
    let fs = c.index.result.now.frames in
    let len : vec_len fs ≡ length fs.items = search rules in
    let empty : length fs.items ≡ 0 = sym len ∙ eqb-true (vec_len fs) 0 (sym c.is_empty.ensures ∙ c.if-is_empty.true) in (
      ap inr c.self.view_is,
      record {
        writes_back = tt;
        value = rw (← c.self.view_is) (sym (ap (option_and_then top_frame) (frames_read read) ∙ top_empty fs.items empty));
      },
    )

pub returns-else-is_empty : goal.returns-else-is_empty
returns-else-is_empty g c =
    let read : IsRead c.self.inside.stacks.items c.self.inside.next c.args.strand c.in_ok-place.place c.index_mut.result.now =
    record { forest = c.self.invariant; found = rw (← c.deref.ensures.value) c.in_ok-place.ensures.found; is = c.index_mut.ensures.value } in
    let fs = c.index_mut.result.now.frames in
    let ss = c.self.inside.stacks.items in
    let len : vec_len fs ≡ length fs.items = search rules in
    let ends : (w : g.row.F.Denot) → strands_of (rows (set ss c.in_ok-place.place (record c.index_mut.result.now { frames = with_item fs (vec_len fs - 1) w }))) ≡ changed (λ xs. set xs (length xs - 1) w) (strands_of (rows ss)) c.args.strand = λ w. changed_there read (λ xs. set xs (length xs - 1) w) (with_item fs (vec_len fs - 1) w) (rw len) in (
      (λ i. inl (c.top_mut.result.ghost_name, λ w. record { next = c.self.inside.next; strands = ends w i }))
          ∙ ap (λ t. inl (c.top_mut.result.ghost_name, λ w. with_top t c.args.strand w)) c.self.view_is,
      record { writes_back = tt; value = rw (← c.self.view_is) (sym (ap (option_and_then top_frame) (frames_read read) ∙ (rw len at c.top_mut.ensures.value))) },
    )
