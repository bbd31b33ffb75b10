use Rattle.std.proofs.Common.{◌≡◌, ◌∙◌, ◌+◌, false, true, take, drop, sym, ap, subst, Vec, Global}
use Rattle.swf_frames.specs.Stacks.{rows, is_below}
use Rattle.swf_frames.specs.declared.stack.Stack.{Stack}
use Rattle.swf_frames.proofs.SiftLemmas.{IsSifted, rises_front, sift_keeps, sift_drops}
use Rattle.swf_frames.proofs.family.drop_below.Goals as goal
use Rattle.swf_frames.proofs.family.drop_below.Goals.{then-not-is_below, else-not-is_below}

pub is_below-requires : goal.is_below-requires
is_below-requires g c =
    let h = c.loop-place.invariant in
    let now = c.loop-place.stacks.items in
    (h.next, rw c.deref.ensures.value (rises_front (rows (take c.loop-place.done now)) (rows (drop c.loop-place.place now)) 0 h.next h.rises))

pub loop-place-preserved : goal.loop-place-preserved
loop-place-preserved g c =
    let all = c.args.stacks.now.items in
    let now = c.loop-place.stacks.items in
    let done = c.loop-place.done in
    let place = c.loop-place.place in
    let end = c.len-place-end.result in
    let n = c.args.strand in
    let s = c.index.result.now in
    let told : c.is_below.result ≡ is_below n (rows (take done now)) s.parent = rw c.deref.ensures.value at c.is_below.ensures in
    elim c.if-not-is_below.branch [
      | then-not-is_below w ↦ (let stay : is_below n (rows (take done now)) s.parent ≡ false = sym told ∙ w.if-not-is_below.true in
          let kept = sift_keeps all now n done place end s c.loop-place.invariant c.loop-place-test.true c.index.ensures stay in
          let items = ap (λ (v : Vec (Stack g.row.F.Denot) Global). v.items) w.stacks-is ∙ w.swap.ensures.items in
          subst (λ d. IsSifted all c.if-not-is_below.stacks.items n d (place + 1) end) (sym w.done-is) (subst (λ xs. IsSifted all xs n (done + 1) (place + 1) end) (sym items) kept))
      | else-not-is_below w ↦ (let goes : is_below n (rows (take done now)) s.parent ≡ true = sym told ∙ w.if-not-is_below.false in
          let kept = sift_drops all now n done place end s c.loop-place.invariant c.loop-place-test.true c.index.ensures goes in
          let items = ap (λ (v : Vec (Stack g.row.F.Denot) Global). v.items) w.stacks-is in
          subst (λ d. IsSifted all c.if-not-is_below.stacks.items n d (place + 1) end) (sym w.done-is) (subst (λ xs. IsSifted all xs n done (place + 1) end) (sym items) kept))
    ]
