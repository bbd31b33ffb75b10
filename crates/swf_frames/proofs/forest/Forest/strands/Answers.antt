use Rattle.std.proofs.Common.{◌≡◌, ◌∙◌, ◌<◌, ◌++◌, ◌∷◌, [], length, drop, sym, ap, rules, arith}
use Rattle.std.proofs.lemmas.Bool.{eqb-true, eqb-false}
use Rattle.std.proofs.lemmas.List.{take_rest}
use Rattle.std.specs.Vec.{vec_len}
use Rattle.swf_frames.specs.Tree.{numbers, leaves}
use Rattle.swf_frames.specs.Stacks.{rows, under, strands_of}
use Rattle.swf_frames.proofs.FamilyLemmas.{length_nil, root_leaf, root_inner}
use Rattle.swf_frames.proofs.forest.Forest.strands.Goals as goal
use Rattle.swf_frames.proofs.forest.Forest.strands.Goals.{then-is_empty+in_ok-push, else-is_empty}

pub returns : goal.returns
returns g c =
    let ss = c.self.inside.stacks.items in
    let root = c.root-root.result in
    let below = leaves (under root (rows (drop 1 ss))) in
    let rooted : numbers (strands_of (rows ss)) ≡ root ∷ [] = rw (← c.self.view_is) at c.root-root.ensures.root in
    let list = c.list_leaves.new.list in
    let listed : list.items ≡ below = rw (c.new-list.ensures.items, c.deref.ensures.value, take_rest ss 1) at c.in_ok-list_leaves.ensures in
    let len : vec_len list ≡ length list.items = search rules in
    rw (← c.self.view_is) (elim c.if-is_empty.branch [
      | then-is_empty+in_ok-push w ↦ (let zero = eqb-true (vec_len list) 0 (sym c.is_empty.ensures ∙ w.if-is_empty.true) in
          let empty : list.items ≡ [] = length_nil list.items (sym len ∙ zero) in
          rw w.list-is (w.in_ok-push.ensures.items ∙ (ap (λ xs. xs ++ root ∷ []) empty ∙ sym (root_leaf ss root rooted (sym listed ∙ empty)))))
      | else-is_empty w ↦ (let more = eqb-false (vec_len list) 0 (sym c.is_empty.ensures ∙ w.if-is_empty.false) in
          let some : 0 < length below = omega (arith, len, ap length listed, more) in
          rw w.list-is (listed ∙ sym (root_inner ss root rooted some)))
    ])
