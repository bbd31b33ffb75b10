-- What a forest has, and what it becomes, at a place that was found.
use Rattle.std.proofs.Common.{◌≡◌, ◌↔◌, ◌++◌, ◌-◌, IsSome, ◌∙◌, refl, sym, ap, subst, ℕ, zero, suc, ◌<◌, ◌+◌, List, [], ◌∷◌, Some, None, Option, Bool, true, false, cond, ◌==◌, option_map, option_and_then, get_or, slice_get, set, length, drop, Vec, Global, arith}
use Rattle.std.proofs.lemmas.Option.{same_Some, slice_get-get_or, get_or_from_slice_get}
use Rattle.std.proofs.lemmas.List.{length_push, get_or_push, map-set, set-get_or}
use Rattle.std.proofs.lemmas.Bool.{false≢true}
use Rattle.std.specs.Option.{option_to_list}
use Rattle.swf_frames.specs.Tree.{Branch, top_frame, numbers, find, above, changed, strand, no_strands, Strands}
use Rattle.swf_frames.specs.Stacks.{Row, row_of, rows, strands_of, number_at, IsLinked}
use Rattle.swf_frames.specs.Kin.{IsForest, numbers_from}
use Rattle.swf_frames.proofs.FindLemmas.{branch_at, present, none_parts}
use Rattle.swf_frames.proofs.AboveLemmas.{parent_at}
use Rattle.swf_frames.proofs.SearchLemmas.{at_rows}
use Rattle.swf_frames.proofs.ChangeLemmas.{same_links, all_changes}
use Rattle.swf_frames.proofs.KinLemmas.{from_within, numbers_low, known_at, known_changed, rises_rest}
use Rattle.swf_frames.specs.declared.stack.Stack.{Stack}

module _ {F : Type 0} where
  pub number_within : (ss : List (Stack F)) (i n : ℕ) → number_at (rows ss) i ≡ Some n → i < length ss
  number_within [] i n e = cc
  number_within (s ∷ ss) zero n e = omega arith
  number_within (s ∷ ss) (suc i) n e = let h = number_within ss i n e in omega arith

-- a stack of a forest, read at the place of a number
pub record IsRead {F : Type 0} (ss : List (Stack F)) (next n i : ℕ) (s : Stack F) : Type 0 where
  pub forest : IsForest (rows ss) next
  pub found : number_at (rows ss) i ≡ Some n
  pub is : s ≡ get_or ss i s

module _ {F : Type 0} {ss : List (Stack F)} {next n i : ℕ} {s : Stack F} (h : IsRead ss next n i s) where
  pub row_there : slice_get (rows ss) i ≡ Some (row_of s)
  row_there = at_rows ss i s (slice_get-get_or ss i s (number_within ss i n h.found) ∙ ap Some (sym h.is))

  pub number_there : s.strand ≡ n
  number_there = same_Some s.strand n (ap (option_map (λ (r : Row F). r.number)) (sym row_there) ∙ h.found)

  pub branch_there : find (strands_of (rows ss)) n ≡ Some (branch_at (rows ss) i (row_of s))
  branch_there = ap (find (strands_of (rows ss))) (sym number_there) ∙ present (rows ss) next h.forest.0 i (row_of s) row_there

  pub frames_read : option_map (λ b. b.frames) (find (strands_of (rows ss)) n) ≡ Some s.frames.items
  frames_read = ap (option_map (λ b. b.frames)) branch_there

  pub parent_there : above None (strands_of (rows ss)) n ≡ s.parent
  parent_there = ap (above None (strands_of (rows ss))) (sym number_there) ∙ parent_at (rows ss) next h.forest.0 i (row_of s) row_there

  -- other frames there
  pub changed_there : (f : List F → List F) (v : Vec F Global) → v.items ≡ f s.frames.items → strands_of (rows (set ss i (record s { frames = v }))) ≡ changed f (strands_of (rows ss)) n
  changed_there f v k =
      ap strands_of (map-set row_of ss i (record s { frames = v }))
      ∙ (all_changes f (rows ss) next h.forest.0 i (row_of s) v.items row_there k ∙ ap (changed f (strands_of (rows ss))) number_there)

  -- the same frames in another place of memory
  pub same_there : (v : Vec F Global) → v.items ≡ s.frames.items → strands_of (rows (set ss i (record s { frames = v }))) ≡ strands_of (rows ss)
  same_there v k =
      ap strands_of
      (map-set row_of ss i (record s { frames = v })
      ∙ (ap (λ fs. set (rows ss) i (record { number = s.strand; parent = s.parent; children = s.children; frames = fs })) k
      ∙ (ap (set (rows ss) i) (sym (get_or_from_slice_get (rows ss) i (row_of s) (row_of s) row_there)) ∙ set-get_or (rows ss) i (row_of s))))

  pub forest_there : (v : Vec F Global) → IsForest (rows (set ss i (record s { frames = v }))) next
  forest_there v =
      subst (λ rs. IsForest rs next) (sym (map-set row_of ss i (record s { frames = v }))) (
        subst (λ ls. IsLinked ls next) (sym (same_links (rows ss) i (row_of s) v.items row_there)) h.forest.0,
        known_changed (rows ss) 0 next h.forest.0.0 i (row_of s) v.items row_there h.forest.1,
      )

  pub child_there : (k : ℕ) → option_and_then (λ b. slice_get (numbers b.below) k) (find (strands_of (rows ss)) n) ≡ slice_get (numbers_from s.children.first s.children.count) k
  child_there k =
      ap (option_and_then (λ b. slice_get (numbers b.below) k)) branch_there
      ∙ ap (λ xs. slice_get xs k) (known_at (rows ss) h.forest.1 i (row_of s) row_there)

  pub child_low : (k : ℕ) → k < s.children.count → s.children.first + k < next
  child_low k l =
      numbers_low (drop (suc i) (rows ss)) 0 next (rises_rest (rows ss) 0 next h.forest.0.0 (suc i)) s.strand k (s.children.first + k)
      (ap (λ xs. slice_get xs k) (known_at (rows ss) h.forest.1 i (row_of s) row_there) ∙ from_within s.children.first s.children.count k l)

module _ {F : Type 0} (f : List F → List F) where
  no_match : (b : Bool) (m : ℕ) (z : Branch F) (o : Option (Branch F)) (x y : List F) → cond b (Some z) o ≡ None → cond b x y ≡ y
  no_match true m z o x y h = cc
  no_match false m z o x y h = refl

  -- what has no such number stays
  pub stays : (x : Strands F) (n : ℕ) → find x n ≡ None → changed f x n ≡ x
  stays no_strands n h = refl
  stays (strand m fs below after) n h =
      let k = none_parts (m == n) (record { frames = fs; below = below }) (find below n) (find after n) h in
      λ i. strand m (no_match (m == n) m (record { frames = fs; below = below }) _ (f fs) fs h i) (stays below n k.0 i) (stays after n k.1 i)

module _ {F : Type 0} where
  -- a list that ends so has this at its top
  pub top_popped : (xs ys : List F) (r : Option F) → xs ≡ ys ++ option_to_list r → (IsSome r ↔ (0 < length xs)) → r ≡ top_frame xs
  top_popped [] ys None e h = refl
  top_popped (x ∷ xs) ys None e h = absurd (false≢true (h.1 (omega arith)))
  top_popped xs ys (Some y) e h =
      let l : length xs ≡ length ys + 1 = ap length e ∙ length_push ys y in
      let i : length xs - 1 ≡ length ys = omega arith in
      sym (slice_get-get_or xs (length xs - 1) y (omega arith) ∙ ap Some (ap (λ k. get_or xs k y) i ∙ (ap (λ zs. get_or zs (length ys) y) e ∙ get_or_push ys y y (length ys) refl)))

  pub top_empty : (xs : List F) → length xs ≡ 0 → top_frame xs ≡ None
  top_empty [] e = refl
  top_empty (x ∷ xs) e = absurd (omega arith)
