-- Names and stacks of new strands, one after another.
use Rattle.std.proofs.Common.{◌≡◌, ◌∙◌, refl, sym, ap, ℕ, zero, suc, ◌+◌, ◌<◌, ◌≤◌, List, [], ◌∷◌, ◌++◌, Some, Vec, Global, length, drop, reverse, arith}
use Rattle.std.specs.Prelude.{vec_capacity}
use Rattle.std.proofs.lemmas.List.{append-nil, append_assoc, reverse-append, drop_all, map-append}
use Rattle.swf_frames.specs.Tree.{numbers, fresh}
use Rattle.swf_frames.specs.Stacks.{Row, row_of, rows, no_children, fresh_rows}
use Rattle.swf_frames.specs.Room.{IsSpare}
use Rattle.swf_frames.specs.declared.stack.Stack.{Stack}

pub room_step : (s f s' f' k k' : ℕ) → s + f ≤ k → s' ≡ s + 1 → f' + 1 ≡ f → k' ≡ k → s' + f' ≤ k'
room_step s f s' f' k k' h a b c = omega arith

pub fits_step : (n f f' m : ℕ) → n + f < m → f' + 1 ≡ f → n + 1 + f' < m
fits_step n f f' m h b = omega arith

pub len_step : (l f l' f' : ℕ) → l ≡ f → l' + 1 ≡ l → f' + 1 ≡ f → l' ≡ f'
len_step l f l' f' h a b = omega arith

module _ {F : Type 0} where
  pub spare_with : (v : Vec F Global) (n : ℕ) → v.items ≡ [] → vec_capacity v ≡ n → 1 ≤ n → IsSpare v
  spare_with v n e h l = (e, omega arith)

  -- a stack of one frame goes behind the others
  pub rows_pushed : (ss new : List (Stack F)) (s : Stack F) (p n : ℕ) (frame : F) → new ≡ ss ++ s ∷ [] → s.strand ≡ n → s.parent ≡ Some p → s.children ≡ no_children → s.frames.items ≡ frame ∷ [] → rows new ≡ rows ss ++ record { number = n; parent = Some p; children = no_children; frames = frame ∷ [] } ∷ []
  rows_pushed ss new s p n frame e a b d c =
      ap rows e ∙ (map-append row_of ss (s ∷ []) ∙ λ i. rows ss ++ record { number = a i; parent = b i; children = d i; frames = c i } ∷ [])

  names_more : (fs : List F) (i n : ℕ) → i < length fs → numbers (fresh n (drop i fs)) ≡ n ∷ numbers (fresh (suc n) (drop (suc i) fs))
  names_more [] i n l = absurd (omega arith)
  names_more (f ∷ fs) zero n l = refl
  names_more (f ∷ fs) (suc i) n l = names_more fs i n (omega arith)

  pub names_begin : (fs : List F) (first : ℕ) → numbers (fresh (first + 0) (drop 0 fs)) ≡ numbers (fresh first fs)
  names_begin fs first = let e : first + 0 ≡ first = omega arith in ap (λ n. numbers (fresh n fs)) e

  pub names_step : (fs : List F) (first i : ℕ) (names all : List ℕ) → i < length fs → names ++ numbers (fresh (first + i) (drop i fs)) ≡ all → (names ++ (first + i) ∷ []) ++ numbers (fresh (first + (i + 1)) (drop (i + 1) fs)) ≡ all
  names_step fs first i names all l h =
      let n : suc (first + i) ≡ first + (i + 1) = omega arith in
      let k : suc i ≡ i + 1 = omega arith in
      append_assoc names ((first + i) ∷ []) (numbers (fresh (first + (i + 1)) (drop (i + 1) fs)))
      ∙ (ap (λ xs. names ++ xs) (sym (names_more fs i (first + i) l ∙ λ j. (first + i) ∷ numbers (fresh (n j) (drop (k j) fs)))) ∙ h)

  pub names_end : (fs : List F) (n i : ℕ) (names all : List ℕ) → length fs ≤ i → names ++ numbers (fresh n (drop i fs)) ≡ all → names ≡ all
  names_end fs n i names all l h = sym (append-nil names) ∙ (ap (λ (xs : List F). names ++ numbers (fresh n xs)) (sym (drop_all i fs l)) ∙ h)

  pub stack_step : (rs all : List (Row F)) (p n : ℕ) (frame : F) (fs gs : List F) → gs ≡ fs ++ frame ∷ [] → rs ++ fresh_rows p n (reverse gs) ≡ all → (rs ++ record { number = n; parent = Some p; children = no_children; frames = frame ∷ [] } ∷ []) ++ fresh_rows p (n + 1) (reverse fs) ≡ all
  stack_step rs all p n frame fs gs e h =
      let back : reverse gs ≡ frame ∷ reverse fs = ap reverse e ∙ reverse-append fs (frame ∷ []) in
      let next : suc n ≡ n + 1 = omega arith in
      append_assoc rs (record { number = n; parent = Some p; children = no_children; frames = frame ∷ [] } ∷ []) (fresh_rows p (n + 1) (reverse fs))
      ∙ (ap (λ xs. rs ++ xs) (sym (ap (fresh_rows p n) back ∙ λ j. record { number = n; parent = Some p; children = no_children; frames = frame ∷ [] } ∷ fresh_rows p (next j) (reverse fs))) ∙ h)

  pub stack_end : (rs all : List (Row F)) (p n : ℕ) (fs : List F) → length fs ≡ 0 → rs ++ fresh_rows p n (reverse fs) ≡ all → rs ≡ all
  stack_end rs all p n [] e h = sym (append-nil rs) ∙ h
  stack_end rs all p n (f ∷ fs) e h = absurd (omega arith)
