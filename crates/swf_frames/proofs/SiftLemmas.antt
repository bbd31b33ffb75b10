-- What is not below a strand is kept, in place.
use Rattle.std.proofs.Common.{◌≡◌, inl, inr, ◌∙◌, refl, sym, ap, subst, ℕ, suc, ◌+◌, ◌<◌, ◌≤◌, true, false, List, [], ◌∷◌, ◌++◌, length, take, drop, get_or, set, arith}
use Rattle.std.proofs.lemmas.Bool.{cond-true, cond-false, cases_eq}
use Rattle.std.proofs.lemmas.List.{append-nil, append_assoc, map-append, take_more, take-set-le, drop-set-lt, drop_all, get_or-set_same, get_or-set_other, length-set}
use Rattle.std.proofs.lemmas.List.Edits.{swap_is, length-swap}
use Rattle.std.specs.List.{swap}
use Rattle.swf_frames.specs.Stacks.{Row, row_of, rows, links, Rises, is_below, kept}
use Rattle.swf_frames.proofs.FamilyLemmas.{rest_begins}
use Rattle.swf_frames.specs.declared.stack.Stack.{Stack}

module _ {F : Type 0} where
  pub lower : (rs : List (Row F)) (low bound next : ℕ) → bound ≤ low → Rises low (links rs) next → Rises bound (links rs) next
  lower [] low bound next l r = omega arith
  lower (x ∷ rs) low bound next l r = (omega arith, r.1)

  pub rises_front : (xs ys : List (Row F)) (low next : ℕ) → Rises low (links (xs ++ ys)) next → Rises low (links xs) next
  rises_front [] [] low next r = r
  rises_front [] (y ∷ ys) low next r = let h = rises_front [] ys (suc y.number) next r.1 in omega arith
  rises_front (x ∷ xs) ys low next r = (r.0, rises_front xs ys (suc x.number) next r.1)

  rises_without : (xs : List (Row F)) (x : Row F) (ys : List (Row F)) (low next : ℕ) → Rises low (links (xs ++ x ∷ ys)) next → Rises low (links (xs ++ ys)) next
  rises_without [] x ys low next r = lower ys (suc x.number) low next (omega arith) r.1
  rises_without (z ∷ xs) x ys low next r = (r.0, rises_without xs x ys (suc z.number) next r.1)

  -- the front of the list has what was kept so far, and from the place on it is as it was
  pub record IsSifted (all now : List (Stack F)) (n done place end : ℕ) : Type 0 where
    pub in_range : done ≤ place
    pub len : length now ≡ end
    pub same : rows (take done now) ++ kept n (rows (take done now)) (rows (drop place now)) ≡ kept n [] (rows all)
    pub next : ℕ
    pub rises : Rises 0 (links (rows (take done now) ++ rows (drop place now))) next

  pub sift_begins : (ss : List (Stack F)) (n next end : ℕ) → length ss ≡ end → Rises 0 (links (rows ss)) next → IsSifted ss ss n 0 0 end
  sift_begins ss n next end l r = record { in_range = omega arith; len = l; same = refl; next = next; rises = r }

  pub sift_drops : (all now : List (Stack F)) (n done place end : ℕ) (s : Stack F) → IsSifted all now n done place end → place < end → s ≡ get_or now place s → is_below n (rows (take done now)) s.parent ≡ true → IsSifted all now n done (place + 1) end
  sift_drops all now n done place end s h l e b =
      let front = rows (take done now) in
      let after = rows (drop (place + 1) now) in
      let begins = rest_begins now place s (omega (arith, h.len)) e in
      record {
        in_range = omega (arith, h.in_range);
        len = h.len;
        same = ap (λ rs. front ++ rs) (sym (ap (kept n front) begins ∙ cond-true (is_below n front s.parent) _ _ b)) ∙ h.same;
        next = h.next;
        rises = rises_without front (row_of s) after 0 h.next (subst (λ rs. Rises 0 (links (front ++ rs)) h.next) begins h.rises);
      }

  -- of a list whose element at `j` goes to `i`
  swap_front : (xs : List (Stack F)) (i j : ℕ) (s : Stack F) → i ≤ j → j < length xs → s ≡ get_or xs j s → take (i + 1) (swap xs i j) ≡ take i xs ++ s ∷ []
  swap_front xs i j s l m e =
      let ys = set (set xs i (get_or xs j s)) j (get_or xs i s) in
      let lenx : length (set xs i (get_or xs j s)) ≡ length xs = length-set xs i (get_or xs j s) in
      let leny : length ys ≡ length xs = length-set (set xs i (get_or xs j s)) j (get_or xs i s) ∙ lenx in
      let front : take i ys ≡ take i xs = take-set-le i (set xs i (get_or xs j s)) j (get_or xs i s) l ∙ take-set-le i xs i (get_or xs j s) (omega arith) in
      let same : get_or ys i s ≡ s = elim (cases_eq i j) [
        | inl k ↦ ap (λ p. get_or ys p s) k ∙ (get_or-set_same (set xs i (get_or xs j s)) j (get_or xs i s) s (omega arith) ∙ (ap (λ p. get_or xs p s) k ∙ sym e))
        | inr k ↦ get_or-set_other (set xs i (get_or xs j s)) j i (get_or xs i s) s k ∙ (get_or-set_same xs i (get_or xs j s) s (omega arith) ∙ sym e)
      ] in
      ap (take (i + 1)) (sym (swap_is xs i j s (omega arith) m)) ∙ (take_more ys i s (omega arith) ∙ λ q. front q ++ same q ∷ [])

  swap_back : (xs : List (Stack F)) (i j : ℕ) (d : Stack F) → i ≤ j → j < length xs → drop (j + 1) (swap xs i j) ≡ drop (j + 1) xs
  swap_back xs i j d l m =
      ap (drop (j + 1)) (sym (swap_is xs i j d (omega arith) m))
      ∙ (drop-set-lt (j + 1) (set xs i (get_or xs j d)) j (get_or xs i d) (omega arith) ∙ drop-set-lt (j + 1) xs i (get_or xs j d) (omega arith))

  pub sift_keeps : (all now : List (Stack F)) (n done place end : ℕ) (s : Stack F) → IsSifted all now n done place end → place < end → s ≡ get_or now place s → is_below n (rows (take done now)) s.parent ≡ false → IsSifted all (swap now done place) n (done + 1) (place + 1) end
  sift_keeps all now n done place end s h l e b =
      let front = rows (take done now) in
      let after = rows (drop (place + 1) now) in
      let in_list : place < length now = omega (arith, h.len) in
      let begins = rest_begins now place s in_list e in
      let fronts : rows (take (done + 1) (swap now done place)) ≡ front ++ row_of s ∷ [] = ap rows (swap_front now done place s h.in_range in_list e) ∙ map-append row_of (take done now) (s ∷ []) in
      let afters : rows (drop (place + 1) (swap now done place)) ≡ after = ap rows (swap_back now done place s h.in_range in_list) in
      let was : front ++ (row_of s ∷ kept n (front ++ row_of s ∷ []) after) ≡ kept n [] (rows all) = ap (λ rs. front ++ rs) (sym (ap (kept n front) begins ∙ cond-false (is_below n front s.parent) _ _ b)) ∙ h.same in
      record {
        in_range = omega (arith, h.in_range);
        len = length-swap now done place ∙ h.len;
        same = (λ i. fronts i ++ kept n (fronts i) (afters i)) ∙ (append_assoc front (row_of s ∷ []) (kept n (front ++ row_of s ∷ []) after) ∙ was);
        next = h.next;
        rises = subst (λ rs. Rises 0 (links rs) h.next)
            (ap (λ rs. front ++ rs) begins ∙ (sym (append_assoc front (row_of s ∷ []) after) ∙ λ i. sym fronts i ++ sym afters i)) h.rises;
      }

  pub sift_ends : (all now : List (Stack F)) (n done place end : ℕ) → IsSifted all now n done place end → end ≤ place → rows (take done now) ≡ kept n [] (rows all)
  sift_ends all now n done place end h l =
      let rest : rows (drop place now) ≡ [] = ap rows (drop_all place now (omega (arith, h.len))) in
      sym (append-nil (rows (take done now))) ∙ (ap (λ rs. rows (take done now) ++ kept n (rows (take done now)) rs) (sym rest) ∙ h.same)
