-- What a map of names holds after one more.
use Rattle.std.proofs.Common.{◌≡◌, ◌∙◌, ap, sym, refl, ℕ, ◌+◌, List, [], ◌∷◌, Bool, true, false, cond, Option, Some, None, is_some}
use Rattle.std.specs.List.{position_from}
use Rattle.swf_text.specs.Same.{same}
use Rattle.swf_text.proofs.SameLemmas.{same_true, same_refl, same_decides}
use Rattle.swf_scope.specs.Names.{Places, nowhere, places_of, added, added_from}

-- a new name
pub inserted : (f g : Places) (k : List ℕ) (i : ℕ) → is_some (f k) ≡ false → ((q : List ℕ) → g q ≡ cond (same k q) (Some i) (f q)) → g ≡ added f k i
inserted f g k i fresh h = λ j q. (h q ∙ sym (ap (λ b. cond b (f q) (cond (same k q) (Some i) (f q))) fresh)) j

first_stays : (o p : Option ℕ) (i : ℕ) (r : Option ℕ) (b : Bool) → (b ≡ true → p ≡ o) → cond (is_some (cond (is_some p) o (cond b (Some i) o))) (cond (is_some p) o (cond b (Some i) o)) r ≡ cond (is_some o) o (cond b (Some i) r)
first_stays None None i r true e = refl
first_stays (Some x) None i r true e = let h = e refl in cc
first_stays None (Some y) i r true e = let h = e refl in cc
first_stays (Some x) (Some y) i r true e = refl
first_stays o None i r false e = refl
first_stays o (Some y) i r false e = refl

same_flip : (a b : List ℕ) → same a b ≡ same b a
same_flip a b = sym (same_decides (same b a) a b (λ e. sym (same_true b a e)) (λ e. ap (same b) e ∙ same_refl b))

pub found : (f : Places) (i : ℕ) (names : List (List ℕ)) (n : List ℕ) → added_from f i names n ≡ cond (is_some (f n)) (f n) (position_from (same n) i names)
found f i [] n = none_left (f n)
  where
    none_left : (o : Option ℕ) → o ≡ cond (is_some o) o None
    none_left None = refl
    none_left (Some x) = refl
found f i (m ∷ ms) n = found (added f m i) (i + 1) ms n ∙ ap (λ b. cond (is_some (cond (is_some (f m)) (f n) (cond b (Some i) (f n)))) (cond (is_some (f m)) (f n) (cond b (Some i) (f n))) (position_from (same n) (i + 1) ms)) (same_flip m n) ∙ first_stays (f n) (f m) i (position_from (same n) (i + 1) ms) (same n m) (λ e. ap f (sym (same_true n m e)))

-- all names of a list
pub all_found : (names : List (List ℕ)) → added_from nowhere 0 names ≡ places_of names
all_found names = λ j n. found nowhere 0 names n j
