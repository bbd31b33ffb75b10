-- The flags of types, as they are made, written and read.
use Rattle.std.proofs.Common.{◌≡◌, ◌∙◌, refl, ap, sym, ℕ, zero, suc, ◌<◌, ◌≤◌, ◌||◌, inl, inr, List, [], ◌∷◌, ◌++◌, length, get_or, map, Bool, true, false, cond, Option, Some, None, arith}
use Rattle.std.proofs.Math.ListN.{set}
use Rattle.std.proofs.lemmas.Bool.{or_cases, cases_Bool}
use Rattle.std.proofs.lemmas.List.{get_or-set_same, get_or-set_other, length-set, set-set}
use Rattle.std.proofs.lemmas.List.Folds.{list_any-append}
use Rattle.std.specs.List.{list_any}
use Rattle.std.specs.Map.{lookup}
use Rattle.std.specs.Option.{option_map_or, unwrap_or, option_copied}
use Rattle.std.specs.Prelude.{Vec, take, replicate}
use Rattle.std.specs.Global.{Global}
use denote.Ref.{Bor}
use Rattle.swf_listeners.specs.Wanted.{Wanted, nothing}
use Rattle.swf_text.proofs.SameLemmas.{same_true, same_refl, same_decides}
use Rattle.swf_text.specs.Same.{same}
use Rattle.swf_listeners.specs.Listeners.{places_of, numbers_where}
use Rattle.swf_listeners.specs.Marks.{flags_of, places_in}
use Rattle.swf_listeners.specs.declared.marks.Marks.{Marks}

pub same_flip : (a b : List ℕ) → same a b ≡ same b a
same_flip a b = sym (same_decides (same b a) a b (λ e. sym (same_true b a e)) (λ e. ap (same b) e ∙ same_refl b))

-- what a look-up finds, where one key was given a value
pub read_cond : {V : Type 0} (read : Option V → List Bool) (b : Bool) (o p : Option V) → read (cond b o p) ≡ cond b (read o) (read p)
read_cond read true o p = refl
read_cond read false o p = refl

-- the flags of one type are longer, and say the same
pub longer_same : (m n : Marks) (x : List ℕ) (fs : List Bool) → ((t : List ℕ) → flags_of n t ≡ cond (same x t) fs (flags_of m t)) → ((k : ℕ) → get_or fs k false ≡ get_or (flags_of m x) k false) →
    (t : List ℕ) (k : ℕ) → get_or (flags_of n t) k false ≡ get_or (flags_of m t) k false
longer_same m n x fs h e t k = ap (λ l. get_or l k false) (h t) ∙ elim (cases_Bool (same x t)) [
  | inl s ↦ ap (λ b. get_or (cond b fs (flags_of m t)) k false) s ∙ e k ∙ ap (λ u. get_or (flags_of m u) k false) (same_true x t s)
  | inr s ↦ ap (λ b. get_or (cond b fs (flags_of m t)) k false) s
]

pub longer_more : (m n : Marks) (x : List ℕ) (fs : List Bool) → ((t : List ℕ) → flags_of n t ≡ cond (same x t) fs (flags_of m t)) → length (flags_of m x) ≤ length fs →
    (t : List ℕ) → length (flags_of m t) ≤ length (flags_of n t)
longer_more m n x fs h l t = elim (cases_Bool (same x t)) [
  | inl s ↦ omega (arith, l, ap length (h t ∙ ap (λ b. cond b fs (flags_of m t)) s), ap (λ u. length (flags_of m u)) (same_true x t s))
  | inr s ↦ omega (arith, ap length (h t ∙ ap (λ b. cond b fs (flags_of m t)) s))
]

-- one type more is marked
pub marked_more : (done : List (List ℕ)) (x t : List ℕ) (k : ℕ) (b : Bool) (before now next : List Bool) → now ≡ cond (list_any (same t) done) (set before k b) before →
    next ≡ cond (same x t) (set now k b) now → next ≡ cond (list_any (same t) (done ++ x ∷ [])) (set before k b) before
marked_more done x t k b before now next e f =
    f ∙ ap (λ l. cond (same x t) (set l k b) l) e ∙ both (list_any (same t) done) (same x t) ∙ sym (ap (λ a. cond a (set before k b) before) (list_any-append (same t) done (x ∷ []) ∙ ap (λ a. list_any (same t) done || a) (last (same t x) ∙ same_flip t x)))
  where
    last : (a : Bool) → (a || false) ≡ a
    last true = refl
    last false = refl

    both : (d s : Bool) → cond s (set (cond d (set before k b) before) k b) (cond d (set before k b) before) ≡ cond (d || s) (set before k b) before
    both true true = set-set before k b b
    both true false = refl
    both false true = refl
    both false false = refl

-- there are places at one type more
pub fits_more : (m n : Marks) (done : List (List ℕ)) (x : List ℕ) (k : ℕ) → ((t : List ℕ) → list_any (same t) done ≡ true → k < length (flags_of m t)) → ((t : List ℕ) → length (flags_of m t) ≤ length (flags_of n t)) →
    k < length (flags_of n x) → (t : List ℕ) → list_any (same t) (done ++ x ∷ []) ≡ true → k < length (flags_of n t)
fits_more m n done x k h more l t e = elim (or_cases (list_any (same t) done) (list_any (same t) (x ∷ [])) (sym (list_any-append (same t) done (x ∷ [])) ∙ e)) [
  | inl a ↦ omega (arith, h t a, more t)
  | inr a ↦ omega (arith, l, ap (λ u. length (flags_of n u)) (same_true t x (one (same t x) a)))
]
  where
    one : (b : Bool) → (b || false) ≡ true → b ≡ true
    one true e = refl
    one false e = e

-- an instance wants what it is set to want, and no other wants another thing
pub set_marks : (old new : Bool) (before : List Bool) (k : ℕ) → (new ≡ true → k < length before) → (get_or before k false ≡ old) →
    get_or (cond new (set (cond old (set before k false) before) k true) (cond old (set before k false) before)) k false ≡ new
set_marks old true before k l e = get_or-set_same (cond old (set before k false) before) k true false (long old)
  where
    long : (o : Bool) → k < length (cond o (set before k false) before)
    long true = omega (arith, l refl, length-set before k false)
    long false = l refl
set_marks true false before k l e = cleared before k
  where
    cleared : (fs : List Bool) (k : ℕ) → get_or (set fs k false) k false ≡ false
    cleared [] k = refl
    cleared (f ∷ fs) zero = refl
    cleared (f ∷ fs) (suc k) = cleared fs k
set_marks false false before k l e = e

pub other_marks : (old new : Bool) (before : List Bool) (k n : ℕ) → (n ≡ k → ⊥) → get_or (cond new (set (cond old (set before k false) before) k true) (cond old (set before k false) before)) n false ≡ get_or before n false
other_marks true true before k n h = get_or-set_other (set before k false) k n true false h ∙ get_or-set_other before k n false false h
other_marks true false before k n h = get_or-set_other before k n false false h
other_marks false true before k n h = get_or-set_other before k n true false h
other_marks false false before k n h = refl

-- new flags are not set
pub not_set : (fs old : List Bool) (n m k : ℕ) → old ≡ [] → fs ≡ take n old ++ replicate m false → get_or fs k false ≡ false
not_set fs old n m k e f = ap (λ l. get_or l k false) (f ∙ ap (λ l. take n l ++ replicate m false) e) ∙ none n m k
  where
    all : (m k : ℕ) → get_or (replicate m false) k false ≡ false
    all zero k = refl
    all (suc m) zero = refl
    all (suc m) (suc k) = all m k

    none : (n m k : ℕ) → get_or (take n [] ++ replicate m false) k false ≡ false
    none zero m k = all m k
    none (suc n) m k = all m k

-- there are as many places at a type as it has flags
pub places_are : (m : Marks) (t : List ℕ) → places_of (places_in m) t ≡ length (flags_of m t)
places_are m t = by m.flags.entries
  where
    one : (b : Bool) (v : Vec Bool Global) (p : Option ℕ) (o : Option (Vec Bool Global)) → unwrap_or p 0 ≡ length (option_map_or (λ v. v.items) o []) →
        unwrap_or (cond b (Some (length v.items)) p) 0 ≡ length (option_map_or (λ v. v.items) (cond b (Some v) o) [])
    one true v p o e = refl
    one false v p o e = e

    by : (es : List (List ℕ × Vec Bool Global)) → unwrap_or (lookup (same t) (map (λ e. (e.0, length e.1.items)) es)) 0 ≡ length (option_map_or (λ v. v.items) (lookup (same t) es) [])
    by [] = refl
    by (e ∷ es) = one (same t e.0) e.1 (lookup (same t) (map (λ e. (e.0, length e.1.items)) es)) (lookup (same t) es) (by es)

-- two tests that agree pass the same numbers
pub numbers_same : (p q : ℕ → Bool) → ((k : ℕ) → p k ≡ q k) → (n : ℕ) → numbers_where p n ≡ numbers_where q n
numbers_same p q h zero = refl
numbers_same p q h (suc n) = ap (λ l. l ++ cond (p n) (n ∷ []) []) (numbers_same p q h n) ∙ ap (λ b. numbers_where q n ++ cond b (n ∷ []) []) (h n)

pub any_at : (all : List Wanted) (k : ℕ) → get_or (map (λ w. w.any) all) k false ≡ (get_or all k nothing).any
any_at [] k = refl
any_at (w ∷ all) zero = refl
any_at (w ∷ all) (suc k) = any_at all k

pub any_set : (all : List Wanted) (k : ℕ) (w : Wanted) → set (map (λ w. w.any) all) k w.any ≡ map (λ w. w.any) (set all k w)
any_set [] k w = refl
any_set (v ∷ all) zero w = refl
any_set (v ∷ all) (suc k) w = ap (λ l. v.any ∷ l) (any_set all k w)

pub length_marked : (b : Bool) (before : List Bool) (k : ℕ) (v : Bool) → length (cond b (set before k v) before) ≡ length before
length_marked true before k v = length-set before k v
length_marked false before k v = refl

pub read_there : (o : Option (Bor (Vec Bool Global))) → option_map_or (λ v. v.now.items) o [] ≡ option_map_or (λ v. v.items) (option_copied o) []
read_there None = refl
read_there (Some v) = refl
