-- The strands that listen and those that wait, in the order of all strands, and what is told of one instance more.
use Rattle.std.proofs.Common.{◌≡◌, ◌∙◌, ap, sym, refl, cond, ℕ, zero, suc, ◌+◌, List, [], ◌∷◌, ◌++◌, map, take, append-nil, append_assoc, add-one, Bool, true, false, Option, Some, None, option_map, option_and_then, slice_get, arith}
use Rattle.std.proofs.lemmas.Option.{same_Some}
use Rattle.std.specs.List.{filter, filter_map, cons_option, flat_map}
use Rattle.std.specs.Option.{option_to_list}
use Rattle.std.specs.Prelude.{Contains}
use Rattle.swf_meaning.specs.Node.{Node}
use Rattle.swf_meaning.specs.Pending.{is_listening, listening, waiting}
use Rattle.swf_meaning.specs.Strands.{tops, strands}
use Rattle.swf_meaning.specs.Top.{Top, top_at, top_is}
use Rattle.swf_meaning.specs.Wake.{until_top}
use Rattle.swf_meaning.proofs.TopsLemmas.{tops_found}
use Rattle.swf_strands.specs.Ways.{listens_at, until_at}

-- the strands of a list are those that their names find
abbrev AreThere : Node → List (List ℕ × Top) → Type 0
AreThere n ss = (s : List ℕ × Top) → Contains ss s → top_at s.0 n ≡ Some s.1

first_there : (n : Node) (s : List ℕ × Top) (ss : List (List ℕ × Top)) → AreThere n (s ∷ ss) → top_at s.0 n ≡ Some s.1
first_there n s ss there = there s (zero, omega arith, refl)

rest_there : (n : Node) (s : List ℕ × Top) (ss : List (List ℕ × Top)) → AreThere n (s ∷ ss) → AreThere n ss
rest_there n s ss there = λ t h. there t (suc h.0, omega (arith, h.1), h.2)

all_there : (n : Node) → AreThere n (tops n)
all_there n = λ s h. tops_found n s.0 s.1 h

-- of a strand that listens its name is told
abbrev pub told_listen : Node → List ℕ → Option (List ℕ)
told_listen n s = cond (listens_at s n) (Some s) None

listens_told : (n : Node) (ss : List (List ℕ × Top)) → AreThere n ss → filter_map (told_listen n) (map (λ s. s.0) ss) ≡ map (λ s. s.0) (filter (λ s. is_listening s.1) ss)
listens_told n [] there = refl
listens_told n (s ∷ ss) there =
    ap (λ (o : Option Top). cons_option (cond (top_is is_listening o) (Some s.0) None) (filter_map (told_listen n) (map (λ x. x.0) ss))) (first_there n s ss there)
    ∙ by (is_listening s.1) (listens_told n ss (rest_there n s ss there))
  where
    by : (b : Bool) → filter_map (told_listen n) (map (λ x. x.0) ss) ≡ map (λ x. x.0) (filter (λ x. is_listening x.1) ss) →
        cons_option (cond b (Some s.0) None) (filter_map (told_listen n) (map (λ x. x.0) ss)) ≡ map (λ x. x.0) (cond b (s ∷ filter (λ x. is_listening x.1) ss) (filter (λ x. is_listening x.1) ss))
    by true e = ap (λ xs. s.0 ∷ xs) e
    by false e = e

-- those that listen among all strands
pub listening_is : (n : Node) → filter_map (told_listen n) (strands n) ≡ listening n
listening_is n = listens_told n (tops n) (all_there n)

-- of a strand that waits its name is told, and the moment
abbrev pub told_timer : Node → List ℕ → Option (List ℕ × ℕ)
told_timer n s = option_map (λ m. (s, m)) (until_at s n)

timers_told : (n : Node) (ss : List (List ℕ × Top)) → AreThere n ss → filter_map (told_timer n) (map (λ s. s.0) ss) ≡ filter_map (λ s. option_map (λ m. (s.0, m)) (until_top s.1)) ss
timers_told n [] there = refl
timers_told n (s ∷ ss) there =
    ap (λ (o : Option Top). cons_option (option_map (λ m. (s.0, m)) (option_and_then until_top o)) (filter_map (told_timer n) (map (λ x. x.0) ss))) (first_there n s ss there)
    ∙ ap (cons_option (option_map (λ m. (s.0, m)) (until_top s.1))) (timers_told n ss (rest_there n s ss there))

-- those that wait among all strands, each with its moment
pub waiting_is : (n : Node) → filter_map (told_timer n) (strands n) ≡ waiting n
waiting_is n = timers_told n (tops n) (all_there n)

-- what is told of one strand
pub listen_one : {B : Type 0} (f : List ℕ → B) (s : List ℕ) (b : Bool) → cond b (f s ∷ []) [] ≡ map f (option_to_list (cond b (Some s) None))
listen_one f s true = refl
listen_one f s false = refl

pub timer_one : {B : Type 0} (f : List ℕ × ℕ → B) (s : List ℕ) (o : Option ℕ) → map (λ m. f (s, m)) (option_to_list o) ≡ map f (option_to_list (option_map (λ m. (s, m)) o))
timer_one f s None = refl
timer_one f s (Some m) = refl

-- what is told of the first of the strands that are left is added
pub told_one : {X A B : Type 0} (h : X → Option A) (f : A → B) (x : X) (left rest : List X) (old one new all : List B) → left ≡ x ∷ rest → new ≡ old ++ one → one ≡ map f (option_to_list (h x)) → old ++ map f (filter_map h left) ≡ all →
    new ++ map f (filter_map h rest) ≡ all
told_one h f x left rest old one new all l e p k =
    ap (λ ys. ys ++ map f (filter_map h rest)) e ∙ (append_assoc old one (map f (filter_map h rest))
    ∙ (ap (λ ys. old ++ ys) (ap (λ ys. ys ++ map f (filter_map h rest)) p ∙ joined (h x) ∙ ap (λ xs. map f (filter_map h xs)) (sym l)) ∙ k))
  where
    joined : (q : Option _) → map f (option_to_list q) ++ map f (filter_map h rest) ≡ map f (cons_option q (filter_map h rest))
    joined None = refl
    joined (Some y) = refl

-- what is told of one instance more
told_next : {X A : Type 0} (f : X → List A) (xs : List X) (k : ℕ) (x : X) → slice_get xs k ≡ Some x → flat_map f (take (suc k) xs) ≡ flat_map f (take k xs) ++ f x
told_next f [] k x e = cc
told_next f (y ∷ ys) zero x e = append-nil (f y) ∙ ap f (same_Some y x e)
told_next f (y ∷ ys) (suc k) x e = ap (λ zs. f y ++ zs) (told_next f ys k x e) ∙ sym (append_assoc (f y) (flat_map f (take k ys)) (f x))

pub told_more : {X A : Type 0} (f : X → List A) (xs : List X) (k : ℕ) (x : X) (old new : List A) → slice_get xs k ≡ Some x → new ≡ old ++ f x → old ≡ flat_map f (take k xs) → new ≡ flat_map f (take (k + 1) xs)
told_more f xs k x old new e n o = n ∙ ap (λ ys. ys ++ f x) o ∙ sym (ap (λ m. flat_map f (take m xs)) (add-one k) ∙ told_next f xs k x e)
