-- What is found in the map is what the definitions find in its list.
use Rattle.std.proofs.Common.{◌≡◌, ◌∙◌, ap, sym, refl, cond, ℕ, zero, suc, ◌+◌, ◌<◌, ◌≤◌, List, [], ◌∷◌, length, not, nat_lt, Bool, true, false, Some, None, option_map, slice_get, position, arith}
use Rattle.std.specs.List.{AllByRecursion, IsDistinct, position_or_len}
use Rattle.std.specs.Map.{lookup, keys_of, values_of}
use Rattle.std.proofs.lemmas.List.{length-map}
use Rattle.std.proofs.lemmas.Bool.{false_from_ne_true, lt-ltb, ltb-false, ltb-true}
use Rattle.std.proofs.lemmas.Map.Keys.{IsDistinct-head, IsDistinct-tail}
use Rattle.std.proofs.lemmas.Option.{cond_some, same_Some, slice_get_within}
use Rattle.swf_text.specs.Same.{same}
use Rattle.swf_text.proofs.SameLemmas.{same_true, same_refl}
use Rattle.swf_meaning.specs.World.{Instance}
use Rattle.swf_meaning.specs.Answer.{instance_at}
use Rattle.swf_instances.specs.Held.{instances_in, IsPlaced}

-- the instance of an id
pub instance_lookup : (id : List ℕ) (is : List (List ℕ × Instance)) → AllByRecursion IsPlaced is → instance_at id (instances_in is) ≡ lookup (same id) is
instance_lookup id [] placed = refl
instance_lookup id (e ∷ es) placed =
    ap (λ b. cond b (Some e.1) (instance_at id (instances_in es))) (ap (same id) (sym placed.0))
    ∙ ap (cond (same id e.0) (Some e.1)) (instance_lookup id es placed.1)

-- the instance of a number
pub instance_there : (is : List (List ℕ × Instance)) (n : ℕ) (v : Instance) → slice_get (values_of is) n ≡ Some v → slice_get (instances_in is) n ≡ Some v
instance_there [] n v e = cc
instance_there (x ∷ xs) zero v e = e
instance_there (x ∷ xs) (suc n) v e = instance_there xs n v e

-- the same where there may be none
pub entry_there : (is : List (List ℕ × Instance)) (n : ℕ) → option_map (λ e. e.1) (slice_get is n) ≡ slice_get (instances_in is) n
entry_there [] n = refl
entry_there (x ∷ xs) zero = refl
entry_there (x ∷ xs) (suc n) = entry_there xs n

first_alike : (id : List ℕ) (is : List (List ℕ × Instance)) → AllByRecursion IsPlaced is → position_or_len (same id) (keys_of is) ≡ position_or_len (λ i. same id i.id) (instances_in is)
first_alike id [] placed = refl
first_alike id (e ∷ es) placed =
    ap (λ k. cond (not (same id k)) (1 + position_or_len (same id) (keys_of es)) 0) placed.0
    ∙ ap (λ n. cond (not (same id e.1.id)) (1 + n) 0) (first_alike id es placed.1)

-- the number of an id
pub number_alike : (id : List ℕ) (is : List (List ℕ × Instance)) → AllByRecursion IsPlaced is → position (same id) (keys_of is) ≡ position (λ i. same id i.id) (instances_in is)
number_alike id is placed =
    let first = first_alike id is placed in
    let long : length (keys_of is) ≡ length (instances_in is) = length-map is (λ e. e.0) ∙ sym (length-map is (λ e. e.1)) in
    λ j. cond (nat_lt (first j) (long j)) (Some (first j)) None

-- the place of the first instance of an id, or their number
abbrev pub first_of : List ℕ → List Instance → ℕ
first_of id is = position_or_len (λ i. same id i.id) is

-- the instance of an id stands there
instance_at_first : (id : List ℕ) (is : List Instance) → instance_at id is ≡ slice_get is (first_of id is)
instance_at_first id [] = refl
instance_at_first id (i ∷ is) = by (same id i.id) (instance_at_first id is)
  where
    by : (b : Bool) → instance_at id is ≡ slice_get is (first_of id is) → cond b (Some i) (instance_at id is) ≡ slice_get (i ∷ is) (cond (not b) (1 + first_of id is) 0)
    by true h = refl
    by false h = let next : 1 + first_of id is ≡ suc (first_of id is) = omega arith in h ∙ sym (ap (slice_get (i ∷ is)) next)

-- an id's number is where its first instance stands
pub number_first : (id : List ℕ) (is : List Instance) (n : ℕ) → position (λ i. same id i.id) is ≡ Some n → first_of id is ≡ n
number_first id is n e = (cond_some (nat_lt (first_of id is) (length is)) (first_of id is) n e).1

-- and one of them has it
pub number_within : (id : List ℕ) (is : List Instance) (n : ℕ) → position (λ i. same id i.id) is ≡ Some n → n < length is
number_within id is n e =
    let p = cond_some (nat_lt (first_of id is) (length is)) (first_of id is) n e in
    omega (arith, ltb-true (first_of id is) (length is) p.0, p.1)

-- the instance of an id has that number
pub instance_numbered : (id : List ℕ) (is : List Instance) (n : ℕ) → position (λ i. same id i.id) is ≡ Some n → instance_at id is ≡ slice_get is n
instance_numbered id is n e = instance_at_first id is ∙ ap (slice_get is) (number_first id is n e)

past_end : (is : List Instance) (n : ℕ) → length is ≤ n → slice_get is n ≡ None
past_end [] n e = refl
past_end (i ∷ is) zero e = absurd (omega arith)
past_end (i ∷ is) (suc n) e = past_end is n (omega arith)

-- an id without a number has no instance
pub instance_unnumbered : (id : List ℕ) (is : List Instance) → position (λ i. same id i.id) is ≡ None → instance_at id is ≡ None
instance_unnumbered id is e = instance_at_first id is ∙ past_end is (first_of id is) (ltb-false (first_of id is) (length is) (by (nat_lt (first_of id is) (length is)) e))
  where
    by : (b : Bool) → cond b (Some (first_of id is)) None ≡ None → b ≡ false
    by true h = cc
    by false h = refl

-- an id that differs from all these is none of theirs
pub differs : (id : List ℕ) (es : List (List ℕ × Instance)) (n : ℕ) (i : Instance) → AllByRecursion IsPlaced es → AllByRecursion (λ k. same id k ≡ false) (keys_of es) → slice_get (instances_in es) n ≡ Some i → same id i.id ≡ false
differs id [] n i placed apart at = cc
differs id (e ∷ es) zero i placed apart at = sym (ap (same id) (placed.0 ∙ ap (λ j. j.id) (same_Some e.1 i at))) ∙ apart.0
differs id (e ∷ es) (suc n) i placed apart at = differs id es n i placed.1 apart.1 at

-- the first instance of an instance's id is that one
first_is : (es : List (List ℕ × Instance)) (n : ℕ) (i : Instance) → AllByRecursion IsPlaced es → IsDistinct same (keys_of es) → slice_get (instances_in es) n ≡ Some i → first_of i.id (instances_in es) ≡ n
first_is [] n i placed apart at = cc
first_is (e ∷ es) zero i placed apart at =
    ap (λ b. cond (not b) (1 + first_of i.id (instances_in es)) 0) (ap (λ j. same i.id j.id) (same_Some e.1 i at) ∙ same_refl i.id)
first_is (e ∷ es) (suc n) i placed apart at =
    let other : same e.0 i.id ≡ false = differs e.0 es n i placed.1 (IsDistinct-head same e.0 (keys_of es) apart) at in
    let not_first : same i.id e.1.id ≡ false = false_from_ne_true (same i.id e.1.id) (λ t. let f : true ≡ false = sym (ap (λ k. same k i.id) (placed.0 ∙ sym (same_true i.id e.1.id t)) ∙ same_refl i.id) ∙ other in cc) in
    let rest : first_of i.id (instances_in es) ≡ n = first_is es n i placed.1 (IsDistinct-tail same e.0 (keys_of es) apart) at in
    ap (λ b. cond (not b) (1 + first_of i.id (instances_in es)) 0) not_first ∙ omega (arith, rest)

-- so that is its number
pub alone : (es : List (List ℕ × Instance)) (n : ℕ) (i : Instance) → AllByRecursion IsPlaced es → IsDistinct same (keys_of es) → slice_get (instances_in es) n ≡ Some i → position (λ j. same i.id j.id) (instances_in es) ≡ Some n
alone es n i placed apart at =
    let is = instances_in es in
    let first = first_is es n i placed apart at in
    let within : nat_lt (first_of i.id is) (length is) ≡ true = lt-ltb (first_of i.id is) (length is) (omega (arith, first, slice_get_within is n i at)) in
    ap (λ b. cond b (Some (first_of i.id is)) None) within ∙ ap (λ m. Some m) first
