-- The instance to which an answer goes is the only one that it changes.
use Rattle.std.proofs.Common.{◌≡◌, ◌∙◌, ap, sym, refl, subst, cond, ℕ, zero, suc, ◌&&◌, ◌||◌, List, [], ◌∷◌, map, Bool, true, false, Option, Some, None, slice_get}
use Rattle.std.proofs.Math.Bool.{or-false}
use Rattle.std.proofs.lemmas.Bool.{false_from_ne_true}
use Rattle.std.proofs.lemmas.Map.Keys.{IsDistinct-head, IsDistinct-tail}
use Rattle.std.proofs.lemmas.Option.{same_Some}
use Rattle.std.specs.List.{AllByRecursion, IsDistinct}
use Rattle.std.specs.Map.{keys_of}
use Rattle.swf_calls.specs.declared.reply.CallReply.{CallReply}
use Rattle.swf_text.specs.Same.{same}
use Rattle.swf_text.proofs.SameLemmas.{same_true, same_refl}
use Rattle.swf_meaning.specs.Answer.{instance_at}
use Rattle.swf_meaning.specs.Reply.{before_last, is_named_by, is_of, is_open, with_reply}
use Rattle.swf_meaning.specs.World.{Instance}
use Rattle.swf_runs.specs.After.{replied_one}
use Rattle.swf_instances.specs.Held.{instances_in, IsPlaced}
use Rattle.swf_instances.specs.Offers.{ids, put_at}
use Rattle.swf_instances.specs.Replies.{is_open_among}
use Rattle.swf_instances.proofs.Lookups.{differs}

-- ---- whether an activity is open

-- in this instance, where there is one
abbrev pub is_open_of : List ℕ → Option Instance → Bool
is_open_of a None = false
is_open_of a (Some i) = is_open a i.node

-- an activity without an id is of no instance
pub open_nowhere : (a : List ℕ) (is : List Instance) → None ≡ before_last 47 a → false ≡ is_open_among a is
open_nowhere a [] e = refl
open_nowhere a (i ∷ is) e = open_nowhere a is e ∙ ap (λ o. (is_named_by i.id o && is_open a i.node) || is_open_among a is) e

-- one of an id is of those that have it
pub named_by : (a id x : List ℕ) → Some id ≡ before_last 47 a → is_of a x ≡ same id x
named_by a id x e = sym (ap (is_named_by x) e)

-- where none has it, it is open nowhere
none_open : (a id : List ℕ) (is : List Instance) → Some id ≡ before_last 47 a → instance_at id is ≡ None → is_open_among a is ≡ false
none_open a id [] e none = refl
none_open a id (i ∷ is) e none = by (same id i.id) refl none (λ n. none_open a id is e n)
  where
    by : (b : Bool) → same id i.id ≡ b → cond b (Some i) (instance_at id is) ≡ None → (instance_at id is ≡ None → is_open_among a is ≡ false) → ((is_of a i.id && is_open a i.node) || is_open_among a is) ≡ false
    by true named n rest = cc
    by false named n rest = ap (λ b. (b && is_open a i.node) || is_open_among a is) (named_by a id i.id e ∙ named) ∙ rest n

-- an id that differs from all of them is found nowhere
none_found : (id : List ℕ) (es : List (List ℕ × Instance)) → AllByRecursion IsPlaced es → AllByRecursion (λ k. same id k ≡ false) (keys_of es) → instance_at id (instances_in es) ≡ None
none_found id [] placed apart = refl
none_found id (e ∷ es) placed apart = ap (λ b. cond b (Some e.1) (instance_at id (instances_in es))) (ap (same id) (sym placed.0) ∙ apart.0) ∙ none_found id es placed.1 apart.1

-- where the ids are apart, it is open where the instance of its id has it open
open_where : (a id : List ℕ) (es : List (List ℕ × Instance)) → Some id ≡ before_last 47 a → AllByRecursion IsPlaced es → IsDistinct same (keys_of es) → is_open_among a (instances_in es) ≡ is_open_of a (instance_at id (instances_in es))
open_where a id [] e placed apart = refl
open_where a id (x ∷ xs) e placed apart = by (same id x.1.id) refl (open_where a id xs e placed.1 (IsDistinct-tail same x.0 (keys_of xs) apart))
  where
    is : List Instance
    is = instances_in xs

    by : (b : Bool) → same id x.1.id ≡ b → is_open_among a is ≡ is_open_of a (instance_at id is) → ((is_of a x.1.id && is_open a x.1.node) || is_open_among a is) ≡ is_open_of a (cond b (Some x.1) (instance_at id is))
    by true named more =
        let own : x.0 ≡ id = placed.0 ∙ sym (same_true id x.1.id named) in
        let rest : is_open_among a is ≡ false = none_open a id is e (none_found id xs placed.1 (subst (λ k. AllByRecursion (λ l. same k l ≡ false) (keys_of xs)) own (IsDistinct-head same x.0 (keys_of xs) apart))) in
        ap (λ b. (b && is_open a x.1.node) || is_open_among a is) (named_by a id x.1.id e ∙ named) ∙ ap (λ b. is_open a x.1.node || b) rest ∙ or-false (is_open a x.1.node)
    by false named more = ap (λ b. (b && is_open a x.1.node) || is_open_among a is) (named_by a id x.1.id e ∙ named) ∙ more

-- the same of all instances, by the one that is found of the id
pub open_found : (a id : List ℕ) (es : List (List ℕ × Instance)) (is : List Instance) (o : Option Instance) → instances_in es ≡ is → Some id ≡ before_last 47 a → AllByRecursion IsPlaced es → IsDistinct same (keys_of es) → instance_at id is ≡ o →
    is_open_among a is ≡ is_open_of a o
open_found a id es is o all e placed apart at =
    ap (is_open_among a) (sym all) ∙ open_where a id es e placed apart ∙ ap (λ js. is_open_of a (instance_at id js)) all ∙ ap (is_open_of a) at

-- the instance that is found of an id has it
pub found_named : (id : List ℕ) (is : List Instance) (i : Instance) → instance_at id is ≡ Some i → same id i.id ≡ true
found_named id [] i e = cc
found_named id (x ∷ xs) i e = by (same id x.id) refl e (λ f. found_named id xs i f)
  where
    by : (b : Bool) → same id x.id ≡ b → cond b (Some x) (instance_at id xs) ≡ Some i → (instance_at id xs ≡ Some i → same id i.id ≡ true) → same id i.id ≡ true
    by true named f rest = sym (ap (λ j. same id j.id) (same_Some x i f)) ∙ named
    by false named f rest = rest f

-- ---- what an answer changes

-- an activity of one id is not of another
of_other : (a x y : List ℕ) → is_of a x ≡ true → same x y ≡ false → is_of a y ≡ false
of_other a x y e other = by (before_last 47 a) e
  where
    by : (o : Option (List ℕ)) → is_named_by x o ≡ true → is_named_by y o ≡ false
    by None h = cc
    by (Some t) h = ap (λ k. same k y) (same_true t x h) ∙ other

same_turned : (x y : List ℕ) → same x y ≡ false → same y x ≡ false
same_turned x y e = false_from_ne_true (same y x) (λ t. let f : true ≡ false = sym (same_refl x) ∙ ap (same x) (sym (same_true y x t)) ∙ e in cc)

others_same : (a : List ℕ) (r : CallReply) (id : List ℕ) (es : List (List ℕ × Instance)) → is_of a id ≡ true → AllByRecursion IsPlaced es → AllByRecursion (λ k. same id k ≡ false) (keys_of es) → map (replied_one a r) (instances_in es) ≡ instances_in es
others_same a r id [] own placed apart = refl
others_same a r id (e ∷ es) own placed apart =
    let other : is_of a e.1.id ≡ false = of_other a id e.1.id own (ap (same id) (sym placed.0) ∙ apart.0) in
    (λ j. cond (other j) (record e.1 { node = with_reply a r e.1.node }) e.1 ∷ others_same a r id es own placed.1 apart.1 j)

-- the instance of its id is put in its place with the answer
pub replied_put : (a : List ℕ) (r : CallReply) (es : List (List ℕ × Instance)) (n : ℕ) (i : Instance) → AllByRecursion IsPlaced es → IsDistinct same (keys_of es) → slice_get (instances_in es) n ≡ Some i → is_of a i.id ≡ true →
    put_at n (record i { node = with_reply a r i.node }) (instances_in es) ≡ map (replied_one a r) (instances_in es)
replied_put a r [] n i placed apart at own = cc
replied_put a r (e ∷ es) zero i placed apart at own =
    let is : e.1 ≡ i = same_Some e.1 i at in
    let here : is_of a e.1.id ≡ true = ap (λ j. is_of a j.id) is ∙ own in
    let key : is_of a e.0 ≡ true = ap (is_of a) placed.0 ∙ here in
    let rest : map (replied_one a r) (instances_in es) ≡ instances_in es = others_same a r e.0 es key placed.1 (IsDistinct-head same e.0 (keys_of es) apart) in
    ap {A = Instance} (λ j. (record j { node = with_reply a r j.node }) ∷ instances_in es) (sym is)
    ∙ (λ k. cond (sym here k) (record e.1 { node = with_reply a r e.1.node }) e.1 ∷ sym rest k)
replied_put a r (e ∷ es) (suc n) i placed apart at own =
    let other : same e.0 i.id ≡ false = differs e.0 es n i placed.1 (IsDistinct-head same e.0 (keys_of es) apart) at in
    let not_here : is_of a e.1.id ≡ false = ap (is_of a) (sym placed.0) ∙ of_other a i.id e.0 own (same_turned e.0 i.id other) in
    (λ k. cond (sym not_here k) (record e.1 { node = with_reply a r e.1.node }) e.1 ∷ replied_put a r es n i placed.1 (IsDistinct-tail same e.0 (keys_of es) apart) at own k)

-- ids stay
pub ids_replied : (a : List ℕ) (r : CallReply) (is : List Instance) → ids (map (replied_one a r) is) ≡ ids is
ids_replied a r [] = refl
ids_replied a r (i ∷ is) = (λ k. by (is_of a i.id) k ∷ ids_replied a r is k)
  where
    by : (b : Bool) → (cond b (record i { node = with_reply a r i.node }) i).id ≡ i.id
    by true = refl
    by false = refl
