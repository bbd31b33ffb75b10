-- A slice equals its steps in a row, and is determined.
use Rattle.std.proofs.Common.{◌≡◌, ◌∙◌, refl, sym, ap, cond, arith, ℕ, zero, suc, ◌+◌, ◌<◌, List, [], ◌∷◌, replicate, Bool, true, false, Option, Some, None}
use Rattle.std.proofs.lemmas.Option.{same_Some, option_and_then_some}
use Rattle.std.specs.Prelude.{option_map, option_and_then}
use Rattle.swf_cloudevents.specs.declared.event.Event.{Event}
use Rattle.swf_text.specs.Same.{same}
use Rattle.swf_meaning.specs.Answer.{instance_at}
use Rattle.swf_meaning.specs.Complete.{Stepped}
use Rattle.swf_meaning.specs.Documents.{Loaded}
use Rattle.swf_meaning.specs.World.{Instance, step_at, with_step}
use Rattle.swf_lines.specs.Own.{Own, own_at, own_step, put_own}
use Rattle.swf_meaning.specs.declared.label.Label.TheVariants.{Step}
use Rattle.swf_runs.specs.After.{stepped, with_instances, after}
use Rattle.swf_runs.specs.Runs.{run_from}
use Rattle.swf_lines.specs.Slices.{own_steps, put_in, with_slice}
use Rattle.swf_lines.specs.SliceLaws.{Carries, SliceIsOne, SliceIsSteps}
use Rattle.swf_lines.proofs.OwnSteps.{alone, placed}

same_id : (bs : List ℕ) (p : Own) (i : Instance) → (put_own bs p i).id ≡ i.id
same_id [] p i = refl
same_id (b ∷ bs) p i = refl

-- one instance takes its step, and one stands before the others
abbrev then_step : Instance → List Instance → Stepped → List Instance × Option Event
then_step x xs m = (with_step x m ∷ xs, m.emitted)

abbrev behind_one : Instance → List Instance × Option Event → List Instance × Option Event
behind_one x q = (x ∷ q.0, q.1)

step_in : (now : ℕ) (ds : List Loaded) (id bs : List ℕ) (o p : Own) (is : List Instance) (i : Instance) → instance_at id is ≡ Some i → own_at bs i ≡ Some o → own_step now o ≡ Some p
    → stepped now ds id bs is ≡ Some (put_in id bs p is, None)
step_in now ds id bs o p [] i e h s = cc
step_in now ds id bs o p (x ∷ xs) i e h s = by (same id x.id) e (step_in now ds id bs o p xs i)
  where
    here : x ≡ i → option_map (then_step x xs) (step_at now ds bs x) ≡ Some (put_own bs p x ∷ xs, None)
    here is =
        let a = alone now ds bs x o p (ap (own_at bs) is ∙ h) s in
        ap (option_map (then_step x xs)) a.1
        ∙ ap (λ (j : Instance). Some (j ∷ xs, a.0.emitted)) a.2 ∙ ap (λ (o : Option Event). Some (put_own bs p x ∷ xs, o)) a.3

    by : (b : Bool) → cond b (Some x) (instance_at id xs) ≡ Some i → (instance_at id xs ≡ Some i → own_at bs i ≡ Some o → own_step now o ≡ Some p → stepped now ds id bs xs ≡ Some (put_in id bs p xs, None))
        → cond b (option_map (then_step x xs) (step_at now ds bs x)) (option_map (behind_one x) (stepped now ds id bs xs)) ≡ Some (cond b (put_own bs p x ∷ xs) (x ∷ put_in id bs p xs), None)
    by true q rest = here (same_Some x i q)
    by false q rest = ap (option_map (behind_one x)) (rest q h s)

stands_in : (id bs : List ℕ) (p : Own) (is : List Instance) (i : Instance) → instance_at id is ≡ Some i → instance_at id (put_in id bs p is) ≡ Some (put_own bs p i)
stands_in id bs p [] i e = cc
stands_in id bs p (x ∷ xs) i e = by (same id x.id) refl e (stands_in id bs p xs i)
  where
    by : (b : Bool) → same id x.id ≡ b → cond b (Some x) (instance_at id xs) ≡ Some i → (instance_at id xs ≡ Some i → instance_at id (put_in id bs p xs) ≡ Some (put_own bs p i))
        → instance_at id (cond b (put_own bs p x ∷ xs) (x ∷ put_in id bs p xs)) ≡ Some (put_own bs p i)
    by true q e rest =
        ap (λ k. cond (same id k) (Some (put_own bs p x)) (instance_at id xs)) (same_id bs p x) ∙ ap (λ b. cond b (Some (put_own bs p x)) (instance_at id xs)) q ∙ ap (λ j. Some (put_own bs p j)) (same_Some x i e)
    by false q e rest = ap (λ b. cond b (Some x) (instance_at id (put_in id bs p xs))) q ∙ rest e

twice_in : (id bs : List ℕ) (o p : Own) (is : List Instance) → put_in id bs p (put_in id bs o is) ≡ put_in id bs p is
twice_in id bs o p [] = refl
twice_in id bs o p (x ∷ xs) = by (same id x.id) refl (twice_in id bs o p xs)
  where
    by : (b : Bool) → same id x.id ≡ b → put_in id bs p (put_in id bs o xs) ≡ put_in id bs p xs → put_in id bs p (cond b (put_own bs o x ∷ xs) (x ∷ put_in id bs o xs)) ≡ cond b (put_own bs p x ∷ xs) (x ∷ put_in id bs p xs)
    by true q rest =
        ap (λ k. cond (same id k) (put_own bs p (put_own bs o x) ∷ xs) (put_own bs o x ∷ put_in id bs p xs)) (same_id bs o x)
        ∙ ap (λ b. cond b (put_own bs p (put_own bs o x) ∷ xs) (put_own bs o x ∷ put_in id bs p xs)) q ∙ ap (λ j. j ∷ xs) (placed.put_twice bs x o p)
    by false q rest = ap (λ b. cond b (put_own bs p x ∷ put_in id bs o xs) (x ∷ put_in id bs p (put_in id bs o xs))) q ∙ ap (λ l. x ∷ l) rest

back_in : (id bs : List ℕ) (o : Own) (is : List Instance) (i : Instance) → instance_at id is ≡ Some i → own_at bs i ≡ Some o → put_in id bs o is ≡ is
back_in id bs o [] i e h = refl
back_in id bs o (x ∷ xs) i e h = by (same id x.id) e (back_in id bs o xs i)
  where
    by : (b : Bool) → cond b (Some x) (instance_at id xs) ≡ Some i → (instance_at id xs ≡ Some i → own_at bs i ≡ Some o → put_in id bs o xs ≡ xs) → cond b (put_own bs o x ∷ xs) (x ∷ put_in id bs o xs) ≡ x ∷ xs
    by true q rest = ap (λ j. j ∷ xs) (placed.put_back bs x o (ap (own_at bs) (same_Some x i q) ∙ h))
    by false q rest = ap (λ l. x ∷ l) (rest q h)

pub slice_is_steps : SliceIsSteps
slice_is_steps w id bs zero o p c e =
    let is : o ≡ p = same_Some o p e in
    let k : w.count ≡ w.count + 0 = omega arith in
    ap (λ l. Some (record w { instances = l })) (sym (back_in id bs p w.instances c.0 c.1 (c.2 ∙ ap Some is))) ∙ ap (λ n. Some (record w { instances = put_in id bs p w.instances; count = n })) k
slice_is_steps w id bs (suc n) o p c e =
    option_and_then_some (own_steps w.now n) (own_step w.now o) p e (λ q a b.
    let first : after w (Step id bs) ≡ Some (with_slice id bs 1 q w) = ap (option_map (with_instances w)) (step_in w.now w.documents id bs o q w.instances c.0 c.1 c.2 a) in
    let there : Carries (with_slice id bs 1 q w) id bs q = (put_own bs q c.0, stands_in id bs q w.instances c.0 c.1, placed.put_own_at w.now bs c.0 o q c.2 a) in
    let k : w.count + 1 + n ≡ w.count + suc n = omega arith in
    ap (option_and_then (λ m. run_from m (replicate n (Step id bs)))) first
    ∙ slice_is_steps (with_slice id bs 1 q w) id bs n q p there b
    ∙ ap (λ l. Some (record w { instances = l; count = w.count + 1 + n })) (twice_in id bs q p w.instances)
    ∙ ap (λ m. Some (record w { instances = put_in id bs p w.instances; count = m })) k)

-- where two numbers of steps can be taken, and none more after the fewer, they are one number
steps_one : (now n m : ℕ) (o p q : Own) → own_steps now n o ≡ Some p → own_steps now m o ≡ Some q → (n < m → own_step now p ≡ None) → (m < n → own_step now q ≡ None) → (n ≡ m) × (p ≡ q)
steps_one now zero zero o p q a b f g = (refl, same_Some p q (sym a ∙ b))
steps_one now zero (suc m) o p q a b f g =
    option_and_then_some (own_steps now m) (own_step now o) q b (λ x c d.
    let none : own_step now o ≡ None = ap (own_step now) (same_Some o p a) ∙ f (omega arith) in
    let e : Some x ≡ None = sym c ∙ none in cc)
steps_one now (suc n) zero o p q a b f g =
    option_and_then_some (own_steps now n) (own_step now o) p a (λ x c d.
    let none : own_step now o ≡ None = ap (own_step now) (same_Some o q b) ∙ g (omega arith) in
    let e : Some x ≡ None = sym c ∙ none in cc)
steps_one now (suc n) (suc m) o p q a b f g =
    option_and_then_some (own_steps now n) (own_step now o) p a (λ x c d.
    option_and_then_some (own_steps now m) (own_step now o) q b (λ y e h.
    let is : y ≡ x = same_Some y x (sym e ∙ c) in
    let rest = steps_one now n m x p q d (sym (ap (own_steps now m) is) ∙ h) (λ l. f (omega (arith, l))) (λ l. g (omega (arith, l))) in
    (ap suc rest.0, rest.1)))

pub slice_is_one : SliceIsOne
slice_is_one now fuel n m o p q a b =
    steps_one now n m o p q a.took b.took (λ l. a.enough refl (omega (arith, l, b.most))) (λ l. b.enough refl (omega (arith, l, a.most)))
