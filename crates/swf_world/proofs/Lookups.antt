-- The instance of an id takes the step of the definitions.
use Rattle.std.proofs.Common.{◌≡◌, ◌∙◌, ap, ℕ, zero, suc, ◌+◌, ◌<◌, List, [], ◌∷◌, length, Bool, true, false, not, cond, Option, Some, option_map, slice_get, position, arith}
use Rattle.std.proofs.lemmas.Option.{same_Some}
use Rattle.swf_text.specs.Same.{same}
use Rattle.swf_cloudevents.specs.declared.event.Event.{Event}
use Rattle.swf_meaning.specs.Complete.{Stepped}
use Rattle.swf_meaning.specs.Documents.{Loaded}
use Rattle.swf_meaning.specs.World.{Instance, step_at, with_step}
use Rattle.swf_runs.specs.After.{stepped}
use Rattle.swf_instances.proofs.Lookups.{first_of, number_first}
use Rattle.swf_instances.specs.Offers.{put_at}

-- the first of some instances takes a step, or one of the others
abbrev pub first_steps : Instance → List Instance → Stepped → List Instance × Option Event
first_steps i is m = (with_step i m ∷ is, m.emitted)

abbrev pub other_steps : Instance → List Instance × Option Event → List Instance × Option Event
other_steps i p = (i ∷ p.0, p.1)

first_there : (now : ℕ) (ds : List Loaded) (id strand : List ℕ) (is : List Instance) (n : ℕ) (i : Instance) (m : Stepped) → first_of id is ≡ n → n < length is → slice_get is n ≡ Some i → step_at now ds strand i ≡ Some m →
    stepped now ds id strand is ≡ Some (put_at n (with_step i m) is, m.emitted)
first_there now ds id strand [] n i m p w at e = absurd (omega arith)
first_there now ds id strand (x ∷ xs) n i m p w at e = by (same id x.id) n p w at (λ k q v there. first_there now ds id strand xs k i m q v there e)
  where
    by : (b : Bool) (n : ℕ) → cond (not b) (1 + first_of id xs) 0 ≡ n → n < length (x ∷ xs) → slice_get (x ∷ xs) n ≡ Some i →
        ((k : ℕ) → first_of id xs ≡ k → k < length xs → slice_get xs k ≡ Some i → stepped now ds id strand xs ≡ Some (put_at k (with_step i m) xs, m.emitted)) →
        cond b (option_map (first_steps x xs) (step_at now ds strand x)) (option_map (other_steps x) (stepped now ds id strand xs)) ≡ Some (put_at n (with_step i m) (x ∷ xs), m.emitted)
    by true zero p w at rest = ap (λ y. option_map (first_steps y xs) (step_at now ds strand y)) (same_Some x i at) ∙ ap (option_map (first_steps i xs)) e
    by true (suc n) p w at rest = absurd (omega arith)
    by false zero p w at rest = absurd (omega arith)
    by false (suc n) p w at rest = ap (option_map (other_steps x)) (rest n (omega arith) (omega arith) at)

-- the instance of an id's number takes the step
pub stepped_there : (now : ℕ) (ds : List Loaded) (id strand : List ℕ) (is : List Instance) (n : ℕ) (i : Instance) (m : Stepped) → position (λ i. same id i.id) is ≡ Some n → n < length is → slice_get is n ≡ Some i → step_at now ds strand i ≡ Some m →
    stepped now ds id strand is ≡ Some (put_at n (with_step i m) is, m.emitted)
stepped_there now ds id strand is n i m p w at e = first_there now ds id strand is n i m (number_first id is n p) w at e
