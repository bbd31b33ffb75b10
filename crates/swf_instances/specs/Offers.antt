-- An event is offered to all instances but one, and those that took it are put in their places.
use Rattle.std.specs.Prelude.{◌≡◌, ℕ, zero, suc, List, [], ◌∷◌, Bool, false, length, map, Some, slice_get}
use Rattle.std.specs.List.{AllByRecursion}
use Rattle.swf_cloudevents.specs.declared.event.Event.{Event}
use Rattle.swf_meaning.specs.Offer.{offered_all, offered_one, takers_in}
use Rattle.swf_meaning.specs.World.{Instance}
use Rattle.swf_listeners.specs.Listeners.{numbers_where}
use Rattle.swf_instances.specs.declared.offer.Hearing.{Hearing}

-- with another instance in place of that of a number
abbrev pub put_at : ℕ → Instance → List Instance → List Instance
put_at n j [] = []
put_at zero j (i ∷ is) = j ∷ is
put_at (suc n) j (i ∷ is) = i ∷ put_at n j is

-- with those that took an event in their places
abbrev pub put_all : List Hearing → List Instance → List Instance
put_all [] is = is
put_all (h ∷ hs) is = put_all hs (put_at h.number h.instance is)

-- all after an event was offered to each but that of a number
abbrev pub offered_but : ℕ → Event → List Instance → List Instance
offered_but n e [] = []
offered_but zero e (i ∷ is) = i ∷ offered_all e is
offered_but (suc n) e (i ∷ is) = offered_one e i ∷ offered_but n e is

-- what no offer changes
abbrev pub ids : List Instance → List (List ℕ)
ids is = map (λ i. i.id) is

-- it is one of these instances, which took an event
abbrev pub IsHeardFrom : List Instance → Hearing → Type 0
IsHeardFrom is h = slice_get (ids is) h.number ≡ Some h.instance.id

-- those that took an event which was offered to each but that of a number
pub record IsOffer (n : ℕ) (e : Event) (is : List Instance) (hs : List Hearing) : Type 0 where
  pub put : put_all hs is ≡ offered_but n e is
  pub heard : AllByRecursion (IsHeardFrom is) hs

-- these numbers, ascending, are of all that may take an event
pub record Covers (e : Event) (is : List Instance) (ns : List ℕ) : Type 0 where
  pub test : ℕ → Bool
  pub are : ns ≡ numbers_where test (length is)
  pub others : (n : ℕ) (i : Instance) → slice_get is n ≡ Some i → test n ≡ false → takers_in e i ≡ 0
