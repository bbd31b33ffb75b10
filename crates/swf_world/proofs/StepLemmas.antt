-- A step that was prepared, and the event that goes out with it.
use Rattle.std.proofs.Common.{◌≡◌, ◌∙◌, ap, sym, refl, ℕ, List, true, Option, Some, None, option_map, slice_get}
use Rattle.swf_cloudevents.specs.declared.event.Event.{Event}
use Rattle.std.proofs.lemmas.Option.{same_Some}
use Rattle.swf_meaning.specs.Complete.{Stepped}
use Rattle.swf_meaning.specs.Documents.{Loaded}
use Rattle.swf_meaning.specs.Strands.{can_go}
use Rattle.swf_meaning.specs.World.{Instance, step_at}
use Rattle.swf_instances.specs.Queued.{CanGoAt}
use Rattle.swf_tasks.specs.Prepares.{applied, Fits, IsPrepared}
use Rattle.swf_tasks.specs.Taken.{offered_own, taken}
use Rattle.swf_tasks.specs.declared.prepared.Prepared.{Prepared}
use Rattle.swf_world.specs.Changes.{IsReady, after_step}

-- what a step leads to is offered the event that goes out
abbrev with_own : Instance × Option Event → Instance × Option Event
with_own p = (offered_own p.1 p.0, p.1)

own_step : (i : Instance) (o : Option Stepped) → option_map (after_step i) o ≡ option_map with_own (option_map (taken i) o)
own_step i None = refl
own_step i (Some m) = refl

-- an instance is ready to take a step that was prepared, once the event was offered to it which goes out
pub prepared_ready : (now : ℕ) (ds : List Loaded) (n : ℕ) (strand : List ℕ) (is : List Instance) (i : Instance) (p q : Prepared) → slice_get is n ≡ Some i → IsPrepared now ds strand i p →
    Fits q i → applied q i ≡ offered_own p.emitted (applied p i) → q.emitted ≡ p.emitted → IsReady now ds n strand is q
prepared_ready now ds n strand is i p q there prepared fits same sends = record {
  instance = i;
  there = there;
  fits = fits;
  stepped = own_step i (step_at now ds strand i) ∙ ap (option_map with_own) prepared.step ∙ (λ j. Some (sym same j, sym sends j));
}

-- the strand of the instance of that number can take a step
pub can_there : (now : ℕ) (is : List Instance) (n : ℕ) (strand : List ℕ) (i : Instance) → CanGoAt now is n strand → slice_get is n ≡ Some i → can_go now strand i.node ≡ true
can_there now is n strand i p at = ap (λ j. can_go now strand j.node) (same_Some i p.0 (sym at ∙ p.1)) ∙ p.2
