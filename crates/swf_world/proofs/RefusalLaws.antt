-- A label has a cause for which it is refused exactly where there is no world after it.
use Rattle.std.proofs.Common.{◌≡◌, ◌∙◌, ap, sym, refl, cond, ℕ, ◌||◌, List, [], ◌∷◌, length, nat_le, Bool, true, false, not, is_some, Option, Some, None, option_map, option_and_then}
use Rattle.swf_value.specs.Value.{Value}
use Rattle.swf_cloudevents.specs.declared.event.Event.{Event}
use Rattle.swf_text.specs.Same.{same}
use Rattle.swf_document.specs.declared.document.Document.{Document}
use Rattle.swf_document.specs.declared.fault.Fault.{Fault}
use Rattle.swf_meaning.specs.declared.label.Label.{Label}
use Rattle.swf_meaning.specs.declared.label.Label.TheVariants.{Load, Start, Event as Told, Reply, Moment, Step}
use Rattle.swf_meaning.specs.Strands.{can_go}
use Rattle.swf_meaning.specs.declared.key.Key.TheVariants as keys
use Rattle.swf_meaning.specs.World.{line_of, site_of, World, Instance, step_at, new_instance}
use Rattle.swf_meaning.specs.Answer.{instance_at}
use Rattle.swf_meaning.specs.Documents.{Loaded, document_at}
use Rattle.swf_validate.specs.Accepts.{faults}
use Rattle.swf_runs.specs.After.{after, loaded, accepted, is_open, most_documents, most_instances, with_answer, with_document, with_instance, with_event, stepped, with_instances}
use Rattle.swf_world.specs.declared.refusal.Refusal.{Refusal}
use Rattle.swf_world.specs.declared.refusal.Refusal.TheVariants.{Stale, Full, Past, NotEnabled}
use Rattle.swf_world.specs.Changes.{with_moment}
use Rattle.swf_registry.specs.UsedKey.{used_at}
use Rattle.swf_registry.proofs.Lookups.{used_some}
use Rattle.swf_world.specs.Refusals.{refusal, refusal_of_load, refusal_of_start, refusal_of_step, duplicate, cause}
use Rattle.swf_world.proofs.Lookups.{first_steps, other_steps}
use Rattle.swf_runs.proofs.StrandLemmas.{some_mapped, local_can}

-- a label that has no refusal has a world after it, and the other way round
abbrev Agree : {A : Type 0} → Option A → Option Refusal → Type 0
Agree a r = is_some a ≡ not (is_some r)

load_agrees : (w : World) (d : Document) (v : Value) (o : Option ℕ) (full : Bool) → Agree (cond (is_some o || full) None (Some (with_document w v d))) (duplicate o (cause full Full None))
load_agrees w d v (Some p) full = refl
load_agrees w d v None true = refl
load_agrees w d v None false = refl

start_agrees : (w : World) (f : Document → World) (o : Option ℕ) (d : Option Document) → Agree (cond (is_some o || nat_le most_instances (length w.instances)) None (option_map f d)) (duplicate o (refusal_of_start w d))
start_agrees w f (Some p) d = refl
start_agrees w f None None = by (nat_le most_instances (length w.instances))
  where
    by : (b : Bool) → is_some (cond b None (option_map f None)) ≡ false
    by true = refl
    by false = refl
start_agrees w f None (Some d) = by (nat_le most_instances (length w.instances))
  where
    by : (b : Bool) → Agree (cond b None (Some (f d))) (cause b Full None)
    by true = refl
    by false = refl

-- the instance has that strand, which can take a step
abbrev can_step : ℕ → List ℕ → Option Instance → Bool
can_step now strand None = false
can_step now strand (Some i) = can_go now strand i.node

-- a strand of the instance of an id takes a step where it can
stepped_some : (now : ℕ) (ds : List Loaded) (id strand : List ℕ) (is : List Instance) → is_some (stepped now ds id strand is) ≡ can_step now strand (instance_at id is)
stepped_some now ds id strand [] = refl
stepped_some now ds id strand (i ∷ is) = by (same id i.id) (stepped_some now ds id strand is)
  where
    by : (b : Bool) → is_some (stepped now ds id strand is) ≡ can_step now strand (instance_at id is) →
        is_some (cond b (option_map (first_steps i is) (step_at now ds strand i)) (option_map (other_steps i) (stepped now ds id strand is))) ≡ can_step now strand (cond b (Some i) (instance_at id is))
    by true h = some_mapped (first_steps i is) (step_at now ds strand i) ∙ local_can (site_of now ds i) (line_of i) strand i.node
    by false h = some_mapped (other_steps i) (stepped now ds id strand is) ∙ h

step_agrees : {A : Type 0} (now : ℕ) (strand : List ℕ) (s : Option A) (o : Option Instance) → is_some s ≡ can_step now strand o → Agree s (refusal_of_step now strand o)
step_agrees now strand s None e = e
step_agrees now strand s (Some i) e = by (can_go now strand i.node) e
  where
    by : (t : Bool) → is_some s ≡ t → is_some s ≡ not (is_some (cond t None (Some NotEnabled)))
    by true e = e
    by false e = e

event_agrees : (w : World) (e : Event) (o : Option ℕ) → Agree (cond (is_some o) None (Some (with_event w e))) (duplicate o None)
event_agrees w e (Some p) = refl
event_agrees w e None = refl

reply_agrees : (w : World) (o : Option ℕ) (awaits : Bool) → Agree (cond (is_some o || not awaits) None (Some w)) (duplicate o (cause (not awaits) Stale None))
reply_agrees w (Some p) awaits = refl
reply_agrees w None true = refl
reply_agrees w None false = refl

pub agree : (w : World) (l : Label) → Agree (after w l) (refusal w l)
agree w (Load v) = by (faults v) (accepted v)
  where
    by : (fs : List Fault) (o : Option Document) → Agree (option_and_then (loaded w v) o) (refusal_of_load w fs o)
    by fs None = refl
    by fs (Some d) =
        ap (λ b. is_some (cond (b || nat_le most_documents (length w.documents)) None (Some (with_document w v d)))) (sym (used_some (keys.Document d.key) w.keys))
        ∙ load_agrees w d v (used_at (keys.Document d.key) w.keys) (nat_le most_documents (length w.documents))
agree w (Start id key input) =
    ap (λ b. is_some (cond (b || nat_le most_instances (length w.instances)) None (option_map (λ d. with_instance w (new_instance id input w.now d)) (document_at key w.documents)))) (sym (used_some (keys.Instance id) w.keys))
    ∙ start_agrees w (λ d. with_instance w (new_instance id input w.now d)) (used_at (keys.Instance id) w.keys) (document_at key w.documents)
agree w (Told e) =
    ap (λ b. is_some (cond b None (Some (with_event w e)))) (sym (used_some (keys.Event e.source e.id) w.keys)) ∙ event_agrees w e (used_at (keys.Event e.source e.id) w.keys)
agree w (Reply a r) =
    ap (λ b. is_some (cond (b || not (is_open a w)) None (Some (with_answer w a r)))) (sym (used_some (keys.Activity a) w.keys))
    ∙ reply_agrees (with_answer w a r) (used_at (keys.Activity a) w.keys) (is_open a w)
agree w (Moment moment) = by (nat_le moment w.now)
  where
    by : (b : Bool) → Agree (cond b None (Some (with_moment w moment))) (cause b (Past w.now) None)
    by true = refl
    by false = refl
agree w (Step id strand) =
    step_agrees w.now strand (option_map (with_instances w) (stepped w.now w.documents id strand w.instances)) (instance_at id w.instances)
    (some_mapped (with_instances w) (stepped w.now w.documents id strand w.instances) ∙ stepped_some w.now w.documents id strand w.instances)

-- a label that is refused leads nowhere
pub refused_nowhere : (w : World) (l : Label) (r : Refusal) → refusal w l ≡ Some r → after w l ≡ None
refused_nowhere w l r e = by (after w l) (agree w l ∙ ap (λ o. not (is_some o)) e)
  where
    by : (o : Option World) → is_some o ≡ false → o ≡ None
    by None h = refl
    by (Some m) h = cc

pub taken_somewhere : (w : World) (l : Label) → refusal w l ≡ None → is_some (after w l) ≡ true
taken_somewhere w l e = agree w l ∙ ap (λ o. not (is_some o)) e

pub somewhere_taken : (w : World) (l : Label) → is_some (after w l) ≡ true → refusal w l ≡ None
somewhere_taken w l e = by (refusal w l) (sym (agree w l) ∙ e)
  where
    by : (o : Option Refusal) → not (is_some o) ≡ true → o ≡ None
    by None h = refl
    by (Some r) h = cc
