-- The step of the first instance in the queue that can take one.
use Rattle.std.proofs.Common.{◌≡◌, ◌∙◌, ap, cond, refl, ℕ, zero, suc, ◌<◌, List, [], ◌∷◌, length, not, true, false, is_some, Option, Some, None, Ok, slice_get, position}
use Rattle.std.proofs.lemmas.Bool.{or_left, or_right}
use Rattle.std.proofs.lemmas.Option.{same_Some, slice_get_within}
use Rattle.swf_text.specs.Same.{same}
use Rattle.swf_meaning.specs.declared.label.Label.TheVariants.{Step}
use Rattle.swf_meaning.specs.Answer.{instance_at}
use Rattle.swf_meaning.specs.Local.{is_enabled}
use Rattle.swf_meaning.specs.Strands.{can_go}
use Rattle.swf_meaning.specs.World.{World, Instance}
use Rattle.swf_runs.specs.After.{after}
use Rattle.swf_runs.proofs.StrandLemmas.{can_enabled}
use Rattle.swf_instances.specs.Queued.{CanGoAt, is_loud}
use Rattle.swf_instances.proofs.Lookups.{instance_numbered}
use Rattle.swf_world.specs.declared.change.Change.{Change}
use Rattle.swf_world.specs.declared.refusal.Refusal.TheVariants.{NotEnabled}
use Rattle.swf_world.specs.Prepares.{CanGo, IsPreparedStep, IsStepping}
use Rattle.swf_world.specs.Refusals.{refusal_of_step}
use Rattle.swf_world.proofs.StepLemmas.{can_there}
use Rattle.swf_world.proofs.Checks.{steps_first, step_prepares}
use Rattle.swf_world.proofs.RefusalLaws.{taken_somewhere}

-- a step that leads somewhere can go
goes : (w : World) (id strand : List ℕ) (o : Option World) → after w (Step id strand) ≡ o → is_some o ≡ true → CanGo w (Step id strand)
goes w id strand None e h = cc
goes w id strand (Some m) e h = record { id = id; strand = strand; step = refl; next = m; after = e }

-- such a strand is refused for nothing
free : (w : World) (id strand : List ℕ) (n : ℕ) (i : Instance) → position (λ j. same id j.id) w.instances ≡ Some n → slice_get w.instances n ≡ Some i → can_go w.now strand i.node ≡ true → refusal_of_step w.now strand (instance_at id w.instances) ≡ None
free w id strand n i found at can = ap (refusal_of_step w.now strand) (instance_numbered id w.instances n found ∙ at) ∙ ap (λ b. cond b None (Some NotEnabled)) can

-- a strand that can take a step takes that of the id of its instance
pub number_goes : (w : World) (id strand : List ℕ) (n : ℕ) (i : Instance) → position (λ j. same id j.id) w.instances ≡ Some n → slice_get w.instances n ≡ Some i → can_go w.now strand i.node ≡ true → CanGo w (Step id strand)
number_goes w id strand n i found at can = goes w id strand (after w (Step id strand)) refl (taken_somewhere w (Step id strand) (free w id strand n i found at can))

-- its step, by the id of its instance, and the change that was made for its number
pub prepared_at : (w : World) (id strand : List ℕ) (n : ℕ) (i : Instance) (c : Change) → position (λ j. same id j.id) w.instances ≡ Some n → n < length w.instances → slice_get w.instances n ≡ Some i → can_go w.now strand i.node ≡ true →
    IsStepping w.now w.documents n strand w.instances c → IsPreparedStep w (Step id strand, c)
prepared_at w id strand n i c found within at can makes =
    let first = steps_first w id strand n found within in
    record { goes = number_goes w id strand n i found at can; prepares = step_prepares {E = ℕ} w id strand n (Ok c) first (free w id strand n i found at can) makes }

-- the strand of an instance that can take a step takes that of the instance's id, and the change that was made for its number
pub prepared_there : (w : World) (id strand : List ℕ) (n : ℕ) (i : Instance) (c : Change) → CanGoAt w.now w.instances n strand → id ≡ i.id → position (λ j. same i.id j.id) w.instances ≡ Some n → slice_get w.instances n ≡ Some i →
    IsStepping w.now w.documents n strand w.instances c → IsPreparedStep w (Step id strand, c)
prepared_there w id strand n i c p own alone at makes =
    let can = can_there w.now w.instances n strand i p at in
    prepared_at w id strand n i c (ap (λ k. position (λ j. same k j.id) w.instances) own ∙ alone) (slice_get_within w.instances n i at) at can makes

-- where a strand can take a step it is not quiet
pub goes_loud : (now : ℕ) (is : List Instance) (n : ℕ) (strand : List ℕ) → CanGoAt now is n strand → not (is_loud now is) ≡ false
goes_loud now is n strand p = ap not (loud is n p.0 p.1 (can_enabled now strand p.0.node p.2))
  where
    loud : (is : List Instance) (n : ℕ) (i : Instance) → slice_get is n ≡ Some i → is_enabled now i.node ≡ true → is_loud now is ≡ true
    loud [] n i at e = cc
    loud (x ∷ xs) zero i at e = or_left (is_enabled now x.node) (is_loud now xs) (ap (λ j. is_enabled now j.node) (same_Some x i at) ∙ e)
    loud (x ∷ xs) (suc n) i at e = or_right (is_enabled now x.node) (is_loud now xs) (loud xs n i at e)
