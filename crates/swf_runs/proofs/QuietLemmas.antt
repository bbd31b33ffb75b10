-- No strand is enabled exactly where no step has a world after it.
use Rattle.std.proofs.Common.{◌≡◌, ◌∙◌, refl, ap, sym, subst, cond, ℕ, List, [], ◌∷◌, Bool, true, false, not, ◌||◌, inl, inr, is_some, Option, Some, None}
use Rattle.std.proofs.lemmas.Bool.{and_parts, or_parts, or_cases, not_from_false, false_from_ne_true, both_ways}
use Rattle.std.specs.List.{list_any}
use Rattle.swf_text.specs.Same.{same}
use Rattle.swf_text.proofs.SameLemmas.{same_true, same_refl}
use Rattle.swf_meaning.specs.Answer.{instance_at}
use Rattle.swf_meaning.specs.Local.{is_enabled}
use Rattle.swf_meaning.specs.Strands.{can_go}
use Rattle.swf_meaning.specs.World.{World, Instance}
use Rattle.swf_meaning.specs.declared.label.Label.{Label}
use Rattle.swf_meaning.specs.declared.label.Label.TheVariants.{Step}
use Rattle.swf_runs.specs.After.{after, stepped, with_instances}
use Rattle.swf_runs.specs.Kept.{ids, is_one_of, are_apart}
use Rattle.swf_runs.specs.Quiet.{IsQuietStill}
use Rattle.swf_runs.specs.Runs.{world_at, Legal, is_quiet}
use Rattle.swf_runs.proofs.KeepLemmas.{legal_world}
use Rattle.swf_runs.proofs.StrandLemmas.{some_mapped, can_enabled, enabled_can, can_step, stepped_some}

abbrev some_enabled : ℕ → List Instance → Bool
some_enabled now is = list_any (λ i. is_enabled now i.node) is

-- where none is enabled, no strand of the instance of an id can take a step
nobody_can : (now : ℕ) (id strand : List ℕ) (is : List Instance) → some_enabled now is ≡ false → can_step now strand (instance_at id is) ≡ false
nobody_can now id strand [] f = refl
nobody_can now id strand (x ∷ xs) f =
    let h = or_parts (is_enabled now x.node) (some_enabled now xs) f in
    by (same id x.id) (false_from_ne_true (can_go now strand x.node) (λ t. both_ways (is_enabled now x.node) h.0 (can_enabled now strand x.node t))) (nobody_can now id strand xs h.1)
  where
    by : (b : Bool) → can_go now strand x.node ≡ false → can_step now strand (instance_at id xs) ≡ false → can_step now strand (cond b (Some x) (instance_at id xs)) ≡ false
    by true own rest = own
    by false own rest = rest

-- the one that can is among them
can_one : (now : ℕ) (id strand : List ℕ) (is : List Instance) → can_step now strand (instance_at id is) ≡ true → is_one_of id (ids is) ≡ true
can_one now id strand [] t = cc
can_one now id strand (x ∷ xs) t = by (same id x.id) t (can_one now id strand xs)
  where
    by : (b : Bool) → can_step now strand (cond b (Some x) (instance_at id xs)) ≡ true → (can_step now strand (instance_at id xs) ≡ true → is_one_of id (ids xs) ≡ true) → (b || is_one_of id (ids xs)) ≡ true
    by true t rest = refl
    by false t rest = rest t

-- a strand of the instance of an id that can take a step
abbrev SomeCan : ℕ → List Instance → Type 0
SomeCan now is = (id : List ℕ) × (strand : List ℕ) × (can_step now strand (instance_at id is) ≡ true)

first_can : (now : ℕ) (x : Instance) (xs : List Instance) → (bs : List ℕ) × (can_go now bs x.node ≡ true) → SomeCan now (x ∷ xs)
first_can now x xs h = (x.id, h.0, ap (λ b. can_step now h.0 (cond b (Some x) (instance_at x.id xs))) (same_refl x.id) ∙ h.1)

later_can : (now : ℕ) (x : Instance) (xs : List Instance) → is_one_of x.id (ids xs) ≡ false → SomeCan now xs → SomeCan now (x ∷ xs)
later_can now x xs other h =
    let differs = false_from_ne_true (same h.0 x.id) (λ t. both_ways (is_one_of x.id (ids xs)) other (subst (λ y. is_one_of y (ids xs) ≡ true) (same_true h.0 x.id t) (can_one now h.0 h.1 xs h.2))) in
    (h.0, h.1, ap (λ b. can_step now h.1 (cond b (Some x) (instance_at h.0 xs))) differs ∙ h.2)

not_true : (b : Bool) → not b ≡ true → b ≡ false
not_true true e = cc
not_true false e = refl

someone_can : (now : ℕ) (is : List Instance) → are_apart (ids is) ≡ true → some_enabled now is ≡ true → SomeCan now is
someone_can now [] a t = cc
someone_can now (x ∷ xs) a t =
    let h = and_parts (not (is_one_of x.id (ids xs))) (are_apart (ids xs)) a in
    elim (or_cases (is_enabled now x.node) (some_enabled now xs) t) [
      | inl e ↦ first_can now x xs (enabled_can now x.node e)
      | inr e ↦ later_can now x xs (not_true (is_one_of x.id (ids xs)) h.0) (someone_can now xs h.1 e)
    ]

none_from : {A : Type 0} (o : Option A) → is_some o ≡ false → o ≡ None
none_from None e = refl
none_from (Some x) e = cc

-- whether a step has a world after it
after_can : (w : World) (id strand : List ℕ) → is_some (after w (Step id strand)) ≡ can_step w.now strand (instance_at id w.instances)
after_can w id strand = some_mapped (with_instances w) (stepped w.now w.documents id strand w.instances) ∙ stepped_some w.now w.documents id strand w.instances

quiet_still : (w : World) → are_apart (ids w.instances) ≡ true → IsQuietStill w
quiet_still w a = (still, quiet)
  where
    still : is_quiet w ≡ true → (id strand : List ℕ) → after w (Step id strand) ≡ None
    still q id strand = none_from (after w (Step id strand)) (after_can w id strand ∙ nobody_can w.now id strand w.instances (not_true (some_enabled w.now w.instances) q))

    quiet : ((id strand : List ℕ) → after w (Step id strand) ≡ None) → is_quiet w ≡ true
    quiet h = not_from_false (some_enabled w.now w.instances) (false_from_ne_true (some_enabled w.now w.instances)
        (λ t.
        let c = someone_can w.now w.instances a t in
        both_ways (can_step w.now c.1 (instance_at c.0 w.instances)) (sym (after_can w c.0 c.1) ∙ ap is_some (h c.0 c.1)) c.2))

pub legal_quiet : (h : List Label) → Legal h → IsQuietStill (world_at h)
legal_quiet h legal = let x = legal_world h legal in quiet_still (world_at h) x.apart
