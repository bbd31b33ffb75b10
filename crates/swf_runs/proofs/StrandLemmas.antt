-- A rule applies to a strand exactly where it can take a step, and some strand can exactly where a node is enabled.
use Rattle.std.proofs.Common.{◌≡◌, ◌∙◌, refl, ap, cond, ℕ, zero, List, [], ◌∷◌, nat_le, Bool, true, false, is_some, Option, Some, None, option_map}
use Rattle.std.specs.Prelude.{option_and_then}
use Rattle.std.proofs.lemmas.List.Folds.{list_any_at, Any-from_list_any}
use Rattle.swf_document.specs.declared.event.ListenSpec.{ListenSpec}
use Rattle.swf_meaning.specs.Complete.{Stepped, complete, step_of}
use Rattle.swf_meaning.specs.Documents.{Loaded}
use Rattle.swf_meaning.specs.Line.{Line, Site}
use Rattle.swf_meaning.specs.Listen.{is_satisfied, is_heard_by, heard_by, events_of}
use Rattle.swf_meaning.specs.Lists.{comes_to}
use Rattle.swf_meaning.specs.Local.{local, rule, is_enabled}
use Rattle.swf_meaning.specs.Node.{Node, Try, Running}
use Rattle.swf_meaning.specs.Parts.{kind_of, listen_in}
use Rattle.swf_meaning.specs.Put.{put_at}
use Rattle.swf_meaning.specs.Strands.{tops, can_go, can_top}
use Rattle.swf_meaning.specs.Top.{Top, Begins, Moves, Fails, Retries, Sleeps, Hears, Awaits, Splits, Ends, Breaks, top_at, top_is, line_at}
use Rattle.swf_meaning.specs.World.{Instance, step_at, site_of, line_of, with_step}
use Rattle.swf_meaning.specs.Answer.{instance_at}
use Rattle.swf_meaning.specs.declared.heard.Heard.{Heard}
use Rattle.swf_cloudevents.specs.declared.event.Event.{Event}
use Rattle.swf_text.specs.Same.{same}
use Rattle.swf_meaning.proofs.TopsLemmas.{tops_found, tops_listed}
use Rattle.swf_runs.specs.After.{stepped}
use Rattle.swf_runs.specs.Tops.{AreFound}

pub some_mapped : {A B : Type 0} (f : A → B) (o : Option A) → is_some (option_map f o) ≡ is_some o
some_mapped f None = refl
some_mapped f (Some x) = refl

some_if : {A : Type 0} (b : Bool) (x : A) → is_some (cond b (Some x) None) ≡ b
some_if true x = refl
some_if false x = refl

heard_some : (l : Line) (r : Running) (hs : List Heard) (o : Option ListenSpec) → is_some (heard_by l r hs o) ≡ is_heard_by hs o
heard_some l r hs None = refl
heard_some l r hs (Some spec) = some_if (is_satisfied spec hs) (complete l r (events_of spec hs))

-- a rule applies to a strand exactly where it can take a step
rule_can : (s : Site) (l : Line) (t : Top) → is_some (rule s l t) ≡ can_top s.now t
rule_can s l (Begins t v) = refl
rule_can s l (Moves r round i w f) = refl
rule_can s l (Fails r round i p) = refl
rule_can s l (Retries r n until) = some_if (nat_le until s.now) (comes_to l r (Try n) zero r.input)
rule_can s l (Sleeps r until) = some_if (nat_le until s.now) (complete l r r.input)
rule_can s l (Hears r bound hs) = heard_some l r hs (listen_in (kind_of r.task))
rule_can s l (Awaits r a q None) = refl
rule_can s l (Awaits r a q (Some p)) = refl
rule_can s l (Splits r ns) = refl
rule_can s l (Ends w f) = refl
rule_can s l (Breaks p) = refl

pub local_can : (s : Site) (l : Line) (bs : List ℕ) (n : Node) → is_some (local s l bs n) ≡ can_go s.now bs n
local_can s l bs n = some_mapped (λ x. put_at l bs n (step_of (line_at l bs n) x)) (option_and_then (rule s (line_at l bs n)) (top_at bs n)) ∙ by (top_at bs n)
  where
    by : (o : Option Top) → is_some (option_and_then (rule s (line_at l bs n)) o) ≡ top_is (can_top s.now) o
    by None = refl
    by (Some t) = rule_can s (line_at l bs n) t

-- a strand is listed with the top that its name finds
pub are_found : (n : Node) → AreFound n
are_found n bs t = (tops_found n bs t, tops_listed n bs t)

-- where a strand can take a step, some strand can
pub can_enabled : (now : ℕ) (bs : List ℕ) (n : Node) → can_go now bs n ≡ true → is_enabled now n ≡ true
can_enabled now bs n = by (top_at bs n) refl
  where
    by : (o : Option Top) → top_at bs n ≡ o → top_is (can_top now) o ≡ true → is_enabled now n ≡ true
    by None found e = cc
    by (Some t) found e =
        let h = tops_listed n bs t found in
        list_any_at (λ (s : List ℕ × Top). can_top now s.1) (tops n) h.0 (bs, t) h.1 (ap (λ (s : List ℕ × Top). can_top now s.1) h.2 ∙ e)

-- where a node is enabled, a strand of it can take a step
pub enabled_can : (now : ℕ) (n : Node) → is_enabled now n ≡ true → (bs : List ℕ) × (can_go now bs n ≡ true)
enabled_can now n e =
    let h = Any-from_list_any (λ (s : List ℕ × Top). can_top now s.1) (tops n) e in
    (h.1.0, ap (top_is (can_top now)) (tops_found n h.1.0 h.1.1 (h.0, h.2, h.3)) ∙ h.4)

-- the instance has that strand, which can take a step
abbrev pub can_step : ℕ → List ℕ → Option Instance → Bool
can_step now strand None = false
can_step now strand (Some i) = can_go now strand i.node

-- a strand of the instance of an id takes a step where it can
pub stepped_some : (now : ℕ) (ds : List Loaded) (id strand : List ℕ) (is : List Instance) → is_some (stepped now ds id strand is) ≡ can_step now strand (instance_at id is)
stepped_some now ds id strand [] = refl
stepped_some now ds id strand (i ∷ is) = by (same id i.id) (stepped_some now ds id strand is)
  where
    by : (b : Bool) → is_some (stepped now ds id strand is) ≡ can_step now strand (instance_at id is) →
        is_some {T = List Instance × Option Event} (cond b (option_map (λ (m : Stepped). (with_step i m ∷ is, m.emitted)) (step_at now ds strand i)) (option_map (λ (p : List Instance × Option Event). (i ∷ p.0, p.1)) (stepped now ds id strand is))) ≡ can_step now strand (cond b (Some i) (instance_at id is))
    by true h = some_mapped (λ (m : Stepped). (with_step i m ∷ is, m.emitted)) (step_at now ds strand i) ∙ local_can (site_of now ds i) (line_of i) strand i.node
    by false h = some_mapped (λ (p : List Instance × Option Event). (i ∷ p.0, p.1)) (stepped now ds id strand is) ∙ h
