-- Steps of a strand that are not shared, one after another.
use Rattle.std.proofs.Common.{◌≡◌, ◌∙◌, ℕ, zero, suc, ◌+◌, ◌-◌, ◌≤◌, List, Ok, Err, true, false, Option, Some, None, refl, ap, sym, arith}
use Rattle.std.specs.Prelude.{if◌then◌else◌, option_map, option_and_then, Result, OnErr}
use Rattle.swf_cloudevents.specs.declared.event.Event.{Event}
use Rattle.swf_document.specs.declared.event.ListenSpec.{ListenSpec}
use Rattle.swf_meaning.specs.Documents.{Loaded}
use Rattle.swf_meaning.specs.Complete.{Stepped, complete, step_of}
use Rattle.swf_meaning.specs.Line.{Line, Site}
use Rattle.swf_meaning.specs.Listen.{is_heard_by, heard_by, events_of}
use Rattle.swf_meaning.specs.Lists.{comes_to}
use Rattle.swf_meaning.specs.Local.{local, rule}
use Rattle.swf_meaning.specs.Node.{Node, Try, Running}
use Rattle.swf_meaning.specs.Parts.{kind_of, listen_in}
use Rattle.swf_meaning.specs.Put.{put_at}
use Rattle.swf_meaning.specs.Shared.{is_shared, unshared, after_one, advanced}
use Rattle.swf_meaning.specs.Strands.{can_go, can_top}
use Rattle.swf_meaning.specs.Top.{Top, Begins, Moves, Fails, Retries, Sleeps, Hears, Awaits, Splits, Ends, Breaks, top_at, top_is, line_at}
use Rattle.swf_meaning.specs.World.{Instance, line_of, site_of, step_at, with_step}
use Rattle.swf_meaning.specs.declared.heard.Heard.{Heard}
use Rattle.swf_tasks.specs.Taken.{taken}

-- a task that has not heard all takes none
unheard : (l : Line) (r : Running) (hs : List Heard) (o : Option ListenSpec) → is_heard_by hs o ≡ false → heard_by l r hs o ≡ None
unheard l r hs None e = refl
unheard l r hs (Some spec) e = ap (λ b. if b then Some (complete l r (events_of spec hs)) else None) e

-- what can take no step takes none
no_rule : (s : Site) (l : Line) (t : Top) → can_top s.now t ≡ false → rule s l t ≡ None
no_rule s l (Begins t v) e = cc
no_rule s l (Moves r round i w f) e = cc
no_rule s l (Fails r round i p) e = cc
no_rule s l (Retries r n until) e = ap (λ x. if x then Some (comes_to l r (Try n) zero r.input) else None) e
no_rule s l (Sleeps r until) e = ap (λ x. if x then Some (complete l r r.input) else None) e
no_rule s l (Hears r bound hs) e = unheard l r hs (listen_in (kind_of r.task)) e
no_rule s l (Awaits r a q None) e = refl
no_rule s l (Awaits r a q (Some p)) e = cc
no_rule s l (Splits r ns) e = refl
no_rule s l (Ends w f) e = refl
no_rule s l (Breaks p) e = refl

no_step : (s : Site) (l : Line) (bs : List ℕ) (n : Node) → can_go s.now bs n ≡ false → local s l bs n ≡ None
no_step s l bs n e = ap (option_map (λ x. put_at l bs n (step_of (line_at l bs n) x))) (by (top_at bs n) e)
  where
    by : (o : Option Top) → top_is (can_top s.now) o ≡ false → option_and_then (rule s (line_at l bs n)) o ≡ None
    by None e = refl
    by (Some t) e = no_rule s (line_at l bs n) t e

-- where no step is taken, none is more
pub stands_still : (now : ℕ) (ds : List Loaded) (bs : List ℕ) (n : ℕ) (i : Instance) → unshared now ds bs i ≡ None → advanced now ds bs n i ≡ (i, 0)
stands_still now ds bs zero i e = refl
stands_still now ds bs (suc n) i e = ap (λ o. after_one i (option_map (advanced now ds bs n) o)) e

pub shared_none : (now : ℕ) (ds : List Loaded) (bs : List ℕ) (i : Instance) → is_shared bs i.node ≡ true → unshared now ds bs i ≡ None
shared_none now ds bs i e = ap (λ b. if b then None else option_map (with_step i) (step_at now ds bs i)) e

pub still_none : (now : ℕ) (ds : List Loaded) (bs : List ℕ) (i : Instance) → is_shared bs i.node ≡ false → can_go now bs i.node ≡ false → unshared now ds bs i ≡ None
still_none now ds bs i e h =
    ap (λ b. if b then None else option_map (with_step i) (step_at now ds bs i)) e ∙ ap (option_map (with_step i)) (no_step (site_of now ds i) (line_of i) bs i.node h)

taken_some : (i j : Instance) (x : Option Event) (o : Option Stepped) → option_map (taken i) o ≡ Some (j, x) → option_map (with_step i) o ≡ Some j
taken_some i j x None h = cc
taken_some i j x (Some m) h = ap (λ (r : Option (Instance × Option Event)). option_map (λ (p : Instance × Option Event). p.0) r) h

pub step_some : (now : ℕ) (ds : List Loaded) (bs : List ℕ) (i j : Instance) (x : Option Event) → is_shared bs i.node ≡ false → option_map (taken i) (step_at now ds bs i) ≡ Some (j, x) → unshared now ds bs i ≡ Some j
step_some now ds bs i j x e h = ap (λ b. if b then None else option_map (with_step i) (step_at now ds bs i)) e ∙ taken_some i j x (step_at now ds bs i) h

-- with so many steps taken before
abbrev pub behind : ℕ → Instance × ℕ → Instance × ℕ
behind k r = (r.0, k + r.1)

pub one_step : (now : ℕ) (ds : List Loaded) (bs : List ℕ) (k n : ℕ) (i j : Instance) → unshared now ds bs i ≡ Some j → behind k (advanced now ds bs (suc n) i) ≡ behind (k + 1) (advanced now ds bs n j)
one_step now ds bs k n i j e =
    ap (λ o. behind k (after_one i (option_map (advanced now ds bs n) o))) e ∙ ap (λ m. ((advanced now ds bs n j).0, m)) (omega arith)

-- so many steps lead here, whatever fuel is left
abbrev pub IsReached : ℕ → List Loaded → List ℕ → ℕ → Instance → Instance → Type 0
IsReached now ds bs k i j = (m : ℕ) → advanced now ds bs (k + m) i ≡ behind k (advanced now ds bs m j)

-- with no more fuel than that
pub so_far : (now : ℕ) (ds : List Loaded) (bs : List ℕ) (k : ℕ) (i j : Instance) → IsReached now ds bs k i j → advanced now ds bs k i ≡ (j, k)
so_far now ds bs k i j h = let e : k + 0 ≡ k = omega arith in sym (ap (λ m. advanced now ds bs m i) e) ∙ h 0 ∙ ap (λ m. (j, m)) e

-- one step further
pub goes_on : (now : ℕ) (ds : List Loaded) (bs : List ℕ) (k : ℕ) (i j l : Instance) → IsReached now ds bs k i j → unshared now ds bs j ≡ Some l → IsReached now ds bs (k + 1) i l
goes_on now ds bs k i j l h e m =
    let more : k + 1 + m ≡ k + suc m = omega arith in
    ap (λ n. advanced now ds bs n i) more ∙ h (suc m) ∙ one_step now ds bs k m j l e

-- with fuel left, where no step is taken
pub finished : (now : ℕ) (ds : List Loaded) (bs : List ℕ) (k fuel : ℕ) (i j : Instance) → k ≤ fuel → IsReached now ds bs k i j → unshared now ds bs j ≡ None → advanced now ds bs fuel i ≡ (j, k)
finished now ds bs k fuel i j le h e =
    let all : fuel ≡ k + (fuel - k) = omega (arith, le) in
    let none : k + 0 ≡ k = omega arith in
    ap (λ n. advanced now ds bs n i) all ∙ h (fuel - k) ∙ ap (behind k) (stands_still now ds bs (fuel - k) j e) ∙ ap (λ m. (j, m)) none

-- the fuel is used up
pub used_up : (now : ℕ) (ds : List Loaded) (bs : List ℕ) (k fuel : ℕ) (i j : Instance) → k ≤ fuel → fuel ≤ k → IsReached now ds bs k i j → advanced now ds bs fuel i ≡ (j, k)
used_up now ds bs k fuel i j le ge h = let same : fuel ≡ k = omega (arith, le, ge) in ap (λ n. advanced now ds bs n i) same ∙ so_far now ds bs k i j h

pub on_err : {T E P : Type 0} (r : Result T E) → P → OnErr r P
on_err (Ok x) p = tt
on_err (Err e) p = p
