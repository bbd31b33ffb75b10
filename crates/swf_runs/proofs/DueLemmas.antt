-- An instance with a timer that is over can take a step.
use Rattle.std.proofs.Common.{is_some, ◌≡◌, refl, ap, cond, ℕ, List, [], ◌∷◌, codes, nat_le, Bool, true, false, ◌||◌, inl, inr, option_map}
use Rattle.std.proofs.lemmas.Bool.{or_left, or_right, or_cases}
use Rattle.std.specs.List.{list_any, filter_map}
use Rattle.swf_meaning.specs.Answer.{status_of}
use Rattle.swf_meaning.specs.Listen.{is_heard}
use Rattle.swf_meaning.specs.Node.{Node, Fresh, Live, Done, Fault}
use Rattle.swf_meaning.specs.Pending.{waiting}
use Rattle.swf_meaning.specs.Strands.{tops_inside, can_top}
use Rattle.swf_meaning.specs.Top.{Top, Begins, Moves, Fails, Retries, Sleeps, Hears, Awaits, Splits, Ends, Breaks}
use Rattle.swf_meaning.specs.Wake.{until_top}
use Rattle.swf_meaning.specs.declared.label.Label.{Label}
use Rattle.swf_runs.specs.Waiting.{is_over, IsOverRunning}
use Rattle.swf_runs.specs.Runs.{world_at, Legal}

-- the timers of strands, and whether one of these can take a step
abbrev timers_of : List (List ℕ × Top) → List (List ℕ × ℕ)
timers_of ss = filter_map (λ s. option_map (λ m. (s.0, m)) (until_top s.1)) ss

abbrev some_can : ℕ → List (List ℕ × Top) → Bool
some_can now ss = list_any (λ s. can_top now s.1) ss

-- one more strand
more_over : (now : ℕ) (bs : List ℕ) (t : Top) (ss : List (List ℕ × Top)) → (is_over now (timers_of ss) ≡ true → some_can now ss ≡ true) → is_over now (timers_of ((bs, t) ∷ ss)) ≡ true → (can_top now t || some_can now ss) ≡ true
more_over now bs t ss rest = by t
  where
    behind : (b : Bool) → is_over now (timers_of ss) ≡ true → (b || some_can now ss) ≡ true
    behind b h = or_right b (some_can now ss) (rest h)

    timer : (m : ℕ) → (nat_le m now || is_over now (timers_of ss)) ≡ true → (nat_le m now || some_can now ss) ≡ true
    timer m h = elim (or_cases (nat_le m now) (is_over now (timers_of ss)) h) [ inl own ↦ or_left (nat_le m now) (some_can now ss) own | inr more ↦ behind (nat_le m now) more ]

    by : (u : Top) → is_over now (timers_of ((bs, u) ∷ ss)) ≡ true → (can_top now u || some_can now ss) ≡ true
    by (Begins r v) h = refl
    by (Moves r round i w f) h = refl
    by (Fails r round i p) h = refl
    by (Retries r n m) h = timer m h
    by (Sleeps r m) h = timer m h
    by (Hears r bound hs) h = behind (is_heard r.task hs) h
    by (Awaits r a q o) h = behind (is_some o) h
    by (Splits r ns) h = behind false h
    by (Ends w f) h = behind false h
    by (Breaks p) h = behind false h

-- a strand whose moment has come can take a step
over_can : (now : ℕ) (ss : List (List ℕ × Top)) → is_over now (timers_of ss) ≡ true → some_can now ss ≡ true
over_can now [] e = cc
over_can now (s ∷ ss) e = more_over now s.0 s.1 ss (over_can now ss) e

over_running : (now : ℕ) (n : Node) → is_over now (waiting n) ≡ true → status_of now n ≡ codes "running"
over_running now (Fresh t v) e = refl
over_running now (Live r k) e = ap (λ b. cond b (codes "running") (codes "waiting")) (over_can now (tops_inside r k) e)
over_running now (Done w f) e = cc
over_running now (Fault p) e = cc

pub legal_over : (h : List Label) → Legal h → IsOverRunning (world_at h)
legal_over h legal id i at e = let w = world_at h in over_running w.now i.node e
