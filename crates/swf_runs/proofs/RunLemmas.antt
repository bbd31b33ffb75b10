-- Runs that go on.
use Rattle.std.proofs.Common.{◌≡◌, ◌∙◌, ap, refl, List, [], ◌∷◌, ◌++◌, Option, Some, None, option_and_then}
use Rattle.swf_meaning.specs.declared.label.Label.{Label}
use Rattle.swf_meaning.specs.World.{World, empty}
use Rattle.swf_runs.specs.After.{after}
use Rattle.swf_runs.specs.Runs.{run_from, run, world_at, Legal}

run_then : (o : Option World) (ls ms : List Label) → ((w : World) → run_from w (ls ++ ms) ≡ option_and_then (λ m. run_from m ms) (run_from w ls)) → option_and_then (λ w. run_from w (ls ++ ms)) o ≡ option_and_then (λ m. run_from m ms) (option_and_then (λ w. run_from w ls) o)
run_then None ls ms h = refl
run_then (Some w) ls ms h = h w

-- a run of two lists, one after the other
pub run_from-append : (w : World) (ls ms : List Label) → run_from w (ls ++ ms) ≡ option_and_then (λ m. run_from m ms) (run_from w ls)
run_from-append w [] ms = refl
run_from-append w (l ∷ ls) ms = run_then (after w l) ls ms (λ m. run_from-append m ls ms)

some_again : (o : Option World) → option_and_then (λ m. Some m) o ≡ o
some_again None = refl
some_again (Some w) = refl

step_on : (o : Option World) (w : World) (l : Label) → o ≡ Some w → option_and_then (λ m. run_from m (l ∷ [])) o ≡ after w l
step_on None w l e = cc
step_on (Some v) w l e = let h : v ≡ w = cc in some_again (after v l) ∙ ap (λ u. after u l) h

-- a run that goes on by one label
pub run-snoc : (h : List Label) (w : World) (l : Label) → run h ≡ Some w → run (h ++ l ∷ []) ≡ after w l
run-snoc h w l e = run_from-append empty h (l ∷ []) ∙ step_on (run h) w l e

-- the world of a run
pub world_of_run : (h : List Label) (w : World) → run h ≡ Some w → world_at h ≡ w
world_of_run h w e = rw e refl

pub legal_run : (h : List Label) (w : World) → run h ≡ Some w → Legal h
legal_run h w e = rw e refl

-- a run of one label
pub run_one : (w m : World) (l : Label) → after w l ≡ Some m → run_from w (l ∷ []) ≡ Some m
run_one w m l e = some_again (after w l) ∙ e
