-- How what two calls add is joined.
use Rattle.std.proofs.Common.{◌≡◌, ◌∙◌, ap, sym, refl, subst, ℕ, List, [], ◌++◌, append-nil, append_assoc, Option, Some, None, is_some, true, option_and_then}
use Rattle.swf_store.specs.declared.image.Image.{Image}
use Rattle.swf_store.specs.declared.said.Piece.{Piece}
use Rattle.swf_store.specs.Said.{IsSaid}
use Rattle.swf_store.proofs.Moments.{goes_on_only, started}
use Rattle.swf_meaning.specs.declared.label.Label.{Label}
use Rattle.swf_runs.specs.Runs.{run_from}
use Rattle.swf_meaning.specs.World.{World}
use Rattle.swf_runs.proofs.RunLemmas.{run_from-append}
use Rattle.swf_engine.specs.Core.{Core, StandFor}
use Rattle.swf_engine.specs.History.{IsGrown}
use Rattle.swf_engine.specs.Moves.{Passes, Adds, Breaks}
use Rattle.swf_engine.proofs.HistoryLemmas.{left_history, not_grown, grown_first, grown_second}

-- a store that tells what reads give
pub some_of : (o p : Option Image) (i : Image) → is_some o ≡ is_some p → p ≡ Some i → (j : Image) × (o ≡ Some j)
some_of (Some j) p i e is = (j, refl)
some_of None p i e is = let h : is_some p ≡ true = ap is_some is in absurd (cc)

then_run : (o : Option World) (m : World) (ls : List Label) → o ≡ Some m → option_and_then (λ v. run_from v ls) o ≡ run_from m ls
then_run None m ls e = cc
then_run (Some v) m ls e = let h : v ≡ m = cc in ap (λ u. run_from u ls) h

pub run_joined : (w m : World) (first second : List Label) → run_from w first ≡ Some m → run_from w (first ++ second) ≡ run_from m second
run_joined w m first second e = run_from-append w first second ∙ then_run (run_from w first) m second e

module _ {S : Type 0} (moment : S → ℕ) (left_since : S → ℕ → Image → List Piece → Type 0) (said : S → Option (List Piece)) (may_leave : S → Image → Type 0) (seen : S → Option Image)
    (only_now : (s : S) (image : Image) (pieces : List Piece) → left_since s (moment s) image pieces → may_leave s image × IsSaid (said s) pieces) where
  -- a call that did nothing
  pub stays_passes : (old : S) (engine : Core) (group : List Label) → Passes moment left_since said may_leave seen old old engine group
  stays_passes old engine group = λ image is history stands.
      started moment left_since old (λ left pieces. IsGrown history group left × IsSaid (said old) pieces)
      (λ left pieces since. let now = only_now old left pieces since in (not_grown history group left (left_history image (may_leave old) engine history stands left now.0), now.1))

  pub stays_adds : (old : S) (engine : Core) → Adds moment left_since said may_leave seen old old engine engine []
  stays_adds old engine = record {
    honest = refl;
    run = refl;
    passes = stays_passes old engine [];
    stands = λ image is history stands now is_now.
        let same : image ≡ now = cc in
        subst (λ (l : List Label). StandFor now (may_leave old) engine l) (sym (append-nil history)) (subst (λ (i : Image). StandFor i (may_leave old) engine history) same stands);
  }

  -- a first call added labels, and a second call may leave some more
  passes_on : (old mid new : S) (before middle : Core) (first second : List Label) → said mid ≡ said old → Adds moment left_since said may_leave seen old mid before middle first
      → Passes moment left_since said may_leave seen mid new middle second → Passes moment left_since said may_leave seen old new before (first ++ second)
  passes_on old mid new before middle first second silent a p = λ image is history stands.
      let there = some_of (seen mid) (seen old) image a.honest is in
      let now = a.stands image is history stands there.0 there.1 in
      goes_on_only moment left_since said old mid new (IsGrown history first) (IsGrown (history ++ first) second) (IsGrown history (first ++ second)) silent
      (a.passes image is history stands)
      (p there.0 there.1 (history ++ first) now)
      (λ left g. grown_first history first second left g)
      (λ left g. grown_second history first second left g)

  pub adds_join : (old mid new : S) (before middle after : Core) (first second : List Label) → said mid ≡ said old → Adds moment left_since said may_leave seen old mid before middle first
      → Adds moment left_since said may_leave seen mid new middle after second → Adds moment left_since said may_leave seen old new before after (first ++ second)
  adds_join old mid new before middle after first second silent a b = record {
    honest = b.honest ∙ a.honest;
    run = run_joined before.world middle.world first second a.run ∙ b.run;
    passes = passes_on old mid new before middle first second silent a b.passes;
    stands = λ image is history stands now is_now.
        let there = some_of (seen mid) (seen old) image a.honest is in
        let stood = a.stands image is history stands there.0 there.1 in
        subst (λ (l : List Label). StandFor now (may_leave new) after l) (append_assoc history first second) (b.stands there.0 there.1 (history ++ first) stood now is_now);
  }

  pub breaks_join : (old mid new : S) (before middle : Core) (first second : List Label) → said mid ≡ said old → Adds moment left_since said may_leave seen old mid before middle first
      → Breaks moment left_since said may_leave seen mid new middle second → Breaks moment left_since said may_leave seen old new before (first ++ second)
  breaks_join old mid new before middle first second silent a b = record {
    legal = ap is_some (run_joined before.world middle.world first second a.run) ∙ b.legal;
    passes = passes_on old mid new before middle first second silent a b.passes;
  }
