-- What appending the frame of a label adds to a history.
use Rattle.std.proofs.Common.{◌≡◌, ◌∙◌, ◌↔◌, ap, refl, subst, ⊎_elim, ℕ, ◌+◌, ◌<◌, ◌≤◌, arith, Result, Ok, Err, None, List, [], ◌∷◌, ◌++◌, length, Option, Some, is_some}
use Rattle.std.specs.Option.{ForSome}
use Rattle.swf_store.specs.declared.image.Image.{Image}
use Rattle.swf_store.specs.declared.image.File.{File}
use Rattle.swf_store.specs.declared.image.File.TheVariants.{Journal}
use Rattle.swf_store.specs.declared.said.Piece.{Piece}
use Rattle.swf_store.specs.Stops.{LeavesOnly}
use Rattle.swf_store.proofs.Moments.{weaker_only}
use Rattle.swf_journal.specs.Appending.{appended, BeforeOrAfter}
use Rattle.swf_journal.specs.Frames.{header}
use Rattle.swf_journal.specs.Place.{IsSettled}
use Rattle.swf_meaning.specs.declared.label.Label.{Label}
use Rattle.swf_runs.specs.After.{after}
use Rattle.swf_meaning.specs.World.{World}
use Rattle.swf_runs.proofs.RunLemmas.{run-snoc, run_one}
use Rattle.std.proofs.lemmas.Bool.{cases_lt}
use Rattle.swf_record.specs.Encodes.{Encodes, labels_bytes}
use Rattle.swf_world.specs.Refusals.{refusal}
use Rattle.swf_journal.specs.declared.fault.AppendFault.{AppendFault}
use Rattle.swf_journal.specs.declared.fault.AppendFault.TheVariants.{Store, Full}
use Rattle.swf_engine.specs.Answers.{Submits}
use Rattle.swf_engine.specs.Causes.{of_append}
use Rattle.swf_engine.specs.Core.{Core, StandFor, most_bytes}
use Rattle.swf_engine.specs.History.{IsGrown}
use Rattle.swf_engine.specs.Moves.{Passes, Adds, Breaks}
use Rattle.swf_engine.proofs.HistoryLemmas.{holds_push, history_of, not_grown, all_grown}

module _ {S : Type 0} (moment : S → ℕ) (left_since : S → ℕ → Image → List Piece → Type 0) (said : S → Option (List Piece)) (may_leave : S → Image → Type 0) (seen : S → Option Image) where
  -- a stop at any moment of an append leaves the history, or that with the label
  pub appended_passes : (old new : S) (engine : Core) (body : List ℕ) (label : Label) (w : World) → Encodes (label ∷ []) body → after engine.world label ≡ Some w
      → ForSome (seen old) (λ image. (front : List ℕ) (frames : List (List ℕ)) → IsSettled image (may_leave old) Journal engine.gate front frames
      → LeavesOnly moment left_since said old new (BeforeOrAfter Journal front image frames body))
      → Passes moment left_since said may_leave seen old new engine (label ∷ [])
  appended_passes old new engine body label w encodes legal any_moment = λ image is history stands.
      weaker_only moment left_since said old new (BeforeOrAfter Journal header image stands.bodies body) (IsGrown history (label ∷ []))
      (any_moment image is header stands.bodies stands.settled)
      (λ left either. ⊎_elim
      (λ before. not_grown history (label ∷ []) left (history_of left stands.bodies history engine.world before stands.holds stands.run))
      (λ later. all_grown history (label ∷ []) left
      (history_of left (stands.bodies ++ body ∷ []) (history ++ label ∷ []) w later (holds_push stands.bodies history body (label ∷ []) stands.holds encodes) (run-snoc history engine.world label stands.run ∙ legal)))
      either.holds)

  -- an append that was done adds the label
  pub appended_adds : (old new : S) (engine : Core) (body : List ℕ) (label : Label) (w : World) (next : ℕ) → Encodes (label ∷ []) body → after engine.world label ≡ Some w
      → is_some (seen new) ≡ is_some (seen old)
      → ForSome (seen old) (λ image. (front : List ℕ) (frames : List (List ℕ)) → IsSettled image (may_leave old) Journal engine.gate front frames
      → LeavesOnly moment left_since said old new (BeforeOrAfter Journal front image frames body))
      → ForSome (seen old) (λ image. seen new ≡ Some (appended Journal engine.gate body image))
      → ForSome (seen old) (λ image. (front : List ℕ) (frames : List (List ℕ)) → IsSettled image (may_leave old) Journal engine.gate front frames
      → IsSettled (appended Journal engine.gate body image) (may_leave new) Journal next front (frames ++ body ∷ []))
      → Adds moment left_since said may_leave seen old new engine (record { world = w; gate = next }) (label ∷ [])
  appended_adds old new engine body label w next encodes legal honest any_moment written acknowledged = record {
    honest = honest;
    run = run_one engine.world w label legal;
    passes = appended_passes old new engine body label w encodes legal any_moment;
    stands = λ image is history stands now is_now.
        let same : appended Journal engine.gate body image ≡ now = let e = written image is in cc in
        subst (λ (i : Image). StandFor i (may_leave new) (record { world = w; gate = next }) (history ++ label ∷ [])) same (record {
          bodies = stands.bodies ++ body ∷ [];
          settled = acknowledged image is header stands.bodies stands.settled;
          holds = holds_push stands.bodies history body (label ∷ []) stands.holds encodes;
          run = run-snoc history engine.world label stands.run ∙ legal;
        });
  }

  -- an append that failed
  pub append_broke : (old new : S) (engine : Core) (body : List ℕ) (label : Label) (w : World) → Encodes (label ∷ []) body → after engine.world label ≡ Some w
      → ForSome (seen old) (λ image. (front : List ℕ) (frames : List (List ℕ)) → IsSettled image (may_leave old) Journal engine.gate front frames
      → LeavesOnly moment left_since said old new (BeforeOrAfter Journal front image frames body))
      → Breaks moment left_since said may_leave seen old new engine (label ∷ [])
  append_broke old new engine body label w encodes legal any_moment = record {
    legal = ap is_some (run_one engine.world w label legal);
    passes = appended_passes old new engine body label w encodes legal any_moment;
  }

  -- an append that was refused or failed, by its fault
  pub failed_submits : (old new : S) (before later : Core) (body : List ℕ) (label : Label) (w : World) (limit : ℕ) (fault : AppendFault) → limit ≡ most_bytes → later ≡ before
      → Encodes (label ∷ []) body → after before.world label ≡ Some w → refusal before.world label ≡ None
      → ForSome (seen old) (λ image. (front : List ℕ) (frames : List (List ℕ)) → IsSettled image (may_leave old) Journal before.gate front frames
      → LeavesOnly moment left_since said old new (BeforeOrAfter Journal front image frames body))
      → ((size : ℕ) → (◌≡◌ {A = Result (Unit {0}) AppendFault} (Err fault) (Err (Full size))) ↔ ((limit < before.gate + 10 + length body) × (size ≡ before.gate + 1)))
      → (limit < before.gate + 10 + length body → new ≡ old)
      → Submits moment left_since said may_leave seen old new before later label (Err (of_append fault))
  failed_submits old new before later body label w limit Store most stays encodes legal free any_moment full untouched =
      let spelled = encodes.spelled in (
        append_broke old new before body label w encodes legal any_moment,
        free,
        ⊎_elim
            (λ past. let e = (full (before.gate + 1)).1 (past, refl) in absurd (cc))
            (λ fits. omega (arith, fits, most, ap (λ (l : List ℕ). length l) spelled))
            (cases_lt limit (before.gate + 10 + length body)),
      )
  failed_submits old new before later body label w limit (Full size) most stays encodes legal free any_moment full untouched =
      let spelled = encodes.spelled in
      let is = (full size).0 refl in
      (record { past = omega (arith, is.0, most, ap (λ (l : List ℕ). length l) spelled); size_is = is.1 }, free, (untouched is.0, stays))

  -- what an append to a file says of it, where the file is the journal
  abbrev pub AtAnyMoment : File → S → S → ℕ → List ℕ → Type 0
  AtAnyMoment file old new gate body = ForSome (seen old) (λ image. (front : List ℕ) (frames : List (List ℕ)) → IsSettled image (may_leave old) file gate front frames
      → LeavesOnly moment left_since said old new (BeforeOrAfter file front image frames body))

  abbrev pub Acknowledges : File → S → S → ℕ → ℕ → List ℕ → Type 0
  Acknowledges file old new gate next body = ForSome (seen old) (λ image. (front : List ℕ) (frames : List (List ℕ)) → IsSettled image (may_leave old) file gate front frames
      → IsSettled (appended file gate body image) (may_leave new) file next front (frames ++ body ∷ []))

  abbrev pub Writes : File → S → S → ℕ → List ℕ → Type 0
  Writes file old new gate body = ForSome (seen old) (λ image. seen new ≡ Some (appended file gate body image))

  pub taken_adds : (file : File) (old new : S) (before : Core) (body : List ℕ) (label : Label) (w : World) (next : ℕ) → file ≡ Journal → Encodes (label ∷ []) body → after before.world label ≡ Some w
      → is_some (seen new) ≡ is_some (seen old) → AtAnyMoment file old new before.gate body → Writes file old new before.gate body → Acknowledges file old new before.gate next body
      → Adds moment left_since said may_leave seen old new before (record { world = w; gate = next }) (label ∷ [])
  taken_adds file old new before body label w next is encodes legal honest any_moment written acknowledged =
      appended_adds old new before body label w next encodes legal honest
      (subst (λ (f : File). AtAnyMoment f old new before.gate body) is any_moment)
      (subst (λ (f : File). Writes f old new before.gate body) is written)
      (subst (λ (f : File). Acknowledges f old new before.gate next body) is acknowledged)

  pub refused_submits : (file : File) (old new : S) (before later : Core) (body : List ℕ) (label : Label) (w : World) (limit : ℕ) (fault : AppendFault) → file ≡ Journal → limit ≡ most_bytes → later ≡ before
      → Encodes (label ∷ []) body → after before.world label ≡ Some w → refusal before.world label ≡ None → AtAnyMoment file old new before.gate body
      → ((size : ℕ) → (◌≡◌ {A = Result (Unit {0}) AppendFault} (Err fault) (Err (Full size))) ↔ ((limit < before.gate + 10 + length body) × (size ≡ before.gate + 1)))
      → (limit < before.gate + 10 + length body → new ≡ old)
      → Submits moment left_since said may_leave seen old new before later label (Err (of_append fault))
  refused_submits file old new before later body label w limit fault is most stays encodes legal free any_moment full untouched =
      failed_submits old new before later body label w limit fault most stays encodes legal free (subst (λ (f : File). AtAnyMoment f old new before.gate body) is any_moment) full untouched

  -- an append that was done had room
  pub had_room : (gate limit : ℕ) (body : List ℕ) (label : Label) → limit ≡ most_bytes → Encodes (label ∷ []) body
      → ((size : ℕ) → (◌≡◌ {A = Result (Unit {0}) AppendFault} (Ok tt) (Err (Full size))) ↔ ((limit < gate + 10 + length body) × (size ≡ gate + 1)))
      → gate + 10 + length (labels_bytes (label ∷ [])) ≤ most_bytes
  had_room gate limit body label most encodes full =
      let spelled = encodes.spelled in
      ⊎_elim
      (λ past. let e = (full (gate + 1)).1 (past, refl) in absurd (cc))
      (λ fits. omega (arith, fits, most, ap (λ (l : List ℕ). length l) spelled))
      (cases_lt limit (gate + 10 + length body))
