-- How an opening goes before a session.
use Rattle.std.proofs.Common.{◌≡◌, ◌≢◌, ◌∙◌, ap, sym, refl, subst, inl, inr, ⊎_elim, ℕ, ◌≤◌, List, [], ◌++◌, length, append-nil, Option, Some, arith}
use Rattle.swf_store.specs.declared.image.Image.{Image}
use Rattle.swf_store.specs.declared.said.Piece.{Piece}
use Rattle.swf_store.specs.Said.{IsSaid, SaidPart}
use Rattle.swf_store.specs.Stops.{Leaves, LeavesOnly}
use Rattle.swf_store.proofs.Moments.{started, goes_on, weaker}
use Rattle.swf_journal.specs.Opening.{IsUntouched}
use Rattle.swf_meaning.specs.declared.label.Label.{Label}
use Rattle.swf_host.specs.declared.host.Input.{Input}
use Rattle.swf_engine.specs.declared.fault.EngineFault.{EngineFault}
use Rattle.swf_engine.specs.declared.fault.EngineFault.TheVariants.{Store, Damaged, Full, OutOfMemory}
use Rattle.swf_engine.specs.Settling.{Called}
use Rattle.swf_engine.specs.Core.{Core, StandFor}
use Rattle.swf_engine.specs.Damage.{IsDamaged}
use Rattle.swf_engine.specs.History.{IsHistory}
use Rattle.swf_engine.specs.Opening.{OpensHistory, IsOpened}
use Rattle.swf_engine.proofs.HistoryLemmas.{left_history}
use Rattle.swf_engine.proofs.LawLemmas.{history_one, damaged_long, damaged_none}
use Rattle.swf_protocol.specs.Spoken.{damaged_bytes}
use Rattle.swf_turns.specs.declared.saying.After.TheVariants.{Stops}
use Rattle.swf_turns.specs.Dialect.{session}
use Rattle.swf_turns.specs.Finish.{Ran, RunsOn, Tells, TellsDamage, ClosesWith}
use Rattle.swf_cli.specs.Running.{KeepsDamaged, SessionRun, TellsOfDamage}
use Rattle.swf_turns.specs.Steps.{IsSound, Stand}
use Rattle.swf_words.specs.declared.words.Words.{Words}
use Rattle.swf_turns.specs.Moments.{IsMoment, Runs}
use Rattle.swf_turns.specs.Heard.{TurnsTell}
use Rattle.swf_turns.proofs.HeardLemmas.{tells_closed}
use Rattle.swf_cli.proofs.SessionLemmas.{at_rest}

-- before the first turn
pub at_start : {W : Type 0} (words : Words) (before : List Label) (first : List (Input W)) (told : List Piece) (image : Image) (pieces : List Piece) → IsHistory image before → pieces ≡ told → IsMoment session words before first told first [] image pieces
at_start {W = W} words before first told image pieces stands same =
    subst (λ (l : List (Input W)). IsMoment session words before first told l [] image pieces) (append-nil first)
    (at_rest words before first told [] tt tt [] refl image pieces (subst (λ (l : List Label). IsHistory image l) (sym (append-nil before)) stands) (same ∙ sym (append-nil told)))

module _ {W S : Type 0} (moment : S → ℕ) (left_since : S → ℕ → Image → List Piece → Type 0) (said : S → Option (List Piece)) (may_leave : S → Image → Type 0) (seen : S → Option Image) (taken : S → Option (List (Input W)))
    (only_now : (s : S) (image : Image) (pieces : List Piece) → left_since s (moment s) image pieces → may_leave s image × IsSaid (said s) pieces) where
  -- engine and store stand for the history that the image stood for
  pub opened_stand : (opened : S) (image : Image) (engine : Core) (before : List Label) → IsHistory image before → IsOpened moment left_since said may_leave seen image opened engine → Stand moment left_since said may_leave seen opened engine before
  opened_stand opened image engine before stands o = (o.now, o.seen_now, subst (StandFor o.now (may_leave opened) engine) (history_one image o.history before o.was stands) o.stands)

  -- moments that begin with the history and with nothing said
  module _ (Moment : Image → List Piece → Type 0) (before : List Label) (told : List Piece) (begins : (image : Image) (pieces : List Piece) → IsHistory image before → pieces ≡ told → Moment image pieces) where
    -- since the first sync, or since the opening, the store stands for the history
    pub opened_start : (old opened : S) → said old ≡ Some told → said opened ≡ said old → ((image : Image) → may_leave opened image → IsHistory image before) → OpensHistory moment left_since said may_leave seen old opened before
        → (start : S) × LeavesOnly moment left_since said old start (may_leave old) × Leaves moment left_since start opened Moment
    opened_start old opened is silent durable (inl only) = (
      opened,
      only,
      started moment left_since opened Moment
          (λ image pieces since. let now = only_now opened image pieces since in begins image pieces (durable image now.0) (now.1 told (silent ∙ is))),
    )
    opened_start old opened is silent durable (inr s) = (
      s.0,
      s.2,
      weaker moment left_since s.0 opened (λ image pieces. IsHistory image before × IsSaid (said s.0) pieces) Moment s.3
          (λ image pieces h. begins image pieces h.0 (h.1 told (s.1 ∙ is))),
    )

    -- an opening that failed
    pub failed_runs : (old new : S) → said old ≡ Some told → OpensHistory moment left_since said may_leave seen old new before → Runs moment left_since said may_leave Moment old new
    failed_runs old new is (inl only) = inl only
    failed_runs old new is (inr s) = inr (
      s.0,
      s.2,
      weaker moment left_since s.0 new (λ image pieces. IsHistory image before × IsSaid (said s.0) pieces) Moment s.3
          (λ image pieces h. begins image pieces h.0 (h.1 told (s.1 ∙ is))),
    )

  -- where no engine was opened, of a store that was not damaged
  pub closed_same : (fault : EngineFault) (opened new : S) (status : ℕ) → ((at : ℕ) → fault ≡ Damaged at → ⊥) → Tells moment left_since said may_leave seen taken fault opened new status → new ≡ opened
  closed_same Store opened new status never tells = tells
  closed_same (Damaged at) opened new status never tells = absurd (never at refl)
  closed_same (Full size) opened new status never tells = absurd tells
  closed_same OutOfMemory opened new status never tells = tells

  -- damage, where the status says so
  pub closed_damaged : (fault : EngineFault) (opened new : S) (image : Image) (first : List (Input W)) (told : List Piece) (status h h_now t t_now : ℕ) → taken opened ≡ Some first → said opened ≡ Some told
      → ((at : ℕ) → fault ≡ Damaged at → IsDamaged image at) → Tells moment left_since said may_leave seen taken fault opened new status → ClosesWith fault status h h_now t t_now → status ≡ 5
      → (at : ℕ) × IsDamaged image at × TellsDamage at first told (taken new) (said new)
  closed_damaged Store opened new image first told status h h_now t t_now took is damaged tells closes five = absurd (omega (arith, closes.0))
  closed_damaged (Damaged at) opened new image first told status h h_now t t_now took is damaged tells closes five =
      (at, damaged at refl, record { taken = tells.taken_same ∙ took; told = tells.whole first took told is (ap Stops five) })
  closed_damaged (Full size) opened new image first told status h h_now t t_now took is damaged tells closes five = absurd closes
  closed_damaged OutOfMemory opened new image first told status h h_now t t_now took is damaged tells closes five = absurd (omega (arith, closes.0))

  pub closed_whole : (fault : EngineFault) (status h h_now t t_now : ℕ) → ((at : ℕ) → fault ≡ Damaged at → ⊥) → ClosesWith fault status h h_now t t_now → status ≢ 5
  closed_whole Store status h h_now t t_now never closes = λ five. omega (arith, closes.0)
  closed_whole (Damaged at) status h h_now t t_now never closes = λ five. never at refl
  closed_whole (Full size) status h h_now t t_now never closes = λ five. closes
  closed_whole OutOfMemory status h h_now t t_now never closes = λ five. omega (arith, closes.0)

  pub closed_other : (fault : EngineFault) (status h h_now t t_now : ℕ) → ClosesWith fault status h h_now t t_now → (status ≢ 0) × (status ≢ 7)
  closed_other Store status h h_now t t_now c = ((λ e. omega (arith, c.0)), (λ e. omega (arith, c.0)))
  closed_other (Damaged at) status h h_now t t_now c =
      ⊎_elim (λ five. ((λ e. omega (arith, five)), (λ e. omega (arith, five))))
      (λ d. ⊎_elim (λ six. ((λ e. omega (arith, six)), (λ e. omega (arith, six)))) (λ four. ((λ e. omega (arith, four)), (λ e. omega (arith, four)))) d) c.0
  closed_other (Full size) status h h_now t t_now c = absurd c
  closed_other OutOfMemory status h h_now t t_now c = ((λ e. omega (arith, c.0)), (λ e. omega (arith, c.0)))

  -- What is told of damage where the engine was opened: none.
  pub opened_damage : (old opened new : S) (engine : Core) (status : ℕ) → ((image : Image) → seen old ≡ Some image → IsOpened moment left_since said may_leave seen image opened engine)
      → (IsSound moment left_since said may_leave seen opened engine → status ≢ 5) → TellsOfDamage moment left_since said may_leave seen taken old new status
  opened_damage old opened new engine status opens sound = record {
    damaged = λ image is first took told said_is five. absurd (never image is five);
    refused = λ image is at d. absurd (damaged_none image (opens image is).history at (opens image is).was d);
    kept = λ image is at d. absurd (damaged_none image (opens image is).history at (opens image is).was d);
    whole = λ image is before stands five. never image is five;
  }
    where
      never : (image : Image) → seen old ≡ Some image → status ≢ 5
      never image is = let o = opens image is in sound (o.history, opened_stand opened image engine o.history o.was o)

  none_of : (at inputs : ℕ) (pieces now : List Piece) → now ≡ pieces → SaidPart 0 (damaged_bytes at) inputs pieces now
  none_of at inputs pieces now same = record { part = []; rest = damaged_bytes at; begins = refl; told = inl same }

  -- A damaged store was opened in vain, and nothing was said.
  untouched_kept : (old opened : S) (image : Image) (at status : ℕ) → IsDamaged image at → IsUntouched moment left_since said may_leave seen old opened → said opened ≡ said old
      → KeepsDamaged moment left_since said may_leave seen taken image old opened status
  untouched_kept old opened image at status d u silent = record {
    same = u.same;
    stop = u.stop;
    silent = λ five four. silent;
    moments = λ inputs took pieces is. (
      at,
      d,
      weaker moment left_since old opened (λ left now. may_leave old left × IsSaid (said old) now) (λ left now. may_leave old left × SaidPart 0 (damaged_bytes at) (length inputs) pieces now) u.any_moment
          (λ left now h. (h.0, none_of at (length inputs) pieces now (h.1 pieces is))),
    );
  }

  stops_is : (k n : ℕ) → Stops k ≡ Stops n → k ≡ n
  stops_is k n e = cc

  -- The store of a damaged journal is kept, whatever was said of it.
  closed_kept : (fault : EngineFault) (old opened new : S) (image : Image) (at status : ℕ) → IsDamaged image at → ((there : ℕ) → fault ≡ Damaged there → IsDamaged image there)
      → IsUntouched moment left_since said may_leave seen old opened → taken opened ≡ taken old → said opened ≡ said old → Tells moment left_since said may_leave seen taken fault opened new status
      → KeepsDamaged moment left_since said may_leave seen taken image old new status
  closed_kept Store old opened new image at status d damaged u took silent tells =
      subst (λ (s : S). KeepsDamaged moment left_since said may_leave seen taken image old s status) (sym tells) (untouched_kept old opened image at status d u silent)
  closed_kept (Damaged there) old opened new image at status d damaged u took silent tells = record {
    same = tells.seen_same ∙ u.same;
    stop = λ left may. u.stop left (tells.stop left may);
    silent = λ five four. ⊎_elim
        (λ e. absurd (five (stops_is status 5 e)))
        (λ f. ⊎_elim (λ e. tells.quiet e ∙ silent) (λ e. absurd (four (stops_is status 4 e))) f)
        tells.which;
    moments = λ inputs was pieces is. (
      there,
      damaged there refl,
      goes_on moment left_since old opened new (λ left now. may_leave old left × IsSaid (said old) now) (λ left now. may_leave opened left × SaidPart 0 (damaged_bytes there) (length inputs) pieces now)
          (λ left now. may_leave old left × SaidPart 0 (damaged_bytes there) (length inputs) pieces now) u.any_moment (tells.leaves inputs (took ∙ was) pieces (silent ∙ is))
          (λ left now h. (h.0, none_of there (length inputs) pieces now (h.1 pieces is)))
          (λ left now h. (u.stop left h.0, h.1)),
    );
  }
  closed_kept (Full size) old opened new image at status d damaged u took silent tells = absurd tells
  closed_kept OutOfMemory old opened new image at status d damaged u took silent tells =
      subst (λ (s : S). KeepsDamaged moment left_since said may_leave seen taken image old s status) (sym tells) (untouched_kept old opened image at status d u silent)

  -- What is told of damage where it was not.
  pub closed_damage : (fault : EngineFault) (old opened new : S) (status h h_now t t_now : ℕ) → taken opened ≡ taken old → said opened ≡ said old → taken new ≡ taken opened
      → ((image : Image) → seen old ≡ Some image → (at : ℕ) → fault ≡ Damaged at → IsDamaged image at)
      → ((image : Image) → seen old ≡ Some image → 25 ≤ length image.journal → IsUntouched moment left_since said may_leave seen old opened)
      → Tells moment left_since said may_leave seen taken fault opened new status → ClosesWith fault status h h_now t t_now → TellsOfDamage moment left_since said may_leave seen taken old new status
  closed_damage fault old opened new status h h_now t t_now same silent kept damaged untouched tells closes = record {
    damaged = λ image is first took told said_is five. closed_damaged fault opened new image first told status h h_now t t_now (same ∙ took) (silent ∙ said_is) (damaged image is) tells closes five;
    refused = λ image is at d. (kept ∙ same, (closed_other fault status h h_now t t_now closes).0, (closed_other fault status h h_now t t_now closes).1);
    kept = λ image is at d. closed_kept fault old opened new image at status d (damaged image is) (untouched image is (damaged_long image at d)) same silent tells;
    whole = λ image is before stands. closed_whole fault status h h_now t t_now (λ at e. damaged_none image before at stands (damaged image is at e)) closes;
  }

  -- a session
  module _ (words : Words) where
    pub session_opened : (answers : List Called) (old opened new : S) (engine : Core) (status : ℕ) → taken opened ≡ taken old → said opened ≡ said old
        → ((image : Image) → seen old ≡ Some image → IsOpened moment left_since said may_leave seen image opened engine)
        → ((image : Image) → seen old ≡ Some image → (history : List Label) → IsHistory image history → OpensHistory moment left_since said may_leave seen old opened history)
        → RunsOn session words moment left_since said may_leave seen taken opened new engine answers status → (IsSound moment left_since said may_leave seen opened engine → status ≢ 5)
        → ((first : List (Input W)) → taken opened ≡ Some first → (pieces : List Piece) → said opened ≡ Some pieces → TurnsTell session said taken seen new first pieces status)
        → SessionRun moment left_since said may_leave seen taken words answers old new status
    session_opened answers old opened new engine status same silent opens any_moment ran sound heard = record {
      moments = λ image is first took told said_is before stands.
          let s = start image is first took told said_is before stands in
          let r = run image is first took told said_is before stands in
          (r.all, r.took, inr (s.0, s.1, r.leaves));
      finish = λ image is first took told said_is before stands zero. (run image is first took told said_is before stands).finish zero;
      full = λ image is first took told said_is before stands seven. (run image is first took told said_is before stands).full seven;
      short = λ image is first took told said_is before stands which. (run image is first took told said_is before stands).short which;
      damage = opened_damage old opened new engine status opens sound;
      heard = λ first took told is. inl (heard first (same ∙ took) told (silent ∙ is));
    }
      where
        start : (image : Image) → seen old ≡ Some image → (first : List (Input W)) → taken old ≡ Some first → (told : List Piece) → said old ≡ Some told → (before : List Label) → IsHistory image before
            → (start : S) × LeavesOnly moment left_since said old start (may_leave old) × Leaves moment left_since start opened (IsMoment session words before first told first [])
        start image is first took told said_is before stands =
            let stood = opened_stand opened image engine before stands (opens image is) in
            opened_start (IsMoment session words before first told first []) before told (at_start words before first told) old opened said_is silent
            (λ left may. left_history stood.0 (may_leave opened) engine before stood.2 left may) (any_moment image is before stands)

        run : (image : Image) → (is : seen old ≡ Some image) → (first : List (Input W)) → (took : taken old ≡ Some first) → (told : List Piece) → (said_is : said old ≡ Some told) → (before : List Label) → (stands : IsHistory image before)
            → Ran session words moment left_since said may_leave seen taken (start image is first took told said_is before stands).0 new before first answers told status
        run image is first took told said_is before stands =
            let s = start image is first took told said_is before stands in
            ran s.0 before first told (same ∙ took) (silent ∙ said_is) (opened_stand opened image engine before stands (opens image is)) s.2

    pub session_closed : (fault : EngineFault) (old opened new : S) (status h h_now t t_now : ℕ) → taken opened ≡ taken old → said opened ≡ said old → taken new ≡ taken opened
        → ((image : Image) → seen old ≡ Some image → (at : ℕ) → fault ≡ Damaged at → IsDamaged image at)
        → ((image : Image) → seen old ≡ Some image → (history : List Label) → IsHistory image history → OpensHistory moment left_since said may_leave seen old opened history)
        → ((image : Image) → seen old ≡ Some image → 25 ≤ length image.journal → IsUntouched moment left_since said may_leave seen old opened)
        → Tells moment left_since said may_leave seen taken fault opened new status → ClosesWith fault status h h_now t t_now
        → SessionRun moment left_since said may_leave seen taken words [] old new status
    session_closed fault old opened new status h h_now t t_now same silent kept damaged any_moment untouched tells closes = record {
      moments = λ image is first took told said_is before stands. (
        first,
        kept ∙ same ∙ took,
        subst (λ (s : S). Runs moment left_since said may_leave (IsMoment session words before first told first []) old s) (sym (unchanged image is before stands))
            (failed_runs (IsMoment session words before first told first []) before told (at_start words before first told) old opened said_is (any_moment image is before stands)),
      );
      finish = λ image is first took told said_is before stands zero. absurd ((closed_other fault status h h_now t t_now closes).0 zero);
      full = λ image is first took told said_is before stands seven. absurd ((closed_other fault status h h_now t t_now closes).1 seven);
      short = λ image is first took told said_is before stands which. record {
        turns = [];
        allowed = tt;
        more = [];
        most = tt;
        heard = [];
        asked = refl;
        whole = [];
        said_are = tt;
        prompt = refl;
        taken = kept ∙ same ∙ took ∙ ap Some (sym (append-nil (first ++ []) ∙ append-nil first));
        told = ap said (unchanged image is before stands) ∙ silent ∙ said_is ∙ ap Some (sym (append-nil told));
      };
      damage = closed_damage fault old opened new status h h_now t t_now same silent kept damaged untouched tells closes;
      heard = λ first took told is. tells_closed moment left_since said may_leave seen taken fault opened new first told status h h_now t t_now (same ∙ took) (silent ∙ is) tells closes;
    }
      where
        unchanged : (image : Image) → seen old ≡ Some image → (before : List Label) → IsHistory image before → new ≡ opened
        unchanged image is before stands = closed_same fault opened new status (λ at e. damaged_none image before at stands (damaged image is at e)) tells
