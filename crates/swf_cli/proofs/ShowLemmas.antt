-- Line after line, the status of each instance is said.
use Rattle.std.proofs.Common.{◌≡◌, ◌≢◌, ◌∙◌, ap, sym, refl, subst, ◌⊎◌, inl, inr, ⊎_elim, ℕ, ◌+◌, ◌≤◌, List, [], ◌∷◌, ◌++◌, append-nil, append_assoc, length, length-append, Option, Some, None, option_map, Err, Result, slice_get, arith}
use Rattle.std.proofs.lemmas.List.{map-append}
use Rattle.std.proofs.lemmas.Option.{slice_get-map}
use Rattle.swf_store.specs.declared.image.Image.{Image}
use Rattle.swf_store.specs.declared.said.Piece.{Piece}
use Rattle.swf_store.specs.Disk.{NothingNew}
use Rattle.swf_store.specs.Said.{IsSaid, SaidPart, and_piece}
use Rattle.swf_store.specs.Stops.{Leaves, LeavesOnly}
use Rattle.swf_store.proofs.Moments.{goes_on, started}
use Rattle.swf_journal.specs.Opening.{IsUntouched}
use Rattle.swf_meaning.specs.declared.label.Label.{Label}
use Rattle.swf_meaning.specs.declared.label.Query.TheVariants.{Status}
use Rattle.swf_meaning.specs.World.{Instance, World}
use Rattle.swf_runs.proofs.OnceLemmas.{once_of_legal}
use Rattle.swf_runs.proofs.RunLemmas.{world_of_run}
use Rattle.swf_host.specs.declared.host.Input.{Input}
use Rattle.swf_meaning.specs.declared.label.Answer.{Answer}
use Rattle.swf_world.specs.Answers.{answer}
use Rattle.swf_world.specs.declared.query.QueryFault.{QueryFault}
use Rattle.swf_world.specs.declared.query.QueryFault.TheVariants.{OutOfMemory as NoMemory}
use Rattle.swf_protocol.specs.declared.reply.Reply.TheVariants.{Memory}
use Rattle.swf_turns.proofs.AnswerLemmas.{answer_reply}
use Rattle.swf_engine.specs.declared.fault.EngineFault.{EngineFault}
use Rattle.swf_engine.specs.declared.fault.EngineFault.TheVariants.{Damaged}
use Rattle.swf_engine.specs.Core.{Core}
use Rattle.swf_engine.specs.Damage.{IsDamaged}
use Rattle.swf_engine.specs.History.{IsHistory}
use Rattle.swf_engine.specs.Opening.{OpensHistory, IsOpened}
use Rattle.swf_engine.proofs.HistoryLemmas.{left_history}
use Rattle.swf_engine.proofs.LawLemmas.{damaged_none}
use Rattle.swf_protocol.specs.Spoken.{spoken}
use Rattle.swf_protocol.specs.declared.reply.Reply.{Reply}
use Rattle.swf_turns.specs.declared.saying.After.{After}
use Rattle.swf_turns.specs.declared.saying.After.TheVariants.{GoesOn, Stops}
use Rattle.swf_turns.specs.Finish.{Tells, ClosesWith}
use Rattle.swf_turns.specs.Moments.{Runs}
use Rattle.swf_cli.specs.Running.{ShowRun}
use Rattle.swf_cli.specs.Shown.{lines_in, lines_of, line_pieces, IsShowing, Showed, ShowsOn}
use Rattle.swf_turns.specs.Blame.{IsBlamed}
use Rattle.swf_turns.specs.Steps.{Stand, Says, queried}
use Rattle.swf_turns.specs.Turns.{query_reply}
use Rattle.swf_turns.proofs.HeardLemmas.{closed_heard}
use Rattle.swf_cli.proofs.OpeningLemmas.{opened_stand, opened_start, failed_runs, closed_same, closed_other, opened_damage, closed_damage}

-- what stands behind some lines
abbrev pub IsNext : List Reply → Option Reply → Type 0
IsNext more None = more ≡ []
IsNext more (Some r) = (rest : List Reply) × (more ≡ r ∷ rest)

next_line : (done more : List Reply) (o : Option Reply) → slice_get (done ++ more) (length done) ≡ o → IsNext more o
next_line [] [] None e = refl
next_line [] [] (Some r) e = absurd (cc)
next_line [] (m ∷ ms) None e = absurd (cc)
next_line [] (m ∷ ms) (Some r) e = let same : m ≡ r = cc in (ms, ap (λ (x : Reply). x ∷ ms) same)
next_line (d ∷ ds) more o e = next_line ds more o e

-- the line of the instance of a number
line_at : (labels : List Label) (w : World) (n : ℕ) → slice_get (lines_in labels w) n ≡ option_map (λ (id : List ℕ). query_reply (answer labels w (Status id))) (option_map (λ (i : Instance). i.id) (slice_get w.instances n))
line_at labels w n = slice_get-map (λ (i : Instance). query_reply (answer labels w (Status i.id))) w.instances n ∙ twice (slice_get w.instances n)
  where
    twice : (o : Option Instance) → option_map (λ (i : Instance). query_reply (answer labels w (Status i.id))) o ≡ option_map (λ (id : List ℕ). query_reply (answer labels w (Status id))) (option_map (λ (i : Instance). i.id) o)
    twice None = refl
    twice (Some i) = refl

pub next_of : (labels : List Label) (w : World) (done more : List Reply) (n : ℕ) (id : Option (List ℕ)) → lines_in labels w ≡ done ++ more → length done ≡ n → id ≡ option_map (λ (i : Instance). i.id) (slice_get w.instances n)
    → IsNext more (option_map (λ (id : List ℕ). query_reply (answer labels w (Status id))) id)
next_of labels w done more n id are many is =
    next_line done more (option_map (λ (id : List ℕ). query_reply (answer labels w (Status id))) id)
    (ap (λ (l : List Reply). slice_get l (length done)) (sym are) ∙ ap (λ (k : ℕ). slice_get (lines_in labels w) k) many ∙ line_at labels w n
    ∙ ap (λ (o : Option (List ℕ)). option_map (λ (id : List ℕ). query_reply (answer labels w (Status id))) o) (sym is))

-- some lines are said, and nothing more
pub showing_whole : {W : Type 0} (before : List Label) (first : List (Input W)) (told : List Piece) (done more : List Reply) (image : Image) (pieces : List Piece) → lines_of before ≡ done ++ more → IsHistory image before
    → pieces ≡ told ++ line_pieces (length first) done → IsShowing before first told image pieces
showing_whole before first told done more image pieces are stands is = record {
  stands = stands;
  once = once_of_legal before stands.legal;
  whole = done;
  rest = more;
  lines_are = are;
  pieces_are = inl is;
}

-- before the first line
pub showing_first : {W : Type 0} (before : List Label) (first : List (Input W)) (told : List Piece) (image : Image) (pieces : List Piece) → IsHistory image before → pieces ≡ told → IsShowing before first told image pieces
showing_first before first told image pieces stands is = showing_whole before first told [] (lines_of before) image pieces refl stands (is ∙ sym (append-nil told))

-- one line more
pieces_more : (n : ℕ) (told : List Piece) (done : List Reply) (r : Reply) → and_piece 0 (spoken r) n (told ++ line_pieces n done) ≡ told ++ line_pieces n (done ++ r ∷ [])
pieces_more n told done r =
    append_assoc told (line_pieces n done) ((record { conn = 0; bytes = spoken r; inputs = n }) ∷ [])
    ∙ ap (λ (l : List Piece). told ++ l) (sym (map-append (λ (x : Reply). record { conn = 0; bytes = spoken x; inputs = n }) done (r ∷ [])))

-- while a line is said
pub showing_part : {W : Type 0} (before : List Label) (first : List (Input W)) (told : List Piece) (done more : List Reply) (r : Reply) (image : Image) (pieces : List Piece) → lines_of before ≡ done ++ r ∷ more → IsHistory image before
    → SaidPart 0 (spoken r) (length first) (told ++ line_pieces (length first) done) pieces → IsShowing before first told image pieces
showing_part before first told done more r image pieces are stands s = by s.rest s.begins s.told
  where
    by : (rest : List ℕ) → spoken r ≡ s.part ++ rest → (pieces ≡ told ++ line_pieces (length first) done) ⊎ (pieces ≡ and_piece 0 s.part (length first) (told ++ line_pieces (length first) done)) → IsShowing before first told image pieces
    by rest begins (inl same) = showing_whole before first told done (r ∷ more) image pieces are stands same
    by [] begins (inr one) =
        showing_whole before first told (done ++ r ∷ []) more image pieces (are ∙ sym (append_assoc done (r ∷ []) more)) stands
        (one ∙ ap (λ (l : List ℕ). and_piece 0 l (length first) (told ++ line_pieces (length first) done)) (sym (append-nil s.part) ∙ sym begins) ∙ pieces_more (length first) told done r)
    by (x ∷ xs) begins (inr one) = record {
      stands = stands;
      once = once_of_legal before stands.legal;
      whole = done;
      rest = r ∷ more;
      lines_are = are;
      pieces_are = inr (
        record { conn = 0; bytes = s.part; inputs = length first },
        one ∙ append_assoc told (line_pieces (length first) done) ((record { conn = 0; bytes = s.part; inputs = length first }) ∷ []),
        (refl, record { rest = x ∷ xs; joined = begins; some = λ e. cc }),
      );
    }

-- the answer to `status` says that memory is missing, or is the line
pub status_said : (labels : List Label) (w : World) (id : List ℕ) (r : Result Answer QueryFault) (reply : Reply) → reply ≡ queried r → (r ≡ Err NoMemory) ⊎ (r ≡ answer labels w (Status id))
    → (reply ≡ Memory) ⊎ (spoken (query_reply (answer labels w (Status id))) ≡ spoken reply)
status_said labels w id r reply is (inl none) = inl (is ∙ ap queried none)
status_said labels w id r reply is (inr known) = inr (ap spoken (sym (is ∙ ap queried known ∙ answer_reply labels w (Status id))))

-- the counts behind an opening
pub shown_blamed : (status h0 h h_now t0 t t_now : ℕ) → h ≡ h0 → t ≡ t0 → IsBlamed status h h_now t t_now → IsBlamed status h0 h_now t0 t_now
shown_blamed status h0 h h_now t0 t t_now e f b =
    subst (λ (n : ℕ). IsBlamed status n h_now t0 t_now) e (subst (λ (n : ℕ). IsBlamed status h h_now n t_now) f b)

module _ {W S : Type 0} (moment : S → ℕ) (left_since : S → ℕ → Image → List Piece → Type 0) (said : S → Option (List Piece)) (may_leave : S → Image → Type 0) (seen : S → Option Image) (taken : S → Option (List (Input W))) where
  -- so many lines were said, since some state
  pub record ShownSoFar (start now : S) (before : List Label) (first : List (Input W)) (told : List Piece) (count : ℕ) : Type 0 where
    pub done : List Reply
    pub more : List Reply
    pub lines_are : lines_of before ≡ done ++ more
    pub many : length done ≡ count
    pub took : taken now ≡ Some first
    pub said_all : said now ≡ Some (told ++ line_pieces (length first) done)
    pub leaves : Leaves moment left_since start now (IsShowing before first told)

  pub shown_none : (start old : S) (before : List Label) (first : List (Input W)) (told : List Piece) → taken old ≡ Some first → said old ≡ Some told → Leaves moment left_since start old (IsShowing before first told)
      → ShownSoFar start old before first told 0
  shown_none start old before first told took is leaves = record {
    done = [];
    more = lines_of before;
    lines_are = refl;
    many = refl;
    took = took;
    said_all = is ∙ ap Some (sym (append-nil told));
    leaves = leaves;
  }

  -- nothing was said for want of memory
  pub says_nothing : (only_now : (s : S) (image : Image) (pieces : List Piece) → left_since s (moment s) image pieces → may_leave s image × IsSaid (said s) pieces) (old : S) (conn : ℕ) (line : List ℕ)
      → Says moment left_since said may_leave seen taken old old conn line GoesOn (Stops 6)
  says_nothing only_now old conn line = record {
    whole = λ inputs took pieces is e. absurd (cc);
    leaves = λ inputs took pieces is.
        started moment left_since old (λ image now. may_leave old image × SaidPart conn line (length inputs) pieces now)
        (λ image now since. let n = only_now old image now since in (n.0, record { part = []; rest = line; begins = refl; told = inl (n.1 pieces is) }));
    quiet = λ e. refl;
    which = inr (inl refl);
    stop = λ image may. may;
    seen_same = refl;
    taken_same = refl;
  }

  -- the lines of the history are those of the engine's world
  lines_as : (engine : Core) (host : S) (before : List Label) → Stand moment left_since said may_leave seen host engine before → lines_of before ≡ lines_in before engine.world
  lines_as engine host before stand = ap (lines_in before) (world_of_run before engine.world stand.2.run)

  module _ (start old now new : S) (engine : Core) (before : List Label) (first : List (Input W)) (told : List Piece) (count : ℕ) (id : List ℕ) (r : After)
      (stand : Stand moment left_since said may_leave seen old engine before) (stop : NothingNew (may_leave old) (may_leave now)) (s : ShownSoFar start now before first told count)
      (is : Some id ≡ option_map (λ (i : Instance). i.id) (slice_get engine.world.instances count))
      (says : Says moment left_since said may_leave seen taken now new 0 (spoken (query_reply (answer before engine.world (Status id)))) GoesOn r) where
    next : IsNext s.more (Some (query_reply (answer before engine.world (Status id))))
    next = next_of before engine.world s.done s.more count (Some id) (sym (lines_as engine old before stand) ∙ s.lines_are) s.many is

    lines_split : lines_of before ≡ s.done ++ query_reply (answer before engine.world (Status id)) ∷ next.0
    lines_split = s.lines_are ∙ ap (λ (l : List Reply). s.done ++ l) next.1

    line_leaves : Leaves moment left_since start new (IsShowing before first told)
    line_leaves =
        goes_on moment left_since start now new (IsShowing before first told) (λ image pieces. may_leave now image × SaidPart 0 (spoken (query_reply (answer before engine.world (Status id)))) (length first) (told ++ line_pieces (length first) s.done) pieces) (IsShowing before first told)
        s.leaves (says.leaves first s.took (told ++ line_pieces (length first) s.done) s.said_all)
        (λ image pieces h. h)
        (λ image pieces h. showing_part before first told s.done next.0 (query_reply (answer before engine.world (Status id))) image pieces lines_split (left_history stand.0 (may_leave old) engine before stand.2 image (stop image h.0)) h.1)

    -- one line more
    pub shown_more : r ≡ GoesOn → ShownSoFar start new before first told (count + 1)
    shown_more goes = record {
      done = s.done ++ query_reply (answer before engine.world (Status id)) ∷ [];
      more = next.0;
      lines_are = lines_split ∙ sym (append_assoc s.done (query_reply (answer before engine.world (Status id)) ∷ []) next.0);
      many = length-append s.done (query_reply (answer before engine.world (Status id)) ∷ []) ∙ ap (λ (n : ℕ). n + 1) s.many;
      took = says.taken_same ∙ s.took;
      said_all = says.whole first s.took (told ++ line_pieces (length first) s.done) s.said_all goes ∙ ap Some (pieces_more (length first) told s.done (query_reply (answer before engine.world (Status id))));
      leaves = line_leaves;
    }

    -- the program stops at a line
    pub shown_stops : (status : ℕ) → r ≡ Stops status → Showed moment left_since said may_leave seen taken start new before first told status
    shown_stops status stops = record {
      took = says.taken_same ∙ s.took;
      leaves = line_leaves;
      finish = λ zero. absurd (⊎_elim (λ d. cc) (λ f. ⊎_elim (λ six. let e : status ≡ 6 = cc in omega (arith, e, zero)) (λ four. let e : status ≡ 4 = cc in omega (arith, e, zero)) f) says.which);
      short = λ six. record {
        whole = s.done;
        rest = s.more;
        lines_are = s.lines_are;
        taken = says.taken_same ∙ s.took;
        told = says.quiet (stops ∙ ap Stops six) ∙ s.said_all;
      };
    }

  -- want of memory between two lines
  pub shown_lacks : (start now : S) (before : List Label) (first : List (Input W)) (told : List Piece) (count : ℕ) → ShownSoFar start now before first told count → Showed moment left_since said may_leave seen taken start now before first told 6
  shown_lacks start now before first told count s = record {
    took = s.took;
    leaves = s.leaves;
    finish = λ zero. absurd (omega (arith, zero));
    short = λ six. record { whole = s.done; rest = s.more; lines_are = s.lines_are; taken = s.took; told = s.said_all };
  }

  -- all lines were said
  pub shown_all : (start old now : S) (engine : Core) (before : List Label) (first : List (Input W)) (told : List Piece) (count : ℕ) → Stand moment left_since said may_leave seen old engine before → NothingNew (may_leave old) (may_leave now)
      → ShownSoFar start now before first told count → None ≡ option_map (λ (i : Instance). i.id) (slice_get engine.world.instances count) → Showed moment left_since said may_leave seen taken start now before first told 0
  shown_all start old now engine before first told count stand stop s is =
      let none : s.more ≡ [] = next_of before engine.world s.done s.more count None (sym (lines_as engine old before stand) ∙ s.lines_are) s.many is in
      let all : s.done ≡ lines_of before = sym (s.lines_are ∙ ap (λ (l : List Reply). s.done ++ l) none ∙ append-nil s.done) in
      record {
        took = s.took;
        leaves = s.leaves;
        finish = λ zero. record {
          taken = s.took;
          told = s.said_all ∙ ap (λ (l : List Reply). Some (told ++ line_pieces (length first) l)) all;
          stands = λ image may. left_history stand.0 (may_leave old) engine before stand.2 image (stop image may);
        };
        short = λ six. absurd (omega (arith, six));
      }

  module _ (only_now : (s : S) (image : Image) (pieces : List Piece) → left_since s (moment s) image pieces → may_leave s image × IsSaid (said s) pieces) where
    pub show_opened : (old opened new : S) (engine : Core) (status : ℕ) → taken opened ≡ taken old → said opened ≡ said old
        → ((image : Image) → seen old ≡ Some image → IsOpened moment left_since said may_leave seen image opened engine)
        → ((image : Image) → seen old ≡ Some image → (history : List Label) → IsHistory image history → OpensHistory moment left_since said may_leave seen old opened history)
        → ShowsOn moment left_since said may_leave seen taken opened new engine status → (status ≢ 5) → (status ≢ 3)
        → ShowRun moment left_since said may_leave seen taken old new status
    show_opened old opened new engine status same silent opens any_moment shows sound no_fault = record {
      moments = λ image is first took told said_is before stands.
          let s = start image is first took told said_is before stands in
          let r = run image is first took told said_is before stands in
          (r.took, inr (s.0, s.1, r.leaves));
      finish = λ image is first took told said_is before stands zero. (run image is first took told said_is before stands).finish zero;
      short = λ image is first took told said_is before stands which. ⊎_elim (λ three. absurd (no_fault three)) (λ six. (run image is first took told said_is before stands).short six) which;
      damage = opened_damage moment left_since said may_leave seen taken only_now old opened new engine status opens (λ stand. sound);
      heard = λ first took told is five. absurd (sound five);
    }
      where
        start : (image : Image) → seen old ≡ Some image → (first : List (Input W)) → taken old ≡ Some first → (told : List Piece) → said old ≡ Some told → (before : List Label) → IsHistory image before
            → (start : S) × LeavesOnly moment left_since said old start (may_leave old) × Leaves moment left_since start opened (IsShowing before first told)
        start image is first took told said_is before stands =
            let stood = opened_stand moment left_since said may_leave seen taken only_now opened image engine before stands (opens image is) in
            opened_start moment left_since said may_leave seen taken only_now (IsShowing before first told) before told (showing_first before first told) old opened said_is silent
            (λ left may. left_history stood.0 (may_leave opened) engine before stood.2 left may) (any_moment image is before stands)

        run : (image : Image) → (is : seen old ≡ Some image) → (first : List (Input W)) → (took : taken old ≡ Some first) → (told : List Piece) → (said_is : said old ≡ Some told) → (before : List Label) → (stands : IsHistory image before)
            → Showed moment left_since said may_leave seen taken (start image is first took told said_is before stands).0 new before first told status
        run image is first took told said_is before stands =
            let s = start image is first took told said_is before stands in
            shows s.0 before first told (same ∙ took) (silent ∙ said_is) (opened_stand moment left_since said may_leave seen taken only_now opened image engine before stands (opens image is)) s.2

    pub show_closed : (fault : EngineFault) (old opened new : S) (status h h_now t t_now : ℕ) → taken opened ≡ taken old → said opened ≡ said old → taken new ≡ taken opened
        → ((image : Image) → seen old ≡ Some image → (at : ℕ) → fault ≡ Damaged at → IsDamaged image at)
        → ((image : Image) → seen old ≡ Some image → (history : List Label) → IsHistory image history → OpensHistory moment left_since said may_leave seen old opened history)
        → ((image : Image) → seen old ≡ Some image → 25 ≤ length image.journal → IsUntouched moment left_since said may_leave seen old opened)
        → Tells moment left_since said may_leave seen taken fault opened new status → ClosesWith fault status h h_now t t_now
        → ShowRun moment left_since said may_leave seen taken old new status
    show_closed fault old opened new status h h_now t t_now same silent kept damaged any_moment untouched tells closes = record {
      moments = λ image is first took told said_is before stands. (
        kept ∙ same ∙ took,
        subst (λ (s : S). Runs moment left_since said may_leave (IsShowing before first told) old s) (sym (unchanged image is before stands))
            (failed_runs moment left_since said may_leave seen taken only_now (IsShowing before first told) before told (showing_first before first told) old opened said_is (any_moment image is before stands)),
      );
      finish = λ image is first took told said_is before stands zero. absurd ((closed_other moment left_since said may_leave seen taken only_now fault status h h_now t t_now closes).0 zero);
      short = λ image is first took told said_is before stands which. record {
        whole = [];
        rest = lines_of before;
        lines_are = refl;
        taken = kept ∙ same ∙ took;
        told = ap said (unchanged image is before stands) ∙ silent ∙ said_is ∙ ap Some (sym (append-nil told));
      };
      damage = closed_damage moment left_since said may_leave seen taken only_now fault old opened new status h h_now t t_now same silent kept damaged untouched tells closes;
      heard = λ first took told is. closed_heard moment left_since said may_leave seen taken fault opened new first told status h h_now t t_now (same ∙ took) (silent ∙ is) tells closes;
    }
      where
        unchanged : (image : Image) → seen old ≡ Some image → (before : List Label) → IsHistory image before → new ≡ opened
        unchanged image is before stands = closed_same moment left_since said may_leave seen taken only_now fault opened new status (λ at e. damaged_none image before at stands (damaged image is at e)) tells
