-- How what steps and replies add is joined to what a settling adds.
use Rattle.std.proofs.Common.{◌≡◌, ◌∙◌, ap, sym, refl, subst, ℕ, zero, ◌+◌, ◌≤◌, List, [], ◌∷◌, ◌++◌, length, map, append_assoc, append-nil, ◌&&◌, ◌||◌, not, Bool, true, false, Option, Some, None, Result, Ok, Err, arith, length-append}
use Rattle.std.proofs.lemmas.List.{map-append}
use Rattle.std.proofs.lemmas.List.Elements.{filter-append}
use Rattle.std.proofs.lemmas.Option.{option_and_then_some, same_Some}
use Rattle.std.specs.Prelude.{◌==◌, unwrap_or}
use Rattle.std.specs.Option.{ok_or}
use Rattle.swf_calls.specs.Request.{Request}
use Rattle.swf_calls.specs.declared.reply.CallReply.{CallReply}
use Rattle.swf_connect.specs.Parties.{Party, Performs}
use Rattle.swf_store.specs.declared.call.Call.{Call}
use Rattle.swf_store.specs.declared.image.Image.{Image}
use Rattle.swf_store.specs.declared.said.Piece.{Piece}
use Rattle.swf_store.specs.Said.{IsSaid}
use Rattle.swf_meaning.specs.World.{World}
use Rattle.swf_meaning.specs.declared.label.Label.{Label}
use Rattle.swf_meaning.specs.declared.label.Label.TheVariants.{Load, Start, Event, Reply, Moment, Step}
use Rattle.swf_runs.specs.After.{after}
use Rattle.swf_runs.specs.Runs.{run_from, is_quiet}
use Rattle.swf_world.specs.Refusals.{refusal}
use Rattle.swf_world.specs.declared.change.Installed.{Installed}
use Rattle.swf_engine.specs.declared.engine.Submitted.{Submitted}
use Rattle.swf_engine.specs.declared.engine.Submitted.TheVariants.{Accepted, Refused}
use Rattle.swf_engine.specs.declared.fault.EngineFault.{EngineFault}
use Rattle.swf_engine.specs.declared.fault.EngineFault.TheVariants.{Store, Damaged, Full, OutOfMemory}
use Rattle.swf_engine.specs.declared.settle.Settled.{Settled}
use Rattle.swf_engine.specs.Answers.{Stays, Submits, Steps, Went, Fails, Settles}
use Rattle.swf_engine.specs.Core.{Core}
use Rattle.swf_engine.specs.EngineCalls.{Appends, SubmitCalls}
use Rattle.swf_engine.specs.Moves.{Adds, IsStep, IsFull}
use Rattle.swf_engine.specs.Settling.{Called, AreAsked, AsksBoard, IsAwaited, calls_in, Takes, behind, AreTaken, IsGroup, is_step, is_settled, steps_in}
use Rattle.swf_engine.proofs.EngineCallLemmas.{none_appended, appends_join, appends_last_join, appends_last}
use Rattle.swf_engine.proofs.MoveLemmas.{adds_join, breaks_join, stays_adds}
use Rattle.swf_engine.proofs.OpenCallLemmas.{awaited_replies, still_open}

and_true : (b : Bool) → (b && true) ≡ b
and_true true = refl
and_true false = refl

or_true : (b : Bool) → (b || true) ≡ true
or_true true = refl
or_true false = refl

-- ---- what was asked

pub asked_join : (first second : List Called) (old mid new : List Party) → AreAsked first old mid → AreAsked second mid new → AreAsked (first ++ second) old new
asked_join [] second old mid new a b = subst (λ ps. AreAsked second ps new) a b
asked_join (c ∷ cs) second old mid new a b = (a.0, a.1, asked_join cs second a.0 mid new a.2 b)

pub asked_one : (c : Called) (old new : List Party) → Performs c.request (ok_or c.reply (tt {0})) old new → AreAsked (c ∷ []) old new
asked_one c old new p = (new, p, refl)

pub board_none : (asks : Bool) (ps : List Party) → AsksBoard asks [] ps ps
board_none asks ps = record { asked = refl; by_hand = λ e. refl }

-- parties that are asked where a board answers calls
pub board_asked : (asks : Bool) (called : List Called) (old new : List Party) → asks ≡ true → AreAsked called old new → AsksBoard asks called old new
board_asked asks called old new is asked = record { asked = asked; by_hand = λ e. absurd (cc) }

board_join : (asks : Bool) (first second : List Called) (old mid new : List Party) → AsksBoard asks first old mid → AsksBoard asks second mid new → AsksBoard asks (first ++ second) old new
board_join asks first second old mid new a b = record {
  asked = asked_join first second old mid new a.asked b.asked;
  by_hand = λ e. ap (λ cs. cs ++ second) (a.by_hand e) ∙ b.by_hand e;
}

-- ---- where it ends

-- steps that ended a settling whose calls are answered by hand, or that is not quiet
pub settled_by : (asks quiet : Bool) (w : World) → (asks && quiet) ≡ false → quiet ≡ is_settled false w → quiet ≡ is_settled asks w
settled_by false quiet w e is = is
settled_by true quiet w e is = e ∙ sym (ap (λ b. b && (length (calls_in w) == 0)) (sym (is ∙ and_true (is_quiet w)) ∙ e))

-- no strand is enabled, and no call is open
pub settled_all : (asks quiet : Bool) (w : World) → quiet ≡ true → quiet ≡ is_settled false w → (length (calls_in w) == 0) ≡ true → true ≡ is_settled asks w
settled_all asks quiet w q is none =
    sym (ap (λ b. b && (not asks || (length (calls_in w) == 0))) (sym (is ∙ and_true (is_quiet w)) ∙ q) ∙ ap (λ b. not asks || b) none ∙ or_true (not asks))

-- ---- what was taken

takes_more : (w : World) (l : Label) (given rest more : List Called) → Takes w l given rest → Takes w l (given ++ more) (rest ++ more)
takes_more w (Reply a r) given rest more t = (t.0, ap (λ cs. cs ++ more) t.1, t.2)
takes_more w (Step id strand) given rest more t = ap (λ cs. cs ++ more) t
takes_more w (Load v) given rest more t = t
takes_more w (Start id key input) given rest more t = t
takes_more w (Event e) given rest more t = t
takes_more w (Moment moment) given rest more t = t

pub taken_join : (labels more : List Label) (w m : World) (first second : List Called) → run_from w labels ≡ Some m → AreTaken w labels first → AreTaken m more second → AreTaken w (labels ++ more) (first ++ second)
taken_join [] more w m first second e a b =
    subst (λ cs. AreTaken w more (cs ++ second)) (sym a) (subst (λ v. AreTaken v more second) (sym (same_Some w m e)) b)
taken_join (l ∷ ls) more w m first second e a b = (
  a.0 ++ second,
  takes_more w l first a.0 second a.1,
  taken_join ls more (behind w l) m a.0 second (option_and_then_some (λ n. run_from n ls) (after w l) m e (λ n p q. subst (λ v. run_from v ls ≡ Some m) (sym (ap (λ o. unwrap_or o w) p)) q)) a.2 b,
)

pub steps_join : (labels more : List Label) → length (steps_in (labels ++ more)) ≡ length (steps_in labels) + length (steps_in more)
steps_join labels more = ap length (filter-append is_step labels more) ∙ length-append (steps_in labels) (steps_in more)

-- a step alone
step_taken : (w : World) (l : Label) → IsStep l → AreTaken w (l ∷ []) []
step_taken w (Step id strand) is = ([], refl, refl)
step_taken w (Load v) is = absurd is
step_taken w (Start id key input) is = absurd is
step_taken w (Event e) is = absurd is
step_taken w (Reply a r) is = absurd is
step_taken w (Moment moment) is = absurd is

one_step : (l : Label) → IsStep l → length (steps_in (l ∷ [])) ≡ 1
one_step (Step id strand) is = refl
one_step (Load v) is = absurd is
one_step (Start id key input) is = absurd is
one_step (Event e) is = absurd is
one_step (Reply a r) is = absurd is
one_step (Moment moment) is = absurd is

-- what was asked for a call
abbrev pub reply_of : List ℕ → Request → Option CallReply → Called
reply_of a q o = record { activity = a; request = q; reply = o }

reply_taken : (w : World) (a : List ℕ) (q : Request) (r : CallReply) → IsAwaited w (a, q) → AreTaken w (Reply a r ∷ []) (reply_of a q (Some r) ∷ [])
reply_taken w a q r awaited = ([], (q, refl, still_open w a q r awaited), refl)

-- labels in front of a group
group_join : (labels more : List Label) (w m : World) (count left limit : ℕ) (first second : List Called) → run_from w labels ≡ Some m → AreTaken w labels first → length (steps_in labels) ≡ count
    → count + left ≤ limit → IsGroup m more left second → IsGroup w (labels ++ more) limit (first ++ second)
group_join labels more w m count left limit first second e a is fits g = record {
  used = first ++ g.used;
  left = g.left;
  called_are = ap (λ cs. first ++ cs) g.called_are ∙ sym (append_assoc first g.used g.left);
  taken = taken_join labels more w m first g.used e a g.taken;
  most = omega (arith, steps_join labels more, is, fits, g.most);
}

-- labels whose replies are all used
all_group : (w : World) (labels : List Label) (limit : ℕ) (called : List Called) → AreTaken w labels called → length (steps_in labels) ≤ limit → IsGroup w labels limit called
all_group w labels limit called taken most = record { used = called; left = []; called_are = sym (append-nil called); taken = taken; most = most }

-- no label, and what was given is left
no_group : (w : World) (limit : ℕ) (called : List Called) → IsGroup w [] limit called
no_group w limit called = record { used = []; left = called; called_are = refl; taken = refl; most = omega arith }

module _ {S : Type 0} (moment : S → ℕ) (left_since : S → ℕ → Image → List Piece → Type 0) (said : S → Option (List Piece)) (may_leave : S → Image → Type 0) (seen : S → Option Image) (calls : S → Option (List Call)) where
  -- calls that stay awaited while replies are added
  pub awaited_went : (called : List Called) (old new : S) (before later : Core) (call : List ℕ × Request) → Went moment left_since said may_leave seen calls 0 called old new before later
      → IsAwaited before.world call → IsAwaited later.world call
  awaited_went called old new before later call t h = awaited_replies t.labels before.world later.world called call t.taken t.count t.adds.run h

  -- one step
  pub went_step : (old new : S) (before later : Core) → Steps moment left_since said may_leave seen calls old new before later (Ok true) → Went moment left_since said may_leave seen calls 1 [] old new before later
  went_step old new before later s = record {
    labels = s.0 ∷ [];
    taken = step_taken before.world s.0 s.1;
    count = one_step s.0 s.1;
    adds = s.2;
    appended = s.3;
  }

  -- one reply that is accepted
  pub went_reply : (old new : S) (before later : Core) (a : List ℕ) (q : Request) (r : CallReply) (i : Installed) → IsAwaited before.world (a, q)
      → Submits moment left_since said may_leave seen old new before later (Reply a r) (Ok (Accepted i)) → SubmitCalls (calls old) (calls new) before.gate later.gate (Reply a r) (Ok (Accepted i))
      → Went moment left_since said may_leave seen calls 0 (reply_of a q (Some r) ∷ []) old new before later
  went_reply old new before later a q r i awaited s made = record {
    labels = Reply a r ∷ [];
    taken = reply_taken before.world a q r awaited;
    count = refl;
    adds = s.0;
    appended = made;
  }

  -- nothing was done since
  went_still : (n : ℕ) (called : List Called) (old mid new : S) (before middle later : Core) → Stays mid new middle later → Went moment left_since said may_leave seen calls n called old mid before middle
      → Went moment left_since said may_leave seen calls n called old new before later
  went_still n called old mid new before middle later same t =
      subst (λ (x : S). Went moment left_since said may_leave seen calls n called old x before later) (sym same.0)
      (subst (λ (x : Core). Went moment left_since said may_leave seen calls n called old mid before x) (sym same.1) t)

  -- no more was done
  pub fails_here : (n : ℕ) (called : List Called) (old new : S) (before later : Core) (limit : ℕ) → n ≤ limit → Went moment left_since said may_leave seen calls n called old new before later
      → Fails moment left_since said may_leave seen calls limit called old new before later OutOfMemory
  fails_here n called old new before later limit le t = (t.labels, all_group before.world t.labels limit called t.taken (omega (arith, t.count, le)), t.adds, t.appended)

  -- so many steps were added and these parties were asked, none where calls are answered by hand
  pub record Going (asks : Bool) (n : ℕ) (first last : List Party) (old new : S) (before later : Core) : Type 0 where
    pub called : List Called
    pub board : AsksBoard asks called first last
    pub went : Went moment left_since said may_leave seen calls n called old new before later

  module _ (only_now : (s : S) (image : Image) (pieces : List Piece) → left_since s (moment s) image pieces → may_leave s image × IsSaid (said s) pieces) where
    pub none_went : (old : S) (before : Core) → Went moment left_since said may_leave seen calls 0 [] old old before before
    none_went old before = record {
      labels = [];
      taken = refl;
      count = refl;
      adds = stays_adds moment left_since said may_leave seen only_now old before;
      appended = none_appended (calls old) before.gate;
    }

    pub went_join : (n m k : ℕ) (first second : List Called) (old mid new : S) (before middle later : Core) → n + m ≡ k → said mid ≡ said old → Went moment left_since said may_leave seen calls n first old mid before middle
        → Went moment left_since said may_leave seen calls m second mid new middle later → Went moment left_since said may_leave seen calls k (first ++ second) old new before later
    went_join n m k first second old mid new before middle later is silent a b = record {
      labels = a.labels ++ b.labels;
      taken = taken_join a.labels b.labels before.world middle.world first second a.adds.run a.taken b.taken;
      count = omega (arith, steps_join a.labels b.labels, a.count, b.count, is);
      adds = adds_join moment left_since said may_leave seen only_now old mid new before middle later a.labels b.labels silent a.adds b.adds;
      appended = appends_join (calls old) (calls mid) (calls new) before.gate middle.gate later.gate a.labels b.labels a.appended b.appended;
    }

    pub fails_join : (n left limit : ℕ) (first second : List Called) (old mid new : S) (before middle later : Core) (fault : EngineFault) → said mid ≡ said old → n + left ≤ limit
        → Went moment left_since said may_leave seen calls n first old mid before middle → Fails moment left_since said may_leave seen calls left second mid new middle later fault
        → Fails moment left_since said may_leave seen calls limit (first ++ second) old new before later fault
    fails_join n left limit first second old mid new before middle later Store silent fits a f = (
      a.labels ++ f.0,
      group_join a.labels f.0 before.world middle.world n left limit first second a.adds.run a.taken a.count fits f.1,
      breaks_join moment left_since said may_leave seen only_now old mid new before middle a.labels f.0 silent a.adds f.2,
      appends_last_join (calls old) (calls mid) (calls new) before.gate middle.gate a.labels f.0 a.appended f.3,
    )
    fails_join n left limit first second old mid new before middle later (Damaged at) silent fits a f = f
    fails_join n left limit first second old mid new before middle later (Full size) silent fits a f = (
      a.labels ++ f.0,
      f.1,
      f.2,
      subst (λ ls. IsGroup before.world ls limit (first ++ second)) (sym (append_assoc a.labels f.0 (f.1 ∷ [])))
          (group_join a.labels (f.0 ++ f.1 ∷ []) before.world middle.world n left limit first second a.adds.run a.taken a.count fits f.3),
      adds_join moment left_since said may_leave seen only_now old mid new before middle later a.labels f.0 silent a.adds f.4,
      appends_join (calls old) (calls mid) (calls new) before.gate middle.gate later.gate a.labels f.0 a.appended f.5,
      f.6,
    )
    fails_join n left limit first second old mid new before middle later OutOfMemory silent fits a f = (
      a.labels ++ f.0,
      group_join a.labels f.0 before.world middle.world n left limit first second a.adds.run a.taken a.count fits f.1,
      adds_join moment left_since said may_leave seen only_now old mid new before middle later a.labels f.0 silent a.adds f.2,
      appends_join (calls old) (calls mid) (calls new) before.gate middle.gate later.gate a.labels f.0 a.appended f.3,
    )

    -- a call that changed nothing fails as one behind which store and engine are as they were
    stays_fails : (limit : ℕ) (called : List Called) (old new : S) (before later : Core) (fault : EngineFault) → Stays old new before later → Fails moment left_since said may_leave seen calls limit called old old before before fault
        → Fails moment left_since said may_leave seen calls limit called old new before later fault
    stays_fails limit called old new before later fault same f =
        subst (λ (x : S). Fails moment left_since said may_leave seen calls limit called old x before later fault) (sym same.0)
        (subst (λ (x : Core). Fails moment left_since said may_leave seen calls limit called old old before x fault) (sym same.1) f)

    -- nothing was added
    fails_still : (limit : ℕ) (called : List Called) (old new : S) (before later : Core) → Stays old new before later → Fails moment left_since said may_leave seen calls limit called old new before later OutOfMemory
    fails_still limit called old new before later same = stays_fails limit called old new before later OutOfMemory same
        ([], no_group before.world limit called, stays_adds moment left_since said may_leave seen only_now old before, none_appended (calls old) before.gate)

    -- a label alone has no room
    fails_label : (limit : ℕ) (called : List Called) (old new : S) (before later : Core) (label : Label) (size : ℕ) → IsGroup before.world (label ∷ []) limit called → refusal before.world label ≡ None
        → IsFull before (label ∷ []) size → Stays old new before later → Fails moment left_since said may_leave seen calls limit called old new before later (Full size)
    fails_label limit called old new before later label size group free full same = stays_fails limit called old new before later (Full size) same
        ([], label, free, group, stays_adds moment left_since said may_leave seen only_now old before, none_appended (calls old) before.gate, full)

    -- ---- so far

    pub going_none : (asks : Bool) (ps : List Party) (old : S) (before : Core) → Going asks 0 ps ps old old before before
    going_none asks ps old before = record { called = []; board = record { asked = refl; by_hand = λ e. refl }; went = none_went old before }

    pub going_on : (asks : Bool) (n m k : ℕ) (second : List Called) (first middle_parties last : List Party) (old mid new : S) (before middle later : Core) → n + m ≡ k → said mid ≡ said old
        → Going asks n first middle_parties old mid before middle → AsksBoard asks second middle_parties last → Went moment left_since said may_leave seen calls m second mid new middle later
        → Going asks k first last old new before later
    going_on asks n m k second first middle_parties last old mid new before middle later is silent g b w = record {
      called = g.called ++ second;
      board = board_join asks g.called second first middle_parties last g.board b;
      went = went_join n m k g.called second old mid new before middle later is silent g.went w;
    }

    -- what a call that is not done leaves
    pub going_fails : (asks : Bool) (n left limit : ℕ) (second : List Called) (first middle_parties last : List Party) (old mid new : S) (before middle later : Core) (fault : EngineFault) → n + left ≤ limit → said mid ≡ said old
        → Going asks n first middle_parties old mid before middle → AsksBoard asks second middle_parties last → Fails moment left_since said may_leave seen calls left second mid new middle later fault
        → (called : List Called) × AsksBoard asks called first last × Fails moment left_since said may_leave seen calls limit called old new before later fault
    going_fails asks n left limit second first middle_parties last old mid new before middle later fault fits silent g b f = (
      g.called ++ second,
      board_join asks g.called second first middle_parties last g.board b,
      fails_join n left limit g.called second old mid new before middle later fault silent fits g.went f,
    )

    pub going_stops : (asks : Bool) (n limit : ℕ) (first last : List Party) (old new : S) (before later : Core) → n ≤ limit → Going asks n first last old new before later
        → (called : List Called) × AsksBoard asks called first last × Fails moment left_since said may_leave seen calls limit called old new before later OutOfMemory
    going_stops asks n limit first last old new before later le g = (g.called, g.board, fails_here n g.called old new before later limit le g.went)

    pub going_settled : (asks : Bool) (limit : ℕ) (first last : List Party) (old new : S) (before later : Core) (settled : Settled) → settled.steps ≤ limit → settled.quiet ≡ is_settled asks later.world
        → (settled.quiet ≡ false → settled.steps ≡ limit) → Going asks settled.steps first last old new before later
        → (called : List Called) × AsksBoard asks called first last × Settles moment left_since said may_leave seen calls asks called old new before later limit (Ok settled)
    going_settled asks limit first last old new before later settled le quiet all g = (g.called, g.board, (g.went, le, quiet, all))

    -- ---- a step

    step_group : (w : World) (l : Label) (limit : ℕ) → IsStep l → 1 ≤ limit → IsGroup w (l ∷ []) limit []
    step_group w l limit is le = all_group w (l ∷ []) limit [] (step_taken w l is) (omega (arith, one_step l is, le))

    -- a step that was not taken
    step_fails : (old new : S) (before later : Core) (fault : EngineFault) → Steps moment left_since said may_leave seen calls old new before later (Err fault)
        → Fails moment left_since said may_leave seen calls 1 [] old new before later fault
    step_fails old new before later Store s =
        (s.0 ∷ [], step_group before.world s.0 1 s.1 (omega arith), s.2, appends_last (calls old) (calls old) (calls new) before.gate before.gate [] s.0 (none_appended (calls old) before.gate) s.3)
    step_fails old new before later (Damaged at) s = s
    step_fails old new before later (Full size) s = fails_label 1 [] old new before later s.0 size (step_group before.world s.0 1 s.1 (omega arith)) s.2 s.3 s.4
    step_fails old new before later OutOfMemory s = fails_still 1 [] old new before later s

    -- no strand is enabled any more
    pub settled_quiet : (old mid new : S) (before middle later : Core) (count limit : ℕ) → count ≤ limit → Went moment left_since said may_leave seen calls count [] old mid before middle
        → Steps moment left_since said may_leave seen calls mid new middle later (Ok false)
        → Settles moment left_since said may_leave seen calls false [] old new before later limit (Ok (record { steps = count; quiet = true }))
    settled_quiet old mid new before middle later count limit le t s =
        let quiet : is_quiet later.world ≡ true = ap (λ (x : Core). is_quiet x.world) s.1.1 ∙ s.0 in
        (went_still count [] old mid new before middle later s.1 t, le, sym (and_true (is_quiet later.world) ∙ quiet), λ e. absurd (cc))

    pub settled_limit : (old new : S) (before later : Core) (limit : ℕ) (quiet : Bool) → Went moment left_since said may_leave seen calls limit [] old new before later → quiet ≡ is_quiet later.world
        → Settles moment left_since said may_leave seen calls false [] old new before later limit (Ok (record { steps = limit; quiet = quiet }))
    settled_limit old new before later limit quiet t is = (t, omega arith, is ∙ sym (and_true (is_quiet later.world)), λ e. refl)

    pub not_settled : (old mid new : S) (before middle later : Core) (count limit : ℕ) (fault : EngineFault) → count + 1 ≤ limit → said mid ≡ said old
        → Went moment left_since said may_leave seen calls count [] old mid before middle → Steps moment left_since said may_leave seen calls mid new middle later (Err fault)
        → Settles moment left_since said may_leave seen calls false [] old new before later limit (Err fault)
    not_settled old mid new before middle later count limit fault fits silent t s = fails_join count 1 limit [] [] old mid new before middle later fault silent fits t (step_fails mid new middle later fault s)

    -- ---- a call that is asked

    -- the board gave no reply, or it is let go
    pub let_go : (a : List ℕ) (q : Request) (o : Option CallReply) (old new : S) (before later : Core) → Stays old new before later
        → Fails moment left_since said may_leave seen calls 0 (reply_of a q o ∷ []) old new before later OutOfMemory
    let_go a q o old new before later same = fails_still 0 (reply_of a q o ∷ []) old new before later same

    reply_group : (w : World) (a : List ℕ) (q : Request) (r : CallReply) → IsAwaited w (a, q) → IsGroup w (Reply a r ∷ []) 0 (reply_of a q (Some r) ∷ [])
    reply_group w a q r awaited = all_group w (Reply a r ∷ []) 0 (reply_of a q (Some r) ∷ []) (reply_taken w a q r awaited) (omega arith)

    -- its reply was not added
    pub not_replied : (a : List ℕ) (q : Request) (r : CallReply) (old new : S) (before later : Core) (fault : EngineFault) → IsAwaited before.world (a, q)
        → Submits moment left_since said may_leave seen old new before later (Reply a r) (Err fault) → SubmitCalls (calls old) (calls new) before.gate later.gate (Reply a r) (Err fault)
        → Fails moment left_since said may_leave seen calls 0 (reply_of a q (Some r) ∷ []) old new before later fault
    not_replied a q r old new before later Store awaited s begun = (
      Reply a r ∷ [],
      reply_group before.world a q r awaited,
      s.0,
      appends_last (calls old) (calls old) (calls new) before.gate before.gate [] (Reply a r) (none_appended (calls old) before.gate) begun,
    )
    not_replied a q r old new before later (Damaged at) awaited s begun = s
    not_replied a q r old new before later (Full size) awaited s begun = fails_label 0 (reply_of a q (Some r) ∷ []) old new before later (Reply a r) size (reply_group before.world a q r awaited) s.1 s.0 s.2
    not_replied a q r old new before later OutOfMemory awaited s begun = fails_still 0 (reply_of a q (Some r) ∷ []) old new before later s
