-- What a turn tells, whatever its store tells.
use Rattle.std.proofs.Common.{◌≡◌, ◌≢◌, ◌∙◌, ap, sym, refl, subst, ◌⊎◌, inl, inr, ⊎_elim, ℕ, ◌+◌, List, [], ◌∷◌, ◌++◌, append-nil, length, length-append, Bool, true, false, Option, Some, arith}
use Rattle.std.specs.Option.{ForSome}
use Rattle.swf_store.specs.declared.image.Image.{Image}
use Rattle.swf_store.specs.declared.said.Piece.{Piece}
use Rattle.swf_store.specs.Said.{and_piece}
use Rattle.swf_host.specs.declared.host.Input.{Input}
use Rattle.swf_host.specs.declared.host.Input.TheVariants.{Ask as Asks, TooLong, Work, Idle, Closed}
use Rattle.swf_protocol.specs.Spoken.{spoken, damaged_bytes, full_bytes}
use Rattle.swf_protocol.specs.declared.reply.Reply.{Reply}
use Rattle.swf_turns.specs.declared.saying.After.{After}
use Rattle.swf_turns.specs.declared.saying.After.TheVariants.{GoesOn, Ends, Stops}
use Rattle.swf_journal.specs.Frames.{header}
use Rattle.swf_engine.specs.Retelling.{IsMisread}
use Rattle.swf_engine.specs.declared.fault.EngineFault.{EngineFault}
use Rattle.swf_engine.specs.declared.fault.EngineFault.TheVariants.{Store, Damaged, Full, OutOfMemory}
use Rattle.swf_turns.specs.Finish.{ClosesWith, Tells, TellsDamage}
use Rattle.swf_turns.specs.Faults.{AsksHistory, AsksLabels}
use Rattle.swf_turns.specs.Dialect.{Dialect, line_read, session}
use Rattle.swf_turns.specs.Heard.{IsReplyTo, IsReplied, TurnTells, AreReplied, TurnsTell}
use Rattle.swf_turns.specs.Owed.{IsAsked, conn_of, pieces_of}
use Rattle.swf_turns.specs.Steps.{IsStop, Says, follows_end}
use Rattle.swf_turns.specs.Turns.{Turn, AreMore, inputs_of}
use Rattle.swf_turns.proofs.TurnListLemmas.{inputs_join, pieces_join, said_at_once}
use Rattle.swf_turns.proofs.SoundLemmas.{end_is_none}

-- a reply is to who asked
asked_of : {W : Type 0} (mode : Dialect W) (held : Option Image) (input : Input W) (reply : Reply) → IsReplyTo mode held input reply → IsAsked input
asked_of mode held (Asks conn line) reply h = tt
asked_of mode held (TooLong conn) reply h = tt
asked_of mode held (Work w) reply h = absurd h
asked_of mode held Idle reply h = absurd h
asked_of mode held Closed reply h = absurd h

-- what follows a reply tells whether it is the last
goes_on_open : (over : Bool) → GoesOn ≡ follows_end over → over ≡ false
goes_on_open true e = absurd (cc)
goes_on_open false e = refl

ends_over : (over : Bool) → Ends ≡ follows_end over → over ≡ true
ends_over true e = refl
ends_over false e = absurd (cc)

stops_not_end : (over : Bool) (k : ℕ) → Stops k ≡ follows_end over → ⊥
stops_not_end true k e = cc
stops_not_end false k e = cc

same_status : (k n : ℕ) → Stops k ≡ Stops n → k ≡ n
same_status k n e = cc

module _ {W S : Type 0} (moment : S → ℕ) (left_since : S → ℕ → Image → List Piece → Type 0) (said : S → Option (List Piece)) (may_leave : S → Image → Type 0) (seen : S → Option Image) (taken : S → Option (List (Input W))) where
  -- a piece behind one input more
  piece_told : (conn : ℕ) (bytes : List ℕ) (inputs : List (Input W)) (input : Input W) (pieces : List Piece) (new : S) → said new ≡ Some (and_piece conn bytes (length (inputs ++ input ∷ [])) pieces)
      → said new ≡ Some (and_piece conn bytes (length inputs + length (input ∷ [])) pieces)
  piece_told conn bytes inputs input pieces new told = told ∙ ap (λ (n : ℕ). Some (and_piece conn bytes n pieces)) (length-append inputs (input ∷ []))

  -- at these statuses nothing is claimed
  pub stops_tells : (new : S) (inputs : List (Input W)) (pieces : List Piece) (k : ℕ) → (k ≡ 6) ⊎ (k ≡ 4) ⊎ (k ≡ 3) → TurnTells session said taken seen new inputs pieces (Stops k)
  stops_tells new inputs pieces k which = (
    λ five. absurd (⊎_elim (λ n. omega (arith, n, five)) (λ f. ⊎_elim (λ n. omega (arith, n, five)) (λ n. omega (arith, n, five)) f) which),
    λ seven. absurd (⊎_elim (λ n. omega (arith, n, seven)) (λ f. ⊎_elim (λ n. omega (arith, n, seven)) (λ n. omega (arith, n, seven)) f) which),
  )

  replied : (two new : S) (inputs : List (Input W)) (pieces : List Piece) (input : Input W) (reply : Reply) (over : Bool) (done r : After) → taken two ≡ Some (inputs ++ input ∷ []) → said two ≡ Some pieces
      → IsReplyTo session (seen two) input reply → session.ends input ≡ over → Says moment left_since said may_leave seen taken two new (conn_of input) (spoken reply) done r → r ≡ done → IsReplied session said taken seen new inputs pieces over
  replied two new inputs pieces input reply over done r took is answers ends s e = record {
    input = input;
    more = [];
    reply = reply;
    answers = subst (λ (held : Option Image). IsReplyTo session held input reply) (sym s.seen_same) answers;
    ends = ends;
    belong = tt;
    took = s.taken_same ∙ took;
    told = piece_told (conn_of input) (spoken reply) inputs input pieces new (s.whole (inputs ++ input ∷ []) took pieces is e);
  }

  -- behind a reply the input goes on or ends, as it asks, or the program stops for another cause than damage or a full journal
  pub reply_tells : (two new : S) (inputs : List (Input W)) (pieces : List Piece) (input : Input W) (reply : Reply) (over : Bool) (r : After) → taken two ≡ Some (inputs ++ input ∷ []) → said two ≡ Some pieces
      → IsReplyTo session (seen two) input reply → over ≡ session.ends input → Says moment left_since said may_leave seen taken two new (conn_of input) (spoken reply) (follows_end over) r → TurnTells session said taken seen new inputs pieces r
  reply_tells two new inputs pieces input reply over GoesOn took is answers ends s =
      let on : GoesOn ≡ follows_end over = ⊎_elim (λ d. d) (λ f. ⊎_elim (λ g. absurd (cc)) (λ g. absurd (cc)) f) s.which in
      replied two new inputs pieces input reply false (follows_end over) GoesOn took is answers (sym ends ∙ goes_on_open over on) s on
  reply_tells two new inputs pieces input reply over Ends took is answers ends s =
      let on : Ends ≡ follows_end over = ⊎_elim (λ d. d) (λ f. ⊎_elim (λ g. absurd (cc)) (λ g. absurd (cc)) f) s.which in
      inr (replied two new inputs pieces input reply true (follows_end over) Ends took is answers (sym ends ∙ ends_over over on) s on)
  reply_tells two new inputs pieces input reply over (Stops k) took is answers ends s = stops_tells new inputs pieces k (⊎_elim (λ d. absurd (stops_not_end over k d)) (λ f. ⊎_elim (λ six. inl (same_status k 6 six)) (λ four. inr (inl (same_status k 4 four))) f) s.which)

  -- that the journal is full
  pub full_tells : (two new : S) (inputs : List (Input W)) (pieces : List Piece) (conn : ℕ) (line : List ℕ) (size : ℕ) (r : After) → taken two ≡ Some (inputs ++ Asks conn line ∷ []) → said two ≡ Some pieces → AsksLabels (line_read line)
      → Says moment left_since said may_leave seen taken two new conn (full_bytes size) (Stops 7) r → TurnTells session said taken seen new inputs pieces r
  full_tells two new inputs pieces conn line size GoesOn took is asked s = absurd (⊎_elim (λ d. cc) (λ f. ⊎_elim (λ g. cc) (λ g. cc) f) s.which)
  full_tells two new inputs pieces conn line size Ends took is asked s = absurd (⊎_elim (λ d. cc) (λ f. ⊎_elim (λ g. cc) (λ g. cc) f) s.which)
  full_tells two new inputs pieces conn line size (Stops k) took is asked s = (
    λ five.
        absurd
        (⊎_elim
        (λ d. let n = same_status k 7 d in omega (arith, n, five))
        (λ f. ⊎_elim (λ six. let n = same_status k 6 six in omega (arith, n, five)) (λ four. let n = same_status k 4 four in omega (arith, n, five)) f)
        s.which),
    λ seven. record {
      conn = conn;
      line = line;
      more = [];
      size = size;
      asked = (line_read line, refl, asked);
      belong = tt;
      took = s.taken_same ∙ took;
      told = piece_told conn (full_bytes size) inputs (Asks conn line) pieces new (s.whole (inputs ++ Asks conn line ∷ []) took pieces is (ap Stops seven));
    },
  )

  pub damage_tells : (two new : S) (inputs : List (Input W)) (pieces : List Piece) (conn : ℕ) (line : List ℕ) (place at status : ℕ) → taken two ≡ Some (inputs ++ Asks conn line ∷ []) → said two ≡ Some pieces
      → AsksHistory (line_read line) place → ForSome (seen two) (λ image. IsMisread image.journal header place at)
      → Says moment left_since said may_leave seen taken two new conn (damaged_bytes at) (Stops 5) (Stops status) → TurnTells session said taken seen new inputs pieces (Stops status)
  damage_tells two new inputs pieces conn line place at status took is asked misread s = (
    λ five. record {
      conn = conn;
      line = line;
      more = [];
      place = place;
      at = at;
      asked = (line_read line, refl, asked);
      misread = λ image held. misread image (sym s.seen_same ∙ held);
      belong = tt;
      took = s.taken_same ∙ took;
      told = piece_told conn (damaged_bytes at) inputs (Asks conn line) pieces new (s.whole (inputs ++ Asks conn line ∷ []) took pieces is (ap Stops five));
    },
    λ seven.
        absurd
        (⊎_elim
        (λ d. let n = same_status status 5 d in omega (arith, n, seven))
        (λ f. ⊎_elim (λ six. let n = same_status status 6 six in omega (arith, n, seven)) (λ four. let n = same_status status 4 four in omega (arith, n, seven)) f)
        s.which),
  )

  -- these turns were taken and replied to, and nothing else was said
  pub record IsHeard (new : S) (first : List (Input W)) (pieces : List Piece) (turns : List (Turn W)) : Type 0 where
    pub replied : AreReplied session said taken seen turns
    pub took : taken new ≡ Some (first ++ inputs_of turns)
    pub told : said new ≡ Some (pieces ++ pieces_of session (length first) turns)

  -- before the first turn
  pub heard_none : (now : S) (first : List (Input W)) (pieces : List Piece) → taken now ≡ Some first → said now ≡ Some pieces → IsHeard now first pieces []
  heard_none now first pieces took is = record { replied = tt; took = took ∙ ap Some (sym (append-nil first)); told = is ∙ ap Some (sym (append-nil pieces)) }

  replied-snoc : (ts : List (Turn W)) (t : Turn W) → AreReplied session said taken seen ts → AreMore session t.more × IsAsked t.first × ((reply : Reply) × (t.reply ≡ Some reply)) → AreReplied session said taken seen (ts ++ t ∷ [])
  replied-snoc [] t h r = (r, tt)
  replied-snoc (u ∷ ts) t h r = (h.0, replied-snoc ts t h.1 r)

  module _ (new : S) (first : List (Input W)) (pieces : List Piece) (ts : List (Turn W)) (replied : AreReplied session said taken seen ts) where
    -- one reply more
    pub heard_more : (over : Bool) → IsReplied session said taken seen new (first ++ inputs_of ts) (pieces ++ pieces_of session (length first) ts) over → (more : List (Turn W)) × IsHeard new first pieces more
    heard_more over r =
        let t : Turn W = record { first = r.input; more = r.more; answers = []; labels = []; reply = Some r.reply } in (
          ts ++ t ∷ [],
          record {
            replied = replied-snoc ts t replied (r.belong, asked_of session (seen new) r.input r.reply r.answers, (r.reply, refl));
            took = r.took ∙ ap Some (inputs_join first ts t);
            told = r.told ∙ ap Some (pieces_join session first pieces ts t);
          },
        )

    -- the program stops
    pub tells_stops : (status : ℕ) → IsStop (Stops status) → TurnTells session said taken seen new (first ++ inputs_of ts) (pieces ++ pieces_of session (length first) ts) (Stops status)
        → TurnsTell session said taken seen new first pieces status
    tells_stops status which t = record {
      turns = ts;
      replied = replied;
      whole = pieces_of session (length first) ts;
      said_are = said_at_once session (length first) ts;
      prompt = refl;
      over = λ zero. absurd (⊎_elim (λ n. omega (arith, n, zero)) (λ f. ⊎_elim (λ n. omega (arith, n, zero)) (λ h. ⊎_elim (λ n. omega (arith, n, zero)) (λ k. ⊎_elim (λ n. omega (arith, n, zero)) (λ n. omega (arith, n, zero)) k) h) f) which);
      damaged = t.0;
      full = t.1;
    }

    -- no input comes any more, or the most turns were made
    pub tells_over : (taken new ≡ Some (first ++ inputs_of ts)) ⊎ (taken new ≡ Some ((first ++ inputs_of ts) ++ Closed ∷ [])) → said new ≡ Some (pieces ++ pieces_of session (length first) ts)
        → TurnsTell session said taken seen new first pieces 0
    tells_over took told = record {
      turns = ts;
      replied = replied;
      whole = pieces_of session (length first) ts;
      said_are = said_at_once session (length first) ts;
      prompt = refl;
      over = λ zero. (took, told);
      damaged = λ five. absurd (omega (arith, five));
      full = λ seven. absurd (omega (arith, seven));
    }

  -- the most turns were made
  pub tells_all : (new : S) (first : List (Input W)) (pieces : List Piece) (ts : List (Turn W)) → IsHeard new first pieces ts → TurnsTell session said taken seen new first pieces 0
  tells_all new first pieces ts h = tells_over new first pieces ts h.replied (inl h.took) h.told

  -- the input ends
  pub tells_ends : (new : S) (first : List (Input W)) (pieces : List Piece) (ts : List (Turn W)) → AreReplied session said taken seen ts
      → TurnTells session said taken seen new (first ++ inputs_of ts) (pieces ++ pieces_of session (length first) ts) Ends → TurnsTell session said taken seen new first pieces 0
  tells_ends new first pieces ts replied (inl closed) = tells_over new first pieces ts replied (inr closed.0) closed.1
  tells_ends new first pieces ts replied (inr r) = let more = heard_more new first pieces ts replied true r in tells_all new first pieces more.0 more.1

  -- at any other status nothing is claimed
  tells_other : (new : S) (first : List (Input W)) (pieces : List Piece) (status : ℕ) → (status ≡ 6) ⊎ (status ≡ 4) ⊎ (status ≡ 3) → TurnsTell session said taken seen new first pieces status
  tells_other new first pieces status which = record {
    turns = [];
    replied = tt;
    whole = [];
    said_are = tt;
    prompt = refl;
    over = λ zero. absurd (⊎_elim (λ n. omega (arith, n, zero)) (λ f. ⊎_elim (λ n. omega (arith, n, zero)) (λ n. omega (arith, n, zero)) f) which);
    damaged = λ five. absurd (⊎_elim (λ n. omega (arith, n, five)) (λ f. ⊎_elim (λ n. omega (arith, n, five)) (λ n. omega (arith, n, five)) f) which);
    full = λ seven. absurd (⊎_elim (λ n. omega (arith, n, seven)) (λ f. ⊎_elim (λ n. omega (arith, n, seven)) (λ n. omega (arith, n, seven)) f) which);
  }

  -- Where no engine was opened: at 5 damage was told, and no input was taken.
  pub closed_heard : (fault : EngineFault) (opened new : S) (first : List (Input W)) (pieces : List Piece) (status h h_now t t_now : ℕ) → taken opened ≡ Some first → said opened ≡ Some pieces
      → Tells moment left_since said may_leave seen taken fault opened new status → ClosesWith fault status h h_now t t_now
      → status ≡ 5 → (at : ℕ) × TellsDamage at first pieces (taken new) (said new)
  closed_heard Store opened new first pieces status h h_now t t_now took is tells closes five = let three = closes.0 in absurd (omega (arith, five, three))
  closed_heard (Damaged at) opened new first pieces status h h_now t t_now took is tells closes five = (at, record { taken = tells.taken_same ∙ took; told = tells.whole first took pieces is (ap Stops five) })
  closed_heard (Full size) opened new first pieces status h h_now t t_now took is tells closes five = absurd closes
  closed_heard OutOfMemory opened new first pieces status h h_now t t_now took is tells closes five = let six = closes.0 in absurd (omega (arith, five, six))

  pub tells_closed : (fault : EngineFault) (opened new : S) (first : List (Input W)) (pieces : List Piece) (status h h_now t t_now : ℕ) → taken opened ≡ Some first → said opened ≡ Some pieces
      → Tells moment left_since said may_leave seen taken fault opened new status → ClosesWith fault status h h_now t t_now
      → TurnsTell session said taken seen new first pieces status ⊎ ((status ≡ 5) × ((at : ℕ) × TellsDamage at first pieces (taken new) (said new)))
  tells_closed Store opened new first pieces status h h_now t t_now took is tells closes = inl (tells_other new first pieces status (inr (inr closes.0)))
  tells_closed (Damaged at) opened new first pieces status h h_now t t_now took is tells closes = ⊎_elim
      (λ five. inr (five, closed_heard (Damaged at) opened new first pieces status h h_now t t_now took is tells closes five))
      (λ f. inl (tells_other new first pieces status (⊎_elim (λ six. inl six) (λ four. inr (inl four)) f)))
      closes.0
  tells_closed (Full size) opened new first pieces status h h_now t t_now took is tells closes = absurd closes
  tells_closed OutOfMemory opened new first pieces status h h_now t t_now took is tells closes = inl (tells_other new first pieces status (inl closes.0))
