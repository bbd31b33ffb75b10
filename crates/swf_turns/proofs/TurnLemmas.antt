-- How the calls of a turn are joined.
use Rattle.std.proofs.Common.{◌≡◌, ◌∙◌, ap, sym, refl, subst, ◌⊎◌, inl, inr, ⊎_elim, ℕ, ◌+◌, List, [], ◌∷◌, ◌++◌, append-nil, length, length-append, Bool, true, false, Option, Some, None, option_map, unwrap_or, Ok, Err, Result, arith}
use Rattle.swf_store.specs.declared.image.Image.{Image}
use Rattle.swf_store.specs.declared.said.Piece.{Piece}
use Rattle.swf_store.specs.Disk.{NothingNew}
use Rattle.swf_store.specs.Said.{IsSaid, SaidPart, and_piece}
use Rattle.swf_store.specs.Stops.{ElapsesSilent, Leaves}
use Rattle.swf_store.proofs.Moments.{called, goes_on, weaker}
use Rattle.swf_meaning.specs.declared.label.Label.{Label}
use Rattle.swf_meaning.specs.declared.label.Outcome.{Outcome}
use Rattle.swf_runs.specs.Runs.{world_at}
use Rattle.swf_host.specs.declared.host.Input.{Input}
use Rattle.swf_host.specs.declared.host.Input.TheVariants.{Ask as Asks, TooLong as TooLongInput, Closed}
use Rattle.swf_world.specs.Latest.{label_of}
use Rattle.swf_world.specs.Refusals.{refusal}
use Rattle.swf_world.specs.declared.refusal.Refusal.{Refusal}
use Rattle.swf_engine.specs.declared.fault.EngineFault.{EngineFault}
use Rattle.swf_engine.specs.declared.fault.EngineFault.TheVariants.{Store, Full}
use Rattle.swf_engine.specs.Core.{Core, StandFor}
use Rattle.swf_engine.specs.Settling.{Called}
use Rattle.swf_engine.specs.History.{IsHistory, Begins, IsGrown}
use Rattle.swf_engine.proofs.MoveLemmas.{stays_adds}
use Rattle.swf_engine.proofs.HistoryLemmas.{left_history, not_grown}
use Rattle.swf_protocol.specs.Spoken.{spoken, full_bytes}
use Rattle.swf_protocol.specs.declared.command.Command.{Command}
use Rattle.swf_protocol.specs.declared.command.Command.TheVariants.{Do, Ask, Settle, Quit}
use Rattle.swf_protocol.specs.declared.command.CommandFault.{CommandFault}
use Rattle.swf_protocol.specs.declared.reply.Reply.{Reply}
use Rattle.swf_protocol.specs.declared.reply.Reply.TheVariants.{TooLong}
use Rattle.swf_turns.specs.declared.answer.Answered.{Answered}
use Rattle.swf_turns.specs.declared.saying.After.{After}
use Rattle.swf_turns.specs.declared.saying.After.TheVariants.{GoesOn, Ends, Stops}
use Rattle.swf_turns.specs.Dialect.{line_read, session}
use Rattle.swf_turns.specs.Owed.{Heard, conn_of, heard}
use Rattle.swf_turns.specs.Follows.{AsksNext, MayAdd, MayAsk, MayBegin}
use Rattle.swf_turns.specs.Blame.{IsBlamed}
use Rattle.swf_turns.specs.Steps.{CommandDone, LineDone, AskDone, Passes, Stand, IsFilled, TurnLeft, Turned, TurnDone, Says, reply_of, follows_end}
use Rattle.swf_turns.specs.Turns.{Outcomes, CommandTurn, AskTurn, IsAnswered}
use Rattle.swf_turns.proofs.AnswerLemmas.{begins_none, may_outcome, done_by}
use Rattle.swf_turns.proofs.SettlingLemmas.{settling_begin}
use Rattle.swf_words.specs.declared.words.Words.{Words}

module _ (words : Words) (answers : List Called) where
  -- of nothing only nothing is a beginning
  begins_no : (part labels : List Label) → labels ≡ [] → Begins part labels → part ≡ []
  begins_no part labels e b = begins_none part (subst (λ (l : List Label). Begins part l) e b)

  may_do : (history : List Label) (o : Outcome) (r : Option Refusal) (labels : List Label) (reply : Reply) (part : List Label) → refusal (world_at history) (label_of (world_at history) o) ≡ r
      → Outcomes (world_at history) o r labels reply → Begins part labels → MayAdd words None answers history (Ok (Do o)) part
  may_do history o None labels reply part is h b = may_outcome words answers history (world_at history) o part refl is (subst (λ (l : List Label). Begins part l) h.0 b)
  may_do history o (Some r) labels reply part is h b = inl (begins_no part labels h.0 b)

  -- a line adds what it may add
  pub command_may : (history : List Label) (command : Result Command CommandFault) (labels : List Label) (reply : Reply) (part : List Label) → CommandTurn words None answers history command labels reply → Begins part labels → MayAdd words None answers history command part
  command_may history (Err f) labels reply part (inl a) b = begins_no part labels a.0 b
  command_may history (Ok (Do o)) labels reply part (inl a) b = may_do history o (refusal (world_at history) (label_of (world_at history) o)) labels reply part refl a b
  command_may history (Ok (Ask q)) labels reply part (inl a) b = begins_no part labels a.0 b
  command_may history (Ok (Settle limit)) labels reply part (inl a) b = settling_begin (world_at history) part labels (unwrap_or limit words.steps) answers a.settling b
  command_may history (Ok Quit) labels reply part (inl a) b = begins_no part labels a.0 b
  command_may history (Err f) labels reply part (inr l) b = begins_no part labels l.1 b
  command_may history (Ok (Do o)) labels reply part (inr l) b = inl (begins_no part labels l.1 b)
  command_may history (Ok (Ask q)) labels reply part (inr l) b = begins_no part labels l.1 b
  command_may history (Ok (Settle limit)) labels reply part (inr l) b = settling_begin (world_at history) part labels (unwrap_or limit words.steps) answers l.1 b
  command_may history (Ok Quit) labels reply part (inr l) b = absurd l.1

  pub ask_may : (history : List Label) (read : Option (Result Command CommandFault)) (labels : List Label) (reply : Reply) (part : List Label) → AskTurn words None answers history read labels reply → Begins part labels
      → MayAsk words None answers history read part
  ask_may history None labels reply part a b = begins_no part labels a.0 b
  ask_may history (Some command) labels reply part a b = command_may history command labels reply part a b

  -- the counts behind some calls that changed none
  pub blamed_behind : (status h0 h h_now t0 t t_now : ℕ) → h ≡ h0 → t ≡ t0 → IsBlamed status h h_now t t_now → IsBlamed status h0 h_now t0 t_now
  blamed_behind status h0 h h_now t0 t t_now e f b =
      subst (λ (n : ℕ). IsBlamed status n h_now t0 t_now) e (subst (λ (n : ℕ). IsBlamed status h h_now n t_now) f b)

  -- an engine still stands where a stop leaves no more
  pub still_stands : (image : Image) (before now : Image → Type 0) (engine : Core) (history : List Label) → StandFor image before engine history → NothingNew before now → StandFor image now engine history
  still_stands image before now engine history s stop = record {
    bodies = s.bodies;
    settled = record { ready = s.settled.ready; durable = λ other may. s.settled.durable other (stop other may) };
    holds = s.holds;
    run = s.run;
  }

  not_over : (over : Bool) (s : ℕ) → follows_end over ≡ Stops s → ⊥
  not_over true s e = cc
  not_over false s e = cc

  goes_not_over : (over : Bool) → GoesOn ≡ follows_end over → over ≡ false
  goes_not_over true e = absurd (cc)
  goes_not_over false e = refl

  ends_over : (over : Bool) → Ends ≡ follows_end over → over ≡ true
  ends_over true e = refl
  ends_over false e = absurd (cc)

  module _ {S : Type 0} (moment : S → ℕ) (left_since : S → ℕ → Image → List Piece → Type 0) (said : S → Option (List Piece)) (may_leave : S → Image → Type 0) (seen : S → Option Image)
      (only_now : (s : S) (image : Image) (pieces : List Piece) → left_since s (moment s) image pieces → may_leave s image × IsSaid (said s) pieces) where
    -- an Ask that is not too long
    pub asked_short : (command : Result Command CommandFault) (read : Option (Result Command CommandFault)) (old new : S) (before after : Core) (result : Result Reply EngineFault) → read ≡ Some command
        → LineDone words None answers moment left_since said may_leave seen command old new before after result → AskDone words None answers moment left_since said may_leave seen read old new before after result
    asked_short command read old new before after result short h =
        subst (λ (r : Option (Result Command CommandFault)). AskDone words None answers moment left_since said may_leave seen r old new before after result) (sym short) h

    -- no input, or one, was taken; nothing was said
    pub next_leaves : (old new : S) (image : Image) (engine : Core) (history : List Label) (pieces : List Piece) → StandFor image (may_leave old) engine history → said old ≡ Some pieces
        → NothingNew (may_leave old) (may_leave new) → ElapsesSilent (moment old) (moment new) (left_since old) (left_since new) (may_leave new) (said old)
        → Leaves moment left_since old new (λ left now. IsHistory left history × (now ≡ pieces))
    next_leaves old new image engine history pieces stands is stop time =
        called moment left_since old new (may_leave new) (IsSaid (said old)) (λ left now. IsHistory left history × (now ≡ pieces)) time
        (λ left now since. let n = only_now old left now since in (left_history image (may_leave old) engine history stands left n.0, n.1 pieces is))
        (λ left now may q. (left_history image (may_leave old) engine history stands left (stop left may), q pieces is))

    -- and then the engine's call
    pub begun : (old one two : S) (history group : List Label) (inputs : ℕ) (pieces : List Piece) (line : List Heard)
        → Leaves moment left_since old one (λ left now. IsHistory left history × (now ≡ pieces)) → said one ≡ Some pieces → Passes moment left_since said may_leave seen one two history group
        → Leaves moment left_since old two (TurnLeft history inputs pieces group line)
    begun old one two history group inputs pieces line first is second =
        goes_on moment left_since old one two (λ left now. IsHistory left history × (now ≡ pieces)) (λ left now. IsGrown history group left × IsSaid (said one) now) (TurnLeft history inputs pieces group line) first second
        (λ left now h. inl (not_grown history group left h.0, h.1))
        (λ left now h. inl (h.0, h.1 pieces is))

    -- and then what is said
    pub then_said : (old two new : S) (history group : List Label) (inputs : ℕ) (pieces : List Piece) (one : Heard) (after : Core)
        → Leaves moment left_since old two (TurnLeft history inputs pieces group (one ∷ [])) → Stand moment left_since said may_leave seen two after (history ++ group)
        → Leaves moment left_since two new (λ left now. may_leave two left × SaidPart one.conn one.bytes inputs pieces now)
        → Leaves moment left_since old new (TurnLeft history inputs pieces group (one ∷ []))
    then_said old two new history group inputs pieces one after first stand second =
        goes_on moment left_since old two new (TurnLeft history inputs pieces group (one ∷ [])) (λ left now. may_leave two left × SaidPart one.conn one.bytes inputs pieces now) (TurnLeft history inputs pieces group (one ∷ [])) first second
        (λ left now h. h)
        (λ left now h. inr (one, refl, left_history stand.0 (may_leave two) after (history ++ group) stand.2 left h.0, h.1))

    -- an Ask that is too long
    pub asked_long : (read : Option (Result Command CommandFault)) (old : S) (engine : Core) → read ≡ None → AskDone words None answers moment left_since said may_leave seen read old old engine engine (Ok TooLong)
    asked_long read old engine long =
        subst (λ (r : Option (Result Command CommandFault)). AskDone words None answers moment left_since said may_leave seen r old old engine engine (Ok TooLong)) (sym long)
        (λ image is history stands.
        done_by moment left_since said may_leave seen only_now (MayAsk words None answers history None) (AsksNext words None answers history None) (AskTurn words None answers history None) old old engine engine image history [] TooLong
        (stays_adds moment left_since said may_leave seen only_now old engine) is stands (refl, refl))

    -- an input that adds nothing
    pub begun_none : (old one : S) (history : List Label) (inputs : ℕ) (pieces : List Piece) (line : List Heard)
        → Leaves moment left_since old one (λ left now. IsHistory left history × (now ≡ pieces)) → Leaves moment left_since old one (TurnLeft history inputs pieces [] line)
    begun_none old one history inputs pieces line first =
        weaker moment left_since old one (λ left now. IsHistory left history × (now ≡ pieces)) (TurnLeft history inputs pieces [] line) first
        (λ left now h. inl (not_grown history [] left h.0, h.1))

    stand_none : (one : S) (image : Image) (engine : Core) (history : List Label) → seen one ≡ Some image → StandFor image (may_leave one) engine history → Stand moment left_since said may_leave seen one engine (history ++ [])
    stand_none one image engine history is stands = (image, is, subst (λ (l : List Label). StandFor image (may_leave one) engine l) (sym (append-nil history)) stands)

    module _ {W : Type 0} (taken : S → Option (List (Input W))) where
      abbrev alone : Input W → List (Input W)
      alone i = i ∷ []

      -- an input was taken
      pub record Comes (old one : S) (input : Input W) : Type 0 where
        pub took : taken one ≡ option_map (λ (all : List (Input W)). all ++ input ∷ []) (taken old)
        pub same : seen one ≡ seen old
        pub silent : said one ≡ said old
        pub stop : NothingNew (may_leave old) (may_leave one)
        pub time : ElapsesSilent (moment old) (moment one) (left_since old) (left_since one) (may_leave one) (said old)

      -- how many inputs were taken with one more
      one_more : (inputs : List (Input W)) (input : Input W) → length (inputs ++ input ∷ []) ≡ length inputs + length (input ∷ [])
      one_more inputs input = length-append inputs (input ∷ [])

      all_taken : (old one : S) (input : Input W) (inputs : List (Input W)) → Comes old one input → taken old ≡ Some inputs → taken one ≡ Some (inputs ++ input ∷ [])
      all_taken old one input inputs c is = c.took ∙ ap (option_map (λ (all : List (Input W)). all ++ input ∷ [])) is

      -- what is said behind an input that was taken
      say_leaves : (two new : S) (conn : ℕ) (line : List ℕ) (done r : After) (inputs : List (Input W)) (input : Input W) (pieces : List Piece) → Says moment left_since said may_leave seen taken two new conn line done r
          → taken two ≡ Some (inputs ++ input ∷ []) → said two ≡ Some pieces
          → Leaves moment left_since two new (λ left now. may_leave two left × SaidPart conn line (length inputs + length (input ∷ [])) pieces now)
      say_leaves two new conn line done r inputs input pieces s took is =
          subst (λ (n : ℕ). Leaves moment left_since two new (λ left now. may_leave two left × SaidPart conn line n pieces now)) (one_more inputs input) (s.leaves (inputs ++ input ∷ []) took pieces is)

      say_whole : (two new : S) (conn : ℕ) (line : List ℕ) (done r : After) (inputs : List (Input W)) (input : Input W) (pieces : List Piece) → Says moment left_since said may_leave seen taken two new conn line done r
          → taken two ≡ Some (inputs ++ input ∷ []) → said two ≡ Some pieces → r ≡ done → said new ≡ Some (and_piece conn line (length inputs + length (input ∷ [])) pieces)
      say_whole two new conn line done r inputs input pieces s took is e =
          s.whole (inputs ++ input ∷ []) took pieces is e ∙ ap (λ (n : ℕ). Some (and_piece conn line n pieces)) (one_more inputs input)

      stand_said : (two new : S) (conn : ℕ) (line : List ℕ) (done r : After) (after : Core) (history : List Label) → Says moment left_since said may_leave seen taken two new conn line done r
          → Stand moment left_since said may_leave seen two after history → Stand moment left_since said may_leave seen new after history
      stand_said two new conn line done r after history s stand = (stand.0, s.seen_same ∙ stand.1, still_stands stand.0 (may_leave two) (may_leave new) after history stand.2 s.stop)

      -- a turn that said something, or a part of it
      turned_said : (old two new : S) (after : Core) (history : List Label) (inputs : List (Input W)) (pieces : List Piece) (input : Input W) (group : List Label) (one : Heard) (done r : After)
          → ((part : List Label) → Begins part group → MayBegin (session {W = W}) words None answers history input part) → taken two ≡ Some (inputs ++ input ∷ []) → said two ≡ Some pieces
          → Leaves moment left_since old two (TurnLeft history (length inputs + length (input ∷ [])) pieces group (one ∷ [])) → Stand moment left_since said may_leave seen two after (history ++ group)
          → Says moment left_since said may_leave seen taken two new one.conn one.bytes done r
          → Turned (session {W = W}) words None answers moment left_since said may_leave seen taken old new history inputs pieces input [] group (one ∷ [])
      turned_said old two new after history inputs pieces input group one done r may took is first stand s = record {
        may = may;
        belong = tt;
        took = s.taken_same ∙ took;
        leaves = then_said old two new history group (length inputs + length (input ∷ [])) pieces one after first stand (say_leaves two new one.conn one.bytes done r inputs input pieces s took is);
      }

      -- a turn whose reply is said
      pub said_done : (old two new : S) (after : Core) (history : List Label) (inputs : List (Input W)) (pieces : List Piece) (input : Input W) (labels : List Label) (reply : Reply) (over : Bool) (r : After)
          → ((part : List Label) → Begins part labels → MayBegin (session {W = W}) words None answers history input part) → taken two ≡ Some (inputs ++ input ∷ []) → said two ≡ Some pieces
          → Leaves moment left_since old two (TurnLeft history (length inputs + length (input ∷ [])) pieces labels (heard (session {W = W}) (conn_of input) (Some reply))) → Stand moment left_since said may_leave seen two after (history ++ labels)
          → IsAnswered (session {W = W}) words None answers history input labels (Some reply) → (session {W = W}).ends input ≡ over
          → Says moment left_since said may_leave seen taken two new (conn_of input) (spoken reply) (follows_end over) r
          → TurnDone (session {W = W}) words None answers moment left_since said may_leave seen taken old new after history inputs pieces r
      said_done old two new after history inputs pieces input labels reply over GoesOn may took is first stand a e s =
          let on : GoesOn ≡ follows_end over = ⊎_elim (λ d. d) (λ f. ⊎_elim (λ g. absurd (cc)) (λ g. absurd (cc)) f) s.which in record {
            turn = record { first = input; more = []; answers = answers; labels = labels; reply = Some reply };
            asked = refl;
            turned = turned_said old two new after history inputs pieces input labels (record { conn = conn_of input; bytes = spoken reply }) (follows_end over) GoesOn may took is first stand s;
            answered = a;
            ends = e ∙ goes_not_over over on;
            stands = stand_said two new (conn_of input) (spoken reply) (follows_end over) GoesOn after (history ++ labels) s stand;
            said_all = say_whole two new (conn_of input) (spoken reply) (follows_end over) GoesOn inputs input pieces s took is on;
          }
      said_done old two new after history inputs pieces input labels reply over Ends may took is first stand a e s =
          let on : Ends ≡ follows_end over = ⊎_elim (λ d. d) (λ f. ⊎_elim (λ g. absurd (cc)) (λ g. absurd (cc)) f) s.which in record {
            turn = record { first = input; more = []; answers = answers; labels = labels; reply = Some reply };
            asked = refl;
            turned = turned_said old two new after history inputs pieces input labels (record { conn = conn_of input; bytes = spoken reply }) (follows_end over) Ends may took is first stand s;
            answered = a;
            ends = e ∙ ends_over over on;
            stands = stand_said two new (conn_of input) (spoken reply) (follows_end over) Ends after (history ++ labels) s stand;
            said_all = say_whole two new (conn_of input) (spoken reply) (follows_end over) Ends inputs input pieces s took is on;
          }
      said_done old two new after history inputs pieces input labels reply over (Stops k) may took is first stand a e s =
          let status : (k ≡ 6) ⊎ (k ≡ 4) = ⊎_elim (λ d. absurd (not_over over k (sym d))) (λ f. ⊎_elim (λ g. inl (cc)) (λ g. inr (cc)) f) s.which in (
            inr (inl (record {
              turn = record { first = input; more = []; answers = answers; labels = labels; reply = Some reply };
              asked = refl;
              turned = turned_said old two new after history inputs pieces input labels (record { conn = conn_of input; bytes = spoken reply }) (follows_end over) (Stops k) may took is first stand s;
              answered = a;
            })),
            ⊎_elim (λ six. (λ zero. absurd (omega arith))) (λ four. (λ zero. absurd (omega arith))) status,
            (λ seven. ⊎_elim (λ six. absurd (omega arith)) (λ four. absurd (omega arith)) status),
            (λ not_four not_seven. ⊎_elim (λ six. s.quiet (ap Stops six) ∙ is) (λ four. absurd (not_four four)) status),
          )

      -- a turn that tells that the journal is full
      pub full_done : (old two new : S) (after : Core) (history : List Label) (inputs : List (Input W)) (pieces : List Piece) (conn : ℕ) (line : List ℕ) (labels : List Label) (size : ℕ) (r : After)
          → ((part : List Label) → Begins part labels → MayBegin (session {W = W}) words None answers history (Asks conn line) part) → taken two ≡ Some (inputs ++ Asks conn line ∷ []) → said two ≡ Some pieces
          → Leaves moment left_since old two (TurnLeft history (length inputs + length (alone (Asks conn line))) pieces labels ((record { conn = conn; bytes = full_bytes size }) ∷ [])) → Stand moment left_since said may_leave seen two after (history ++ labels)
          → IsFilled (AsksNext words None answers history (line_read line) labels) after size
          → Says moment left_since said may_leave seen taken two new conn (full_bytes size) (Stops 7) r
          → TurnDone (session {W = W}) words None answers moment left_since said may_leave seen taken old new after history inputs pieces r
      full_done old two new after history inputs pieces conn line labels size GoesOn may took is first stand filled s = absurd (⊎_elim (λ d. cc) (λ f. ⊎_elim (λ g. cc) (λ g. cc) f) s.which)
      full_done old two new after history inputs pieces conn line labels size Ends may took is first stand filled s = absurd (⊎_elim (λ d. cc) (λ f. ⊎_elim (λ g. cc) (λ g. cc) f) s.which)
      full_done old two new after history inputs pieces conn line labels size (Stops k) may took is first stand filled s =
          let status : (k ≡ 7) ⊎ ((k ≡ 6) ⊎ (k ≡ 4)) = ⊎_elim (λ d. inl (cc)) (λ f. ⊎_elim (λ g. inr (inl (cc))) (λ g. inr (inr (cc))) f) s.which in (
            inr (inr (record {
              input = Asks conn line;
              more = [];
              group = labels;
              line = (record { conn = conn; bytes = full_bytes size }) ∷ [];
              turned = turned_said old two new after history inputs pieces (Asks conn line) labels (record { conn = conn; bytes = full_bytes size }) (Stops 7) (Stops k) may took is first stand s;
              is_full = λ one e. let same : record { conn = conn; bytes = full_bytes size } ≡ one = cc in (size, ap (λ (h : Heard). h.bytes) (sym same), ap (λ (h : Heard). h.conn) (sym same));
            })),
            ⊎_elim (λ seven. (λ zero. absurd (omega arith))) (λ f. ⊎_elim (λ six. (λ zero. absurd (omega arith))) (λ four. (λ zero. absurd (omega arith))) f) status,
            (λ seven. record {
              conn = conn;
              line = line;
              more = [];
              group = labels;
              size = size;
              belong = tt;
              took = s.taken_same ∙ took;
              stands = stand_said two new conn (full_bytes size) (Stops 7) (Stops k) after (history ++ labels) s stand;
              filled = (line_read line, refl, filled);
              told = say_whole two new conn (full_bytes size) (Stops 7) (Stops k) inputs (Asks conn line) pieces s took is (ap Stops seven);
            }),
            (λ not_four not_seven. ⊎_elim (λ seven. absurd (not_seven seven)) (λ f. ⊎_elim (λ six. s.quiet (ap Stops six) ∙ is) (λ four. absurd (not_four four)) f) status),
          )

      module _ (old one : S) (engine : Core) (image : Image) (history : List Label) (inputs : List (Input W)) (pieces : List Piece)
          (seen_is : seen old ≡ Some image) (taken_is : taken old ≡ Some inputs) (said_is : said old ≡ Some pieces) (stands : StandFor image (may_leave old) engine history) where
        come_leaves : (input : Input W) → Comes old one input → Leaves moment left_since old one (λ left now. IsHistory left history × (now ≡ pieces))
        come_leaves input came = next_leaves old one image engine history pieces stands said_is came.stop came.time

        come_stand : (input : Input W) → Comes old one input → Stand moment left_since said may_leave seen one engine (history ++ [])
        come_stand input came = stand_none one image engine history (came.same ∙ seen_is) (still_stands image (may_leave old) (may_leave one) engine history stands came.stop)

        -- the answer to an Ask
        answered_as : (two : S) (after : Core) (conn : ℕ) (line : List ℕ) (result : Result Answered EngineFault) (is : Result Answered EngineFault) → Comes old one (Asks conn line)
            → AskDone words None answers moment left_since said may_leave seen (line_read line) one two engine after (reply_of result) → result ≡ is
            → CommandDone moment left_since said may_leave seen (MayAsk words None answers history (line_read line)) (AsksNext words None answers history (line_read line)) (AskTurn words None answers history (line_read line)) history one two after (reply_of is)
        answered_as two after conn line result is came ask e =
            subst (λ (x : Result Answered EngineFault). CommandDone moment left_since said may_leave seen (MayAsk words None answers history (line_read line)) (AsksNext words None answers history (line_read line)) (AskTurn words None answers history (line_read line)) history one two after (reply_of x)) e
            (ask image (came.same ∙ seen_is) history (still_stands image (may_leave old) (may_leave one) engine history stands came.stop))

        pub asked_reply : (two new : S) (after : Core) (conn : ℕ) (line : List ℕ) (result : Result Answered EngineFault) (answered : Answered) (r : After) → Comes old one (Asks conn line)
            → AskDone words None answers moment left_since said may_leave seen (line_read line) one two engine after (reply_of result) → result ≡ Ok answered → answered.ends ≡ (session {W = W}).ends (Asks conn line)
            → taken two ≡ taken one → said two ≡ said one → Says moment left_since said may_leave seen taken two new conn (spoken answered.reply) (follows_end answered.ends) r
            → TurnDone (session {W = W}) words None answers moment left_since said may_leave seen taken old new after history inputs pieces r
        asked_reply two new after conn line result answered r came ask e over took silent says =
            let done = answered_as two after conn line result (Ok answered) came ask e in
            said_done old two new after history inputs pieces (Asks conn line) done.0 answered.reply answered.ends r
            (λ part b. (line_read line, refl, ask_may history (line_read line) done.0 answered.reply part done.1 b))
            (took ∙ all_taken old one (Asks conn line) inputs came taken_is) (silent ∙ came.silent ∙ said_is)
            (begun old one two history done.0 (length inputs + length (alone (Asks conn line))) pieces (heard (session {W = W}) conn (Some answered.reply)) (come_leaves (Asks conn line) came) (came.silent ∙ said_is) done.2)
            done.3 (line_read line, refl, done.1) (sym over) says

        pub asked_full : (two new : S) (after : Core) (conn : ℕ) (line : List ℕ) (result : Result Answered EngineFault) (size : ℕ) (r : After) → Comes old one (Asks conn line)
            → AskDone words None answers moment left_since said may_leave seen (line_read line) one two engine after (reply_of result) → result ≡ Err (Full size)
            → taken two ≡ taken one → said two ≡ said one → Says moment left_since said may_leave seen taken two new conn (full_bytes size) (Stops 7) r
            → TurnDone (session {W = W}) words None answers moment left_since said may_leave seen taken old new after history inputs pieces r
        asked_full two new after conn line result size r came ask e took silent says =
            let done = answered_as two after conn line result (Err (Full size)) came ask e in
            full_done old two new after history inputs pieces conn line done.0 size r
            (λ part b. (line_read line, refl, done.1 part b))
            (took ∙ all_taken old one (Asks conn line) inputs came taken_is) (silent ∙ came.silent ∙ said_is)
            (begun old one two history done.0 (length inputs + length (alone (Asks conn line))) pieces ((record { conn = conn; bytes = full_bytes size }) ∷ []) (come_leaves (Asks conn line) came) (came.silent ∙ said_is) done.2)
            done.3 done.4 says

        pub asked_broken : (two : S) (after : Core) (conn : ℕ) (line : List ℕ) (result : Result Answered EngineFault) → Comes old one (Asks conn line)
            → AskDone words None answers moment left_since said may_leave seen (line_read line) one two engine after (reply_of result) → result ≡ Err Store → taken two ≡ taken one → said two ≡ said one
            → TurnDone (session {W = W}) words None answers moment left_since said may_leave seen taken old two after history inputs pieces (Stops 3)
        asked_broken two after conn line result came ask e took silent =
            let done = answered_as two after conn line result (Err Store) came ask e in (
              inr (inr (record {
                input = Asks conn line;
                more = [];
                group = done.0;
                line = [];
                turned = record {
                  may = λ part b. (line_read line, refl, done.1 part b);
                  belong = tt;
                  took = took ∙ all_taken old one (Asks conn line) inputs came taken_is;
                  leaves = begun old one two history done.0 (length inputs + length (alone (Asks conn line))) pieces [] (come_leaves (Asks conn line) came) (came.silent ∙ said_is) done.2;
                };
                is_full = λ h f. absurd (cc);
              })),
              (λ zero. absurd (omega arith)),
              (λ seven. absurd (omega arith)),
              (λ not_four not_seven. silent ∙ came.silent ∙ said_is),
            )

        pub too_long_done : (new : S) (conn : ℕ) (r : After) → Comes old one (TooLongInput conn) → Says moment left_since said may_leave seen taken one new conn (spoken TooLong) (follows_end false) r
            → TurnDone (session {W = W}) words None answers moment left_since said may_leave seen taken old new engine history inputs pieces r
        too_long_done new conn r came says =
            said_done old one new engine history inputs pieces (TooLongInput conn) [] TooLong false r
            (λ part b. begins_none part b)
            (all_taken old one (TooLongInput conn) inputs came taken_is) (came.silent ∙ said_is)
            (begun_none old one history (length inputs + length (alone (TooLongInput conn))) pieces (heard (session {W = W}) conn (Some TooLong)) (come_leaves (TooLongInput conn) came))
            (come_stand (TooLongInput conn) came) (refl, refl) refl says

        pub closed_done : Comes old one Closed → TurnDone (session {W = W}) words None answers moment left_since said may_leave seen taken old one engine history inputs pieces Ends
        closed_done came = record {
          turn = record { first = Closed; more = []; answers = answers; labels = []; reply = None };
          asked = refl;
          turned = record {
            may = λ part b. begins_none part b;
            belong = tt;
            took = all_taken old one Closed inputs came taken_is;
            leaves = begun_none old one history (length inputs + length (alone (Closed))) pieces [] (come_leaves Closed came);
          };
          answered = (refl, refl);
          ends = refl;
          stands = come_stand Closed came;
          said_all = came.silent ∙ said_is ∙ ap Some (sym (append-nil pieces));
        }

        -- nothing was taken
        pub none_done : NothingNew (may_leave old) (may_leave one) → ElapsesSilent (moment old) (moment one) (left_since old) (left_since one) (may_leave one) (said old) → taken one ≡ taken old
            → TurnDone (session {W = W}) words None answers moment left_since said may_leave seen taken old one engine history inputs pieces (Stops 4)
        none_done stop time took = (
          inl (record { took = took ∙ taken_is; leaves = next_leaves old one image engine history pieces stands said_is stop time }),
          (λ zero. absurd (omega arith)),
          (λ seven. absurd (omega arith)),
          (λ not_four not_seven. absurd (not_four refl)),
        )
