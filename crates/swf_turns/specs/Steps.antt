-- What one turn of a session does: to the history, to what was taken and said, and at a stop at any moment of it.
use Rattle.std.specs.Prelude.{◌≡◌, ◌⊎◌, ◌≢◌, ℕ, ◌+◌, List, [], ◌∷◌, ◌++◌, length, Bool, true, false, Option, Some, None, Result, Ok, Err}
use Rattle.std.specs.Option.{ForSome}
use Rattle.swf_store.specs.declared.image.Image.{Image}
use Rattle.swf_store.specs.declared.said.Piece.{Piece}
use Rattle.swf_store.specs.Disk.{NothingNew}
use Rattle.swf_store.specs.Said.{SaidPart, and_piece}
use Rattle.swf_store.specs.Stops.{Leaves, LeavesOnly}
use Rattle.swf_meaning.specs.declared.label.Label.{Label}
use Rattle.swf_host.specs.declared.host.Input.{Input}
use Rattle.swf_host.specs.declared.host.Input.TheVariants.{Ask as Asks}
use Rattle.swf_engine.specs.declared.fault.EngineFault.{EngineFault}
use Rattle.swf_engine.specs.declared.fault.EngineFault.TheVariants.{Store, Damaged, Full, OutOfMemory}
use Rattle.swf_engine.specs.Core.{Core, StandFor}
use Rattle.swf_engine.specs.History.{IsHistory, Begins, IsGrown}
use Rattle.swf_engine.specs.Moves.{IsFull}
use Rattle.swf_engine.specs.Settling.{Called}
use Rattle.swf_meaning.specs.declared.label.Answer.{Answer}
use Rattle.swf_meaning.specs.declared.label.Answer.TheVariants.{Status, Pending as Waits, Outbox as Sent, History}
use Rattle.swf_world.specs.Refusals.{refusal}
use Rattle.swf_world.specs.declared.query.QueryFault.{QueryFault}
use Rattle.swf_world.specs.declared.query.QueryFault.TheVariants.{UnknownInstance, OutOfMemory as NoMemory}
use Rattle.swf_protocol.specs.declared.command.Command.{Command}
use Rattle.swf_protocol.specs.declared.command.CommandFault.{CommandFault}
use Rattle.swf_protocol.specs.declared.reply.Reply.{Reply}
use Rattle.swf_protocol.specs.declared.reply.Reply.TheVariants.{Report, Pending, Outbox, History as Labels, UnknownInstance as NoInstance, Memory}
use Rattle.swf_turns.specs.declared.answer.Answered.{Answered}
use Rattle.swf_turns.specs.declared.saying.After.{After}
use Rattle.swf_turns.specs.declared.saying.After.TheVariants.{GoesOn, Ends, Stops}
use Rattle.swf_turns.specs.Dialect.{Dialect, Spell}
use Rattle.swf_turns.specs.Turns.{Turn, AreMore, CommandTurn, AskTurn, IsAnswered, inputs_in}
use Rattle.swf_turns.specs.Owed.{Heard, conn_of, owed, piece_of}
use Rattle.swf_turns.specs.Follows.{AddsNext, AsksNext, MayAdd, MayAsk, MayBegin}
use Rattle.swf_words.specs.declared.words.Words.{Words}

-- a label that comes next and would be taken, and whose frame would end past the most bytes of a journal
pub record IsFilled (Next : Label → Type 0) (engine : Core) (size : ℕ) : Type 0 where
  pub label : Label
  pub next : Next label
  pub legal : refusal engine.world label ≡ None
  pub full : IsFull engine (label ∷ []) size

-- the reply of an answer
abbrev pub reply_of : Result Answered EngineFault → Result Reply EngineFault
reply_of (Ok answered) = Ok answered.reply
reply_of (Err fault) = Err fault

-- a call that found no memory is answered so, and any other fault stays
abbrev pub or_memory : EngineFault → Result Reply EngineFault
or_memory Store = Err Store
or_memory (Damaged at) = Err (Damaged at)
or_memory (Full size) = Err (Full size)
or_memory OutOfMemory = Ok Memory

-- the reply to a query by its answer, or that no memory was found
abbrev pub queried : Result Answer QueryFault → Reply
queried (Ok (Status v)) = Report v
queried (Ok (Waits v)) = Pending v
queried (Ok (Sent v)) = Outbox v
queried (Ok (History v)) = Labels v
queried (Err UnknownInstance) = NoInstance
queried (Err NoMemory) = Memory

-- of a call of the engine nothing is left but a fault of the store, damage or a full journal
abbrev pub IsBreak : {T : Type 0} → Result T EngineFault → Type 0
IsBreak (Ok x) = Unit {0}
IsBreak (Err Store) = Unit {0}
IsBreak (Err (Damaged at)) = Unit {0}
IsBreak (Err (Full size)) = Unit {0}
IsBreak (Err OutOfMemory) = ⊥

-- whether what follows a turn is the end of the input
abbrev pub follows_end : Bool → After
follows_end true = Ends
follows_end false = GoesOn

-- the status of what follows; 0 where the program goes on
abbrev pub status_of : After → ℕ
status_of GoesOn = 0
status_of Ends = 0
status_of (Stops s) = s

-- A stop in a turn with which so many inputs were taken: the image stands for the history and the first labels of the group, and
-- nothing was said; or for all of them, and a part of these bytes was said, if there are some.
abbrev pub TurnLeft : List Label → ℕ → List Piece → List Label → List Heard → Image → List Piece → Type 0
TurnLeft history inputs pieces group line image now =
    (IsGrown history group image × (now ≡ pieces))
    ⊎ ((one : Heard) × (line ≡ one ∷ []) × IsHistory image (history ++ group) × SaidPart one.conn one.bytes inputs pieces now)

-- a turn stops the program only where the store or the host failed, at damage, for want of memory, or at a full journal
abbrev pub IsStop : After → Type 0
IsStop GoesOn = Unit {0}
IsStop Ends = Unit {0}
IsStop (Stops s) = (s ≡ 3) ⊎ (s ≡ 4) ⊎ (s ≡ 5) ⊎ (s ≡ 6) ⊎ (s ≡ 7)

module _ {S : Type 0} (moment : S → ℕ) (left_since : S → ℕ → Image → List Piece → Type 0) (said : S → Option (List Piece)) (may_leave : S → Image → Type 0) (seen : S → Option Image) where
  -- a call that says nothing: at every moment of it an image stands for the history and the first labels of the group
  abbrev pub Passes : S → S → List Label → List Label → Type 0
  Passes old new history group = LeavesOnly moment left_since said old new (IsGrown history group)

  -- engine and store stand for this history
  abbrev pub Stand : S → Core → List Label → Type 0
  Stand host engine history = (image : Image) × (seen host ≡ Some image) × StandFor image (may_leave host) engine history

  -- they stand for some history
  abbrev pub IsSound : S → Core → Type 0
  IsSound host engine = (history : List Label) × Stand host engine history

  -- what follows a turn is no damage, and the next turn begins where they stand for a history
  abbrev pub StaysSound : S → Core → After → Type 0
  StaysSound host engine GoesOn = IsSound host engine
  StaysSound host engine Ends = Unit {0}
  StaysSound host engine (Stops s) = s ≢ 5

  -- a command was done, which added labels and owes the reply; or the store failed, or the journal is full, behind some labels
  abbrev pub CommandDone : (List Label → Type 0) → (List Label → Label → Type 0) → (List Label → Reply → Type 0) → List Label → S → S → Core → Result Reply EngineFault → Type 0
  CommandDone May Next Does history old new after (Ok reply) = (labels : List Label) × Does labels reply × Passes old new history labels × Stand new after (history ++ labels)
  CommandDone May Next Does history old new after (Err Store) = (labels : List Label) × ((part : List Label) → Begins part labels → May part) × Passes old new history labels
  CommandDone May Next Does history old new after (Err (Damaged at)) = ⊥
  CommandDone May Next Does history old new after (Err (Full size)) =
      (labels : List Label) × ((part : List Label) → Begins part labels → May part) × Passes old new history labels × Stand new after (history ++ labels) × IsFilled (Next labels) after size
  CommandDone May Next Does history old new after (Err OutOfMemory) = ⊥

  module _ {W : Type 0} (taken : S → Option (List (Input W))) where
    -- bytes were said to a connection, or they are not made for want of memory, or the host failed
    pub record Says (old new : S) (conn : ℕ) (line : List ℕ) (done : After) (result : After) : Type 0 where
      pub whole : ForSome (taken old) (λ inputs. ForSome (said old) (λ pieces. result ≡ done → said new ≡ Some (and_piece conn line (length inputs) pieces)))
      pub leaves : ForSome (taken old) (λ inputs. ForSome (said old) (λ pieces. Leaves moment left_since old new (λ image now. may_leave old image × SaidPart conn line (length inputs) pieces now)))
      -- for want of memory nothing is said
      pub quiet : result ≡ Stops 6 → said new ≡ said old
      pub which : (result ≡ done) ⊎ (result ≡ Stops 6) ⊎ (result ≡ Stops 4)
      pub stop : NothingNew (may_leave old) (may_leave new)
      pub seen_same : seen new ≡ seen old
      pub taken_same : taken new ≡ taken old

    -- no input was taken
    pub record Nothing (old new : S) (history : List Label) (inputs : List (Input W)) (pieces : List Piece) : Type 0 where
      pub took : taken new ≡ Some inputs
      pub leaves : Leaves moment left_since old new (λ image now. IsHistory image history × (now ≡ pieces))

-- by the words of the program, the last moment that was told, and what the board answered in the turn
module _ (words : Words) (last : Option ℕ) (answers : List Called) {S : Type 0} (moment : S → ℕ) (left_since : S → ℕ → Image → List Piece → Type 0) (said : S → Option (List Piece)) (may_leave : S → Image → Type 0) (seen : S → Option Image) where
  -- where engine and store stood for a history before it, a command was answered so
  abbrev pub LineDone : Result Command CommandFault → S → S → Core → Core → Result Reply EngineFault → Type 0
  LineDone command old new before after result = ForSome (seen old) (λ image. (history : List Label) → StandFor image (may_leave old) before history
      → CommandDone moment left_since said may_leave seen (MayAdd words last answers history command) (AddsNext words last answers history command) (CommandTurn words last answers history command) history old new after result)

  -- the same of what was read of an Ask, which may be too long
  abbrev pub AskDone : Option (Result Command CommandFault) → S → S → Core → Core → Result Reply EngineFault → Type 0
  AskDone read old new before after result = ForSome (seen old) (λ image. (history : List Label) → StandFor image (may_leave old) before history
      → CommandDone moment left_since said may_leave seen (MayAsk words last answers history read) (AsksNext words last answers history read) (AskTurn words last answers history read) history old new after result)

-- the same in a mode
module _ {W : Type 0} (mode : Dialect W) (words : Words) (last : Option ℕ) (answers : List Called) {S : Type 0} (moment : S → ℕ) (left_since : S → ℕ → Image → List Piece → Type 0) (said : S → Option (List Piece)) (may_leave : S → Image → Type 0) (seen : S → Option Image) (taken : S → Option (List (Input W))) where
  -- A turn has taken this input and those that belong to it. While it added the group nothing was said, and then a part of these
  -- bytes, if there are some.
  pub record Turned (old new : S) (history : List Label) (inputs : List (Input W)) (pieces : List Piece) (input : Input W) (more : List (Input W)) (group : List Label) (line : List Heard) : Type 0 where
    pub may : (part : List Label) → Begins part group → MayBegin mode words last answers history input part
    pub belong : AreMore mode more
    pub took : taken new ≡ Some (inputs ++ input ∷ more)
    pub leaves : Leaves moment left_since old new (TurnLeft history (length inputs + length (input ∷ more)) pieces group line)

  -- the turn is whole: its labels were added and its reply was said
  pub record Whole (old new : S) (after : Core) (history : List Label) (inputs : List (Input W)) (pieces : List Piece) (over : Bool) : Type 0 where
    pub turn : Turn W
    pub asked : turn.answers ≡ answers
    pub turned : Turned old new history inputs pieces turn.first turn.more turn.labels (owed mode turn)
    pub answered : IsAnswered mode words last turn.answers history turn.first turn.labels turn.reply
    pub ends : mode.ends turn.first ≡ over
    pub stands : Stand moment left_since said may_leave seen new after (history ++ turn.labels)
    pub said_all : said new ≡ Some (pieces ++ piece_of (length inputs + length (inputs_in turn)) (owed mode turn))

  -- its labels were added, and its reply was not said whole
  pub record Unsaid (old new : S) (history : List Label) (inputs : List (Input W)) (pieces : List Piece) : Type 0 where
    pub turn : Turn W
    pub asked : turn.answers ≡ answers
    pub turned : Turned old new history inputs pieces turn.first turn.more turn.labels (owed mode turn)
    pub answered : IsAnswered mode words last turn.answers history turn.first turn.labels turn.reply

  -- the store failed, or the journal is full, of which a line was said
  pub record Broken (old new : S) (history : List Label) (inputs : List (Input W)) (pieces : List Piece) : Type 0 where
    pub input : Input W
    pub more : List (Input W)
    pub group : List Label
    pub line : List Heard
    pub turned : Turned old new history inputs pieces input more group line
    pub is_full : (one : Heard) → line ≡ one ∷ [] → (size : ℕ) × (one.bytes ≡ mode.says_full size) × (one.conn ≡ conn_of input)

  -- What is left where the journal is full, behind this history: a line was asked which has added some labels, engine and store
  -- stand for them, and its next label does not fit. That was said to who asked.
  pub record IsTold (new : S) (after : Core) (history : List Label) (inputs : List (Input W)) (pieces : List Piece) : Type 0 where
    pub conn : ℕ
    pub line : List ℕ
    pub more : List (Input W)
    pub group : List Label
    pub size : ℕ
    pub belong : AreMore mode more
    pub took : taken new ≡ Some (inputs ++ Asks conn line ∷ more)
    pub stands : Stand moment left_since said may_leave seen new after (history ++ group)
    pub filled : Spell mode line (λ read. IsFilled (AsksNext words last answers history read group) after size)
    pub told : said new ≡ Some (and_piece conn (mode.says_full size) (length inputs + length (Asks conn line ∷ more)) pieces)

  abbrev pub TurnDone : S → S → Core → List Label → List (Input W) → List Piece → After → Type 0
  TurnDone old new after history inputs pieces GoesOn = Whole old new after history inputs pieces false
  TurnDone old new after history inputs pieces Ends = Whole old new after history inputs pieces true
  TurnDone old new after history inputs pieces (Stops s) =
      (Nothing moment left_since said may_leave seen taken old new history inputs pieces ⊎ Unsaid old new history inputs pieces ⊎ Broken old new history inputs pieces)
      × (s ≢ 0) × (s ≡ 7 → IsTold new after history inputs pieces) × (s ≢ 4 → s ≢ 7 → said new ≡ Some pieces)
