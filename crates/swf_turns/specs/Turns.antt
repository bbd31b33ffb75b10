-- Turns: inputs, the labels that they add, and the reply that they owe.
use Rattle.std.specs.Prelude.{◌≡◌, ◌⊎◌, ℕ, List, [], ◌∷◌, ◌++◌, Bool, true, false, length, Option, Some, None, Result, Ok, Err, unwrap_or, if◌then◌else◌, flat_map}
use Rattle.std.specs.List.{AllByRecursion}
use Rattle.swf_meaning.specs.declared.label.Label.{Label}
use Rattle.swf_meaning.specs.declared.label.Outcome.{Outcome}
use Rattle.swf_meaning.specs.declared.label.Outcome.TheVariants.{Load, Start, Event, Reply as Replies, Moment}
use Rattle.swf_runs.specs.After.{taken_by}
use Rattle.swf_runs.specs.Runs.{world_at}
use Rattle.swf_meaning.specs.World.{World}
use Rattle.swf_host.specs.declared.host.Input.{Input}
use Rattle.swf_host.specs.declared.host.Input.TheVariants.{Ask as Asks, TooLong as TooLongInput, Work, Idle, Closed}
use Rattle.swf_world.specs.Answers.{answer}
use Rattle.swf_world.specs.Latest.{label_of}
use Rattle.swf_world.specs.Refusals.{refusal}
use Rattle.swf_world.specs.declared.refusal.Refusal.{Refusal}
use Rattle.swf_world.specs.declared.refusal.Refusal.TheVariants.{Refused as NotRead, Duplicate as Used, UnknownDocument as NoDocument, UnknownInstance as NoInstance, Stale as NotOpen, Past as Early, Full as TooMany, NotEnabled}
use Rattle.swf_meaning.specs.declared.label.Answer.{Answer}
use Rattle.swf_meaning.specs.declared.label.Answer.TheVariants.{Status, Pending as Waits, Outbox as Sent, History}
use Rattle.swf_world.specs.declared.query.QueryFault.{QueryFault}
use Rattle.swf_protocol.specs.declared.command.Command.{Command}
use Rattle.swf_protocol.specs.declared.command.Command.TheVariants.{Do, Ask, Settle, Quit}
use Rattle.swf_protocol.specs.declared.command.CommandFault.{CommandFault}
use Rattle.swf_protocol.specs.declared.command.CommandFault.TheVariants as faults
use Rattle.swf_protocol.specs.declared.reply.Reply.{Reply}
use Rattle.swf_protocol.specs.declared.reply.Reply.TheVariants.{Loaded, Started, Accepted, Replied, Reached, Quiet, Budget, Report, Pending, Outbox, History as Labels, Quit as Bye, BadLine, BadEvent, TooLong, Refused, Duplicate, UnknownDocument, UnknownInstance, Stale, Past, Full, Memory}
use Rattle.swf_words.specs.declared.words.Words.{Words}
use Rattle.swf_turns.specs.Behind.{Behind, MayBehind}
use Rattle.swf_turns.specs.Dialect.{Dialect, Spell}
use Rattle.swf_engine.specs.Settling.{Called, is_settled, steps_in}
use Rattle.swf_turns.specs.Settling.{AreSettling}

-- a first input and those that belong to it, what a board answered in the turn, the labels that it adds, and the reply that it owes
pub record Turn (W : Type 0) : Type 0 where
  pub first : Input W
  pub more : List (Input W)
  pub answers : List Called
  pub labels : List Label
  pub reply : Option Reply

-- the reply to an outcome whose label was added at this place, and whose event so many took
abbrev pub accepted : Outcome → ℕ → ℕ → Reply
accepted (Load v) place taken = Loaded place
accepted (Start id key input) place taken = Started place
accepted (Event e) place taken = Accepted place taken
accepted (Replies a r) place taken = Replied place
accepted (Moment moment) place taken = Reached place

-- the reply to an outcome that was refused
abbrev pub refused : Refusal → Reply
refused (NotRead faults) = Refused faults
refused (Used place) = Duplicate place
refused NoDocument = UnknownDocument
refused NoInstance = UnknownInstance
refused NotOpen = Stale
refused (Early now) = Past now
refused TooMany = Full
refused NotEnabled = UnknownInstance

-- an outcome adds its label and is accepted, or it is refused for its first cause and adds nothing
abbrev pub Outcomes : World → Outcome → Option Refusal → List Label → Reply → Type 0
Outcomes w o None labels reply = (labels ≡ label_of w o ∷ []) × (reply ≡ accepted o w.count (taken_by w (label_of w o)))
Outcomes w o (Some r) labels reply = (labels ≡ []) × (reply ≡ refused r)

abbrev pub query_reply : Result Answer QueryFault → Reply
query_reply (Ok (Status v)) = Report v
query_reply (Ok (Waits v)) = Pending v
query_reply (Ok (Sent v)) = Outbox v
query_reply (Ok (History v)) = Labels v
query_reply (Err f) = UnknownInstance

-- the reply to a line that spells no command
abbrev pub fault_reply : CommandFault → Reply
fault_reply (faults.BadLine f) = BadLine f
fault_reply (faults.BadEvent a k) = BadEvent a k
fault_reply faults.OutOfMemory = Memory

-- quiet with the steps that were taken, or a budget that was used up
abbrev pub settle_reply : Bool → ℕ → ℕ → Reply
settle_reply quiet steps limit = if quiet then Quiet steps else Budget limit

-- A settling takes steps, at most so many, until no strand is enabled. Where a board answers calls, it goes on until none is open.
pub record Settled (http : Bool) (before : List Label) (limit : ℕ) (answers : List Called) (labels : List Label) (reply : Reply) : Type 0 where
  pub settling : AreSettling (world_at before) labels limit answers
  pub enough : is_settled http (world_at (before ++ labels)) ≡ false → length (steps_in labels) ≡ limit
  pub told : reply ≡ settle_reply (is_settled http (world_at (before ++ labels))) (length (steps_in labels)) limit

abbrev pub LongTurn : List Label → Reply → Type 0
LongTurn labels reply = (labels ≡ []) × (reply ≡ TooLong)

abbrev pub IsLast : {W : Type 0} → Bool → List (Turn W) → Type 0
IsLast true ts = ts ≡ []
IsLast false ts = Unit {0}

-- the labels of all turns in order
abbrev pub labels_of : {W : Type 0} → List (Turn W) → List Label
labels_of ts = flat_map (λ t. t.labels) ts

-- their inputs
abbrev pub inputs_in : {W : Type 0} → Turn W → List (Input W)
inputs_in t = t.first ∷ t.more

abbrev pub inputs_of : {W : Type 0} → List (Turn W) → List (Input W)
inputs_of ts = flat_map inputs_in ts

-- what the board answered in them
abbrev pub answers_of : {W : Type 0} → List (Turn W) → List Called
answers_of ts = flat_map (λ t. t.answers) ts

-- by the words of the program, the last moment that was told, and what the board answered in the turn
module _ (words : Words) (last : Option ℕ) (answers : List Called) where
  -- with memory, a command adds these labels behind those before it, and owes the reply
  abbrev pub Answers : List Label → Result Command CommandFault → List Label → Reply → Type 0
  Answers before (Err f) labels reply = (labels ≡ []) × (reply ≡ fault_reply f)
  Answers before (Ok (Do o)) labels reply = Behind (λ b ls. Outcomes (world_at b) o (refusal (world_at b) (label_of (world_at b) o)) ls reply) last before labels
  Answers before (Ok (Ask q)) labels reply = (labels ≡ []) × (reply ≡ query_reply (answer before (world_at before) q))
  Answers before (Ok (Settle limit)) labels reply = Settled words.http before (unwrap_or limit words.steps) answers labels reply
  Answers before (Ok Quit) labels reply = (labels ≡ []) × (reply ≡ Bye)

  -- what a command adds that finds no memory: a settling keeps the labels that it added, and `quit` needs none
  abbrev pub Lacks : List Label → Result Command CommandFault → List Label → Type 0
  Lacks before (Ok (Do o)) labels = MayBehind (λ b ls. ls ≡ []) last before labels
  Lacks before (Ok (Settle limit)) labels = AreSettling (world_at before) labels (unwrap_or limit words.steps) answers
  Lacks before (Ok Quit) labels = ⊥
  Lacks before c labels = labels ≡ []

  abbrev pub CommandTurn : List Label → Result Command CommandFault → List Label → Reply → Type 0
  CommandTurn before command labels reply = Answers before command labels reply ⊎ ((reply ≡ Memory) × Lacks before command labels)

  -- the same of what was read, if it was not too long
  abbrev pub AskTurn : List Label → Option (Result Command CommandFault) → List Label → Reply → Type 0
  AskTurn before None labels reply = LongTurn labels reply
  AskTurn before (Some command) labels reply = CommandTurn before command labels reply

-- in a mode
module _ {W : Type 0} (mode : Dialect W) where
  -- these inputs belong to the turn before
  abbrev pub AreMore : List (Input W) → Type 0
  AreMore is = AllByRecursion (λ i. mode.belongs i ≡ true) is

  abbrev pub told_by : Option ℕ → Option ℕ → Option ℕ
  told_by last None = last
  told_by last (Some t) = Some t

  -- the last moment told behind these inputs, where this was the last before them
  abbrev pub last_told : Option ℕ → List (Input W) → Option ℕ
  last_told last [] = last
  last_told last (i ∷ is) = last_told (told_by last (mode.tells i)) is

  module _ (words : Words) where
    -- where those labels came before, the last moment told is this and the board answers so, an input may add these labels and be
    -- replied to so. Neither work nor its absence begins a turn.
    abbrev pub IsAnswered : Option ℕ → List Called → List Label → Input W → List Label → Option Reply → Type 0
    IsAnswered last answers before (Asks conn bytes) labels (Some reply) = Spell mode bytes (λ read. AskTurn words last answers before read labels reply)
    IsAnswered last answers before (Asks conn bytes) labels None = ⊥
    IsAnswered last answers before (TooLongInput conn) labels (Some reply) = LongTurn labels reply
    IsAnswered last answers before (TooLongInput conn) labels None = ⊥
    IsAnswered last answers before (Work w) labels reply = ⊥
    IsAnswered last answers before Idle labels reply = ⊥
    IsAnswered last answers before Closed labels reply = (labels ≡ []) × (reply ≡ None)

    -- each turn is one that the labels and the moment before it allow, and none comes after one that ends
    abbrev pub AreTurns : Option ℕ → List Label → List (Turn W) → Type 0
    AreTurns last before [] = Unit {0}
    AreTurns last before (t ∷ ts) =
        IsAnswered last t.answers before t.first t.labels t.reply × AreMore t.more × IsLast (mode.ends t.first) ts
        × AreTurns (last_told last (inputs_in t)) (before ++ t.labels) ts
