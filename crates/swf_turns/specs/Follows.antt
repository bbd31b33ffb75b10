-- What inputs and replies are to a history: turns, of which the last may have begun.
use Rattle.std.specs.Prelude.{◌≡◌, ◌⊎◌, List, [], ◌∷◌, ◌++◌, ℕ, false, Option, Some, None, Result, Ok, unwrap_or}
use Rattle.swf_meaning.specs.declared.label.Label.{Label}
use Rattle.swf_runs.specs.Runs.{world_at}
use Rattle.swf_host.specs.declared.host.Input.{Input}
use Rattle.swf_host.specs.declared.host.Input.TheVariants.{Ask as Asks, TooLong, Work, Idle, Closed}
use Rattle.swf_engine.specs.Settling.{Called}
use Rattle.swf_world.specs.Latest.{label_of}
use Rattle.swf_world.specs.Refusals.{refusal}
use Rattle.swf_protocol.specs.declared.command.Command.{Command}
use Rattle.swf_protocol.specs.declared.command.Command.TheVariants.{Do, Settle}
use Rattle.swf_protocol.specs.declared.command.CommandFault.{CommandFault}
use Rattle.swf_turns.specs.Behind.{Behind, MayBehind}
use Rattle.swf_turns.specs.Dialect.{Dialect, Spell}
use Rattle.swf_turns.specs.Owed.{Heard, replies_of}
use Rattle.swf_turns.specs.Settling.{AreSettling}
use Rattle.swf_turns.specs.Turns.{Turn, AreMore, AreTurns, last_told, labels_of, inputs_of, answers_of}
use Rattle.swf_words.specs.declared.words.Words.{Words}

-- by the words of the program, the last moment that was told, and what the board answered in the turn
module _ (words : Words) (last : Option ℕ) (answers : List Called) where
  -- a command has added these labels so far
  abbrev pub MayAdd : List Label → Result Command CommandFault → List Label → Type 0
  MayAdd before (Ok (Do o)) part =
      MayBehind (λ b ls. (ls ≡ []) ⊎ ((refusal (world_at b) (label_of (world_at b) o) ≡ None) × (ls ≡ label_of (world_at b) o ∷ []))) last before part
  MayAdd before (Ok (Settle limit)) part = AreSettling (world_at before) part (unwrap_or limit words.steps) answers
  MayAdd before command part = part ≡ []

  -- the label that a command adds next, behind these that it has added
  abbrev pub AddsNext : List Label → Result Command CommandFault → List Label → Label → Type 0
  AddsNext before (Ok (Do o)) part label = Behind (λ b ls. (ls ≡ []) ⊎ (ls ≡ label_of (world_at b) o ∷ [])) last before (part ++ label ∷ [])
  AddsNext before (Ok (Settle limit)) part label = AreSettling (world_at before) (part ++ label ∷ []) (unwrap_or limit words.steps) answers
  AddsNext before command part label = ⊥

  -- the same of what was read, if it was not too long
  abbrev pub MayAsk : List Label → Option (Result Command CommandFault) → List Label → Type 0
  MayAsk before None part = part ≡ []
  MayAsk before (Some command) part = MayAdd before command part

  abbrev pub AsksNext : List Label → Option (Result Command CommandFault) → List Label → Label → Type 0
  AsksNext before None part label = ⊥
  AsksNext before (Some command) part label = AddsNext before command part label

-- in a mode, by the words of the program
module _ {W : Type 0} (mode : Dialect W) where
  -- no turn ends the input
  abbrev pub AreOpen : List (Turn W) → Type 0
  AreOpen [] = Unit {0}
  AreOpen (t ∷ ts) = (mode.ends t.first ≡ false) × AreOpen ts

  -- these are no more than the inputs of one turn
  abbrev pub IsOneTurn : List (Input W) → Type 0
  IsOneTurn [] = Unit {0}
  IsOneTurn (i ∷ more) = AreMore mode more

  module _ (words : Words) where
    -- an input has added these labels so far
    abbrev pub MayBegin : Option ℕ → List Called → List Label → Input W → List Label → Type 0
    MayBegin last answers before (Asks conn bytes) part = Spell mode bytes (λ read. MayAsk words last answers before read part)
    MayBegin last answers before (TooLong conn) part = part ≡ []
    MayBegin last answers before (Work w) part = ⊥
    MayBegin last answers before Idle part = ⊥
    MayBegin last answers before Closed part = part ≡ []

    -- nothing has begun behind these turns, or one more turn: by its inputs so far and what the board answered it has added these labels
    abbrev pub IsGoing : List Label → List (Turn W) → List (Input W) → List Called → List Label → Type 0
    IsGoing before ts [] answers part = (answers ≡ []) × (part ≡ [])
    IsGoing before ts (i ∷ more) answers part = AreOpen ts × AreMore mode more × MayBegin (last_told mode None (inputs_of ts)) answers (before ++ labels_of ts) i part

    -- The inputs fall into turns, each with the labels that it adds, behind the history before them. The replies are those of the
    -- first of the turns. Of a turn that has begun a part of the labels may be there.
    pub record Follows (before : List Label) (inputs : List (Input W)) (answers : List Called) (replies : List Heard) (history : List Label) : Type 0 where
      pub answered : List (Turn W)
      -- turns whose labels are whole, and whose replies are not
      pub unsaid : List (Turn W)
      pub «open» : List (Input W)
      pub part : List Label
      -- what the board answered in the turn that has begun
      pub heard : List Called
      pub allowed : AreTurns mode words None before (answered ++ unsaid)
      pub going : IsGoing before (answered ++ unsaid) «open» heard part
      pub inputs_are : inputs ≡ inputs_of (answered ++ unsaid) ++ «open»
      pub answers_are : answers ≡ answers_of (answered ++ unsaid) ++ heard
      pub labels_are : history ≡ before ++ (labels_of (answered ++ unsaid) ++ part)
      pub replies_are : replies ≡ replies_of mode answered
