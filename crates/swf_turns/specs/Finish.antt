-- How a session ends.
use Rattle.std.specs.Prelude.{◌≡◌, ◌⊎◌, ℕ, ◌-◌, ◌^◌, List, [], ◌∷◌, ◌++◌, length, true, Option, Some, None}
use Rattle.swf_store.specs.declared.image.Image.{Image}
use Rattle.swf_store.specs.declared.said.Piece.{Piece}
use Rattle.swf_meaning.specs.declared.label.Label.{Label}
use Rattle.swf_host.specs.declared.host.Input.{Input}
use Rattle.swf_engine.specs.Core.{Core}
use Rattle.swf_engine.specs.History.{IsHistory}
use Rattle.swf_engine.specs.Settling.{Called}
use Rattle.swf_engine.specs.declared.fault.EngineFault.{EngineFault}
use Rattle.swf_engine.specs.declared.fault.EngineFault.TheVariants.{Store, Damaged, Full, OutOfMemory}
use Rattle.swf_store.specs.Said.{and_piece}
use Rattle.swf_store.specs.Stops.{Leaves}
use Rattle.swf_turns.specs.Blame.{IsBlamed}
use Rattle.swf_protocol.specs.Spoken.{damaged_bytes}
use Rattle.swf_turns.specs.Dialect.{Dialect}
use Rattle.swf_turns.specs.Turns.{Turn, AreTurns, last_told, labels_of, inputs_of, answers_of}
use Rattle.swf_turns.specs.Owed.{AreSaid, ArePrompt}
use Rattle.swf_turns.specs.Follows.{IsOneTurn}
use Rattle.swf_turns.specs.Moments.{IsMoment}
use Rattle.swf_turns.specs.Steps.{Stand, IsTold, Says}
use Rattle.swf_turns.specs.declared.saying.After.TheVariants.{Stops}
use Rattle.swf_words.specs.declared.words.Words.{Words}

-- the last turn ends the input
abbrev pub IsOver : {W : Type 0} → Dialect W → List (Turn W) → Type 0
IsOver mode [] = ⊥
IsOver mode (t ∷ []) = mode.ends t.first ≡ true
IsOver mode (t ∷ u ∷ ts) = IsOver mode (u ∷ ts)

-- how many inputs a session takes
abbrev pub most_turns : ℕ
most_turns = 2 ^ 64 - 1

-- Read to its end: the inputs that were taken are turns, each with its labels in the history that every image stands for, and
-- each with its reply said whole.
pub record Finished {W : Type 0} (mode : Dialect W) (words : Words) (before : List Label) (first : List (Input W)) (answers : List Called) (said : List Piece) (taken_now : Option (List (Input W))) (said_now : Option (List Piece)) (may_leave : Image → Type 0) : Type 0 where
  pub turns : List (Turn W)
  pub allowed : AreTurns mode words None before turns
  pub over : IsOver mode turns ⊎ (length turns ≡ most_turns)
  pub taken : taken_now ≡ Some (first ++ inputs_of turns)
  pub asked : answers ≡ answers_of turns
  pub whole : List Piece
  pub told : said_now ≡ Some (said ++ whole)
  pub said_are : AreSaid mode (length first) turns whole
  pub prompt : ArePrompt mode (length first) turns whole
  pub stands : (image : Image) → may_leave image → IsHistory image (before ++ labels_of turns)

-- Where the store failed or memory was missing, whole replies were said and no part of another, and at most the inputs of one turn more
-- were taken.
pub record IsShort {W : Type 0} (mode : Dialect W) (words : Words) (before : List Label) (first : List (Input W)) (answers : List Called) (said : List Piece) (taken_now : Option (List (Input W))) (said_now : Option (List Piece)) : Type 0 where
  pub turns : List (Turn W)
  pub allowed : AreTurns mode words None before turns
  pub more : List (Input W)
  pub most : IsOneTurn mode more
  pub taken : taken_now ≡ Some ((first ++ inputs_of turns) ++ more)
  -- what the board answered behind the turns
  pub heard : List Called
  pub asked : answers ≡ answers_of turns ++ heard
  pub whole : List Piece
  pub told : said_now ≡ Some (said ++ whole)
  pub said_are : AreSaid mode (length first) turns whole
  pub prompt : ArePrompt mode (length first) turns whole

-- the line that tells of damage was said to connection 0, and no input was taken
pub record TellsDamage {W : Type 0} (at : ℕ) (first : List (Input W)) (said : List Piece) (taken_now : Option (List (Input W))) (said_now : Option (List Piece)) : Type 0 where
  pub taken : taken_now ≡ Some first
  pub told : said_now ≡ Some (and_piece 0 (damaged_bytes at) (length first) said)

-- what an engine that was not opened is answered, and whose fault it is
abbrev pub ClosesWith : EngineFault → ℕ → ℕ → ℕ → ℕ → ℕ → Type 0
ClosesWith Store status host host_now store store_now = (status ≡ 3) × (host_now ≡ host) × (store_now ≡ store)
ClosesWith (Damaged at) status host host_now store store_now = ((status ≡ 5) ⊎ (status ≡ 6) ⊎ (status ≡ 4)) × IsBlamed status host host_now store store_now
ClosesWith (Full size) status host host_now store store_now = ⊥
ClosesWith OutOfMemory status host host_now store store_now = (status ≡ 6) × (host_now ≡ host) × (store_now ≡ store)

module _ {W S : Type 0} (moment : S → ℕ) (left_since : S → ℕ → Image → List Piece → Type 0) (said : S → Option (List Piece)) (may_leave : S → Image → Type 0) (seen : S → Option Image) (taken : S → Option (List (Input W))) where
  -- only damage is told, to connection 0
  abbrev pub Tells : EngineFault → S → S → ℕ → Type 0
  Tells Store old new status = new ≡ old
  Tells (Damaged at) old new status = Says moment left_since said may_leave seen taken old new 0 (damaged_bytes at) (Stops 5) (Stops status)
  Tells (Full size) old new status = ⊥
  Tells OutOfMemory old new status = new ≡ old

module _ {W : Type 0} (mode : Dialect W) (words : Words) {S : Type 0} (moment : S → ℕ) (left_since : S → ℕ → Image → List Piece → Type 0) (said : S → Option (List Piece)) (may_leave : S → Image → Type 0) (seen : S → Option Image) (taken : S → Option (List (Input W))) where
  -- Where the journal is full: turns were taken and answered, and one command more was asked, whose next label is legal and has no
  -- room. That was said whole, last, to who asked.
  pub record TellsFull (new : S) (before : List Label) (first : List (Input W)) (answers : List Called) (pieces : List Piece) : Type 0 where
    pub engine : Core
    pub turns : List (Turn W)
    pub allowed : AreTurns mode words None before turns
    -- what the board answered behind the turns
    pub heard : List Called
    pub asked : answers ≡ answers_of turns ++ heard
    pub whole : List Piece
    pub said_are : AreSaid mode (length first) turns whole
    pub prompt : ArePrompt mode (length first) turns whole
    pub told : IsTold mode words (last_told mode None (inputs_of turns)) heard moment left_since said may_leave seen taken new engine (before ++ labels_of turns) (first ++ inputs_of turns) (pieces ++ whole)

  -- What turns make of a store that stands for a history since some state. `all` are the inputs in the end.
  pub record Ran (start new : S) (before : List Label) (first : List (Input W)) (answers : List Called) (pieces : List Piece) (status : ℕ) : Type 0 where
    pub all : List (Input W)
    pub took : taken new ≡ Some all
    pub leaves : Leaves moment left_since start new (IsMoment mode words before first pieces all answers)
    pub finish : status ≡ 0 → Finished mode words before first answers pieces (taken new) (said new) (may_leave new)
    pub full : status ≡ 7 → TellsFull new before first answers pieces
    pub short : (status ≡ 3) ⊎ (status ≡ 6) → IsShort mode words before first answers pieces (taken new) (said new)

  -- the same for whatever the store stands for
  abbrev pub RunsOn : S → S → Core → List Called → ℕ → Type 0
  RunsOn old new engine answers status = (start : S) (before : List Label) (first : List (Input W)) (pieces : List Piece) → taken old ≡ Some first → said old ≡ Some pieces
      → Stand moment left_since said may_leave seen old engine before → Leaves moment left_since start old (IsMoment mode words before first pieces first [])
      → Ran start new before first answers pieces status
