-- The calls of the store that a session makes: those of one opening, and in each turn those of the one call of the engine that its input
-- asks for.
use Rattle.std.specs.Prelude.{◌≡◌, ◌⊎◌, ◌++◌, ◌∷◌, [], ℕ, zero, suc, List, Option, Some, None, Result, Ok, Err, unwrap_or}
use Rattle.std.specs.Option.{ForSome}
use Rattle.swf_store.specs.declared.call.Call.{Call}
use Rattle.swf_store.specs.declared.image.Image.{Image}
use Rattle.swf_store.specs.declared.said.Piece.{Piece}
use Rattle.swf_meaning.specs.declared.label.Answer.{Answer}
use Rattle.swf_host.specs.declared.host.Input.{Input}
use Rattle.swf_host.specs.declared.host.Input.TheVariants.{Ask as Asks, TooLong, Work, Idle, Closed}
use Rattle.swf_world.specs.Latest.{label_of}
use Rattle.swf_world.specs.declared.query.QueryFault.{QueryFault}
use Rattle.swf_engine.specs.Answers.{Settles}
use Rattle.swf_engine.specs.Core.{Core}
use Rattle.swf_engine.specs.EngineCalls.{OpenCalls, QueryCalls, SubmitCalls}
use Rattle.swf_engine.specs.Settling.{Called}
use Rattle.swf_engine.specs.declared.settle.Settled.{Settled}
use Rattle.swf_engine.specs.declared.engine.Submitted.{Submitted}
use Rattle.swf_engine.specs.declared.fault.EngineFault.{EngineFault}
use Rattle.swf_protocol.specs.declared.command.Command.{Command}
use Rattle.swf_protocol.specs.declared.command.Command.TheVariants.{Do, Ask, Settle, Quit}
use Rattle.swf_protocol.specs.declared.command.CommandFault.{CommandFault}
use Rattle.swf_turns.specs.Dialect.{line_read}
use Rattle.swf_words.specs.declared.words.Words.{Words}

module _ (words : Words) {S : Type 0} (moment : S → ℕ) (left_since : S → ℕ → Image → List Piece → Type 0) (said : S → Option (List Piece)) (may_leave : S → Image → Type 0) (seen : S → Option Image) (calls : S → Option (List Call)) where
  -- those of handing an outcome in, of a query, or of a settling, whichever the command asks for
  abbrev pub AskedCalls : Result Command CommandFault → S → S → Core → Core → Type 0
  AskedCalls (Ok (Do o)) old new before after = (r : Result Submitted EngineFault) × SubmitCalls (calls old) (calls new) before.gate after.gate (label_of before.world o) r
  AskedCalls (Ok (Ask q)) old new before after = (r : Result (Result Answer QueryFault) EngineFault) × QueryCalls q (calls old) (calls new) r
  AskedCalls (Ok (Settle limit)) old new before after =
      (r : Result Settled EngineFault) × (called : List Called) × Settles moment left_since said may_leave seen calls words.http called old new before after (unwrap_or limit words.steps) r
  AskedCalls (Ok Quit) old new before after = ⊥
  AskedCalls (Err f) old new before after = ⊥

  -- a command makes those that it asks for, or none
  abbrev pub CommandCalls : Result Command CommandFault → S → S → Core → Core → Type 0
  CommandCalls command old new before after = AskedCalls command old new before after ⊎ (calls new ≡ calls old)

  -- of what was read, if it was not too long
  abbrev pub ReadCalls : Option (Result Command CommandFault) → S → S → Core → Core → Type 0
  ReadCalls None old new before after = calls new ≡ calls old
  ReadCalls (Some command) old new before after = CommandCalls command old new before after

  -- those of a line lie between taking it and saying its reply, which make none
  pub record LineCalls (line : List ℕ) (old new : S) (before after : Core) : Type 0 where
    pub taken : S
    pub answered : S
    pub take : calls taken ≡ calls old
    pub made : ReadCalls (line_read line) taken answered before after
    pub say : calls new ≡ calls answered

  abbrev pub InputCalls : {W : Type 0} → Input W → S → S → Core → Core → Type 0
  InputCalls (Asks conn line) old new before after = LineCalls line old new before after
  InputCalls (TooLong conn) old new before after = calls new ≡ calls old
  InputCalls (Work w) old new before after = calls new ≡ calls old
  InputCalls Idle old new before after = calls new ≡ calls old
  InputCalls Closed old new before after = calls new ≡ calls old

  module _ {W : Type 0} (taken : S → Option (List (Input W))) where
    -- an input was taken, and these are its calls; or none was taken, and no call was made
    abbrev pub TurnCalls : S → S → Core → Core → Type 0
    TurnCalls old new before after =
        ((input : Input W) × (ForSome (taken old) (λ inputs. taken new ≡ Some (inputs ++ input ∷ []))) × InputCalls input old new before after) ⊎ (calls new ≡ calls old)

    -- those of so many turns, one behind the other
    abbrev pub TurnsCalls : ℕ → S → S → Core → Core → Type 0
    TurnsCalls zero old new before after = calls new ≡ calls old
    TurnsCalls (suc n) old new before after = (now : S) × (engine : Core) × TurnsCalls n old now before engine × TurnCalls now new engine after

    -- one opening, and then turns where it gave an engine
    pub record SessionCalls (old new : S) : Type 0 where
      pub opened : S
      pub answer : Result Core EngineFault
      pub opening : OpenCalls (calls old) (calls opened) answer
      pub behind : (calls new ≡ calls opened) ⊎ ((engine : Core) × (after : Core) × (turns : ℕ) × (answer ≡ Ok engine) × TurnsCalls turns opened new engine after)
