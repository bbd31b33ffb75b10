-- Where engine and store stand for a history, no turn finds damage, and they stand for one after it.
use Rattle.std.proofs.Common.{◌≡◌, ◌∙◌, ap, sym, subst, ⊎_elim, ℕ, List, [], ◌++◌, Bool, true, false, Option, None, Ok, Err, Result, arith}
use Rattle.swf_store.specs.declared.image.Image.{Image}
use Rattle.swf_store.specs.declared.said.Piece.{Piece}
use Rattle.swf_store.specs.Disk.{NothingNew}
use Rattle.swf_host.specs.declared.host.Input.{Input}
use Rattle.swf_engine.specs.declared.fault.EngineFault.{EngineFault}
use Rattle.swf_engine.specs.declared.fault.EngineFault.TheVariants.{Store, Damaged, Full, OutOfMemory}
use Rattle.swf_engine.specs.Settling.{Called}
use Rattle.swf_engine.specs.Core.{Core}
use Rattle.swf_protocol.specs.declared.command.Command.{Command}
use Rattle.swf_protocol.specs.declared.command.CommandFault.{CommandFault}
use Rattle.swf_turns.specs.declared.answer.Answered.{Answered}
use Rattle.swf_turns.specs.declared.saying.After.{After}
use Rattle.swf_turns.specs.declared.saying.After.TheVariants.{GoesOn, Ends, Stops}
use Rattle.swf_words.specs.declared.words.Words.{Words}
use Rattle.swf_turns.specs.Steps.{AskDone, IsSound, Says, StaysSound, reply_of, follows_end}
use Rattle.swf_turns.proofs.TurnLemmas.{still_stands}

-- what follows a reply is no damage
pub end_is_none : (over : Bool) → follows_end over ≡ Stops 5 → ⊥
end_is_none true e = cc
end_is_none false e = cc

stops_same : (k n : ℕ) → Stops k ≡ Stops n → k ≡ n
stops_same k n e = cc

pub seven_is_none : Stops 7 ≡ Stops 5 → ⊥
seven_is_none e = let n = stops_same 7 5 e in omega (arith, n)

module _ (words : Words) (answers : List Called) {S : Type 0} (moment : S → ℕ) (left_since : S → ℕ → Image → List Piece → Type 0) (said : S → Option (List Piece)) (may_leave : S → Image → Type 0) (seen : S → Option Image) where
  -- a call that leaves the store as it was
  pub sound_stays : (old new : S) (engine : Core) → seen new ≡ seen old → NothingNew (may_leave old) (may_leave new) → IsSound moment left_since said may_leave seen old engine → IsSound moment left_since said may_leave seen new engine
  sound_stays old new engine same stop s = (s.0, (s.1.0, same ∙ s.1.1, still_stands words answers s.1.0 (may_leave old) (may_leave new) engine s.0 s.1.2 stop))

  -- an Ask that was answered, or that fills the journal
  abbrev pub AfterAsk : S → Core → Result Answered EngineFault → Type 0
  AfterAsk two after (Ok answered) = IsSound moment left_since said may_leave seen two after
  AfterAsk two after (Err Store) = Unit {0}
  AfterAsk two after (Err (Damaged at)) = ⊥
  AfterAsk two after (Err (Full size)) = IsSound moment left_since said may_leave seen two after
  AfterAsk two after (Err OutOfMemory) = Unit {0}

  pub sound_asked : (read : Option (Result Command CommandFault)) (one two : S) (engine after : Core) (result : Result Answered EngineFault) → IsSound moment left_since said may_leave seen one engine
      → AskDone words None answers moment left_since said may_leave seen read one two engine after (reply_of result) → AfterAsk two after result
  sound_asked read one two engine after (Ok answered) s ask = let d = ask s.1.0 s.1.1 s.0 s.1.2 in (s.0 ++ d.0, d.3)
  sound_asked read one two engine after (Err Store) s ask = tt
  sound_asked read one two engine after (Err (Damaged at)) s ask = ask s.1.0 s.1.1 s.0 s.1.2
  sound_asked read one two engine after (Err (Full size)) s ask = let d = ask s.1.0 s.1.1 s.0 s.1.2 in (s.0 ++ d.0, d.3)
  sound_asked read one two engine after (Err OutOfMemory) s ask = tt

  pub sound_asked_as : (read : Option (Result Command CommandFault)) (one two : S) (engine after : Core) (result is : Result Answered EngineFault) → result ≡ is → IsSound moment left_since said may_leave seen one engine
      → AskDone words None answers moment left_since said may_leave seen read one two engine after (reply_of result) → AfterAsk two after is
  sound_asked_as read one two engine after result is e s ask = subst (λ (r : Result Answered EngineFault). AfterAsk two after r) e (sound_asked read one two engine after result s ask)

  -- what was said leaves the store as it was
  pub sound_said : {W : Type 0} (taken : S → Option (List (Input W))) (old new : S) (engine : Core) (conn : ℕ) (line : List ℕ) (done r : After) → (done ≡ Stops 5 → ⊥) → Says moment left_since said may_leave seen taken old new conn line done r
      → IsSound moment left_since said may_leave seen old engine → StaysSound moment left_since said may_leave seen new engine r
  sound_said taken old new engine conn line done GoesOn never says s = sound_stays old new engine says.seen_same says.stop s
  sound_said taken old new engine conn line done Ends never says s = tt
  sound_said taken old new engine conn line done (Stops k) never says s = λ five.
      ⊎_elim
      (λ d. never (sym d ∙ ap Stops five))
      (λ f. ⊎_elim (λ six. let n = stops_same k 6 six in omega (arith, n, five)) (λ four. let n = stops_same k 4 four in omega (arith, n, five)) f)
      says.which
