use Rattle.std.proofs.Common.{◌≡◌, ℕ, List, [], Some, false}
use Rattle.swf_store.specs.declared.said.Piece.{Piece}
use Rattle.swf_store.specs.Stops.{Leaves}
use Rattle.swf_meaning.specs.declared.label.Label.{Label}
use Rattle.swf_host.specs.declared.host.Input.{Input}
use Rattle.swf_host.specs.declared.host.NoWork.{NoWork}
use Rattle.swf_connect.specs.contracts.switchboard.SwitchboardParties.TheImpl.{ghosts}
use Rattle.swf_engine.specs.Core.{IsEngineOf}
use Rattle.swf_engine.specs.Settling.{Called, AsksBoard}
use Rattle.swf_turns.specs.Dialect.{session}
use Rattle.swf_turns.proofs.HeardLemmas.{IsHeard}
use Rattle.swf_turns.specs.Turns.{Turn}
use Rattle.swf_turns.specs.Moments.{IsMoment}
use Rattle.swf_turns.specs.Steps.{IsSound, Stand}
use Rattle.swf_turns.specs.StoreCalls.{TurnsCalls}
use Rattle.swf_cli.proofs.SessionLemmas.{SoFar}
use Rattle.swf_cli.proofs.session.take_turns.Given as goal

-- the engine's place, the turns so far since whatever state and what the board was asked in them, what was replied to, the calls of these turns, and the counts
abbrev pub invariant-loop : goal.invariant-loop
invariant-loop g l = record {
  place : IsEngineOf (g.H.Store.seen l.host) l.engine;
  asked : (called : List Called) × AsksBoard l.words.http called ((ghosts g.dyn-1).parties l.fn.board) ((ghosts g.dyn-1).parties l.board)
      × ((start : g.row.H.Denot) (before : List Label) (first : List (Input NoWork)) (told : List Piece) → g.H.Host.taken l.fn.host ≡ Some first → g.H.Store.said l.fn.host ≡ Some told
      → Stand g.H.Store.moment g.H.Store.left_since g.H.Store.said g.H.Store.may_leave g.H.Store.seen l.fn.host l.fn.engine before
      → Leaves g.H.Store.moment g.H.Store.left_since start l.fn.host (IsMoment session l.words before first told first [])
      → SoFar l.words g.H.Store.moment g.H.Store.left_since g.H.Store.said g.H.Store.may_leave g.H.Store.seen g.H.Host.taken start l.host l.engine before first told called l.counter);
  by_hand : l.words.http ≡ false → l.board ≡ l.fn.board;
  heard : (first : List (Input NoWork)) (told : List Piece) → g.H.Host.taken l.fn.host ≡ Some first → g.H.Store.said l.fn.host ≡ Some told
      → (ts : List (Turn NoWork)) × IsHeard g.H.Store.moment g.H.Store.left_since g.H.Store.said g.H.Store.may_leave g.H.Store.seen g.H.Host.taken l.host first told ts;
  sound : IsSound g.H.Store.moment g.H.Store.left_since g.H.Store.said g.H.Store.may_leave g.H.Store.seen l.fn.host l.fn.engine → IsSound g.H.Store.moment g.H.Store.left_since g.H.Store.said g.H.Store.may_leave g.H.Store.seen l.host l.engine;
  calls : (turns : ℕ) × TurnsCalls l.words g.H.Store.moment g.H.Store.left_since g.H.Store.said g.H.Store.may_leave g.H.Store.seen g.H.Store.calls g.H.Host.taken turns l.fn.host l.host l.fn.engine l.engine;
  host_faults : g.H.Host.host_faults l.host ≡ g.H.Host.host_faults l.fn.host;
  store_faults : g.H.Store.store_faults l.host ≡ g.H.Store.store_faults l.fn.host;
}
