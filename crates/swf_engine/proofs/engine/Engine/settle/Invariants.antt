use Rattle.std.proofs.Common.{◌≡◌, ◌≤◌, false, is_some}
use Rattle.swf_connect.specs.contracts.switchboard.SwitchboardParties.TheImpl.{ghosts}
use Rattle.swf_engine.specs.Core.{IsEngineOf}
use Rattle.swf_engine.proofs.SettleLemmas.{Going}
use Rattle.swf_engine.proofs.engine.Engine.settle.Given as goal

-- the steps and replies so far, and what stays through them
abbrev pub invariant-loop : goal.invariant-loop
invariant-loop g l =
    let S = g.S.Store in
    record {
      place : IsEngineOf (S.seen l.store) l.self;
      few : l.steps ≤ l.limit;
      going : Going S.moment S.left_since S.said S.may_leave S.seen S.calls l.calls l.steps ((ghosts g.dyn-1).parties l.fn.board) ((ghosts g.dyn-1).parties l.board) l.fn.store l.store l.fn.self l.self;
      by_hand : l.calls ≡ false → l.board ≡ l.fn.board;
      said : S.said l.store ≡ S.said l.fn.store;
      beside : S.beside l.store ≡ S.beside l.fn.store;
      honest : is_some (S.seen l.store) ≡ is_some (S.seen l.fn.store);
      faults : S.store_faults l.store ≡ S.store_faults l.fn.store;
    }
