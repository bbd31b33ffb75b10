use Rattle.std.proofs.Common.{◌≡◌, true, length, is_some}
use Rattle.std.specs.Prelude.{All}
use Rattle.std.specs.Vec.Iter.{into_iter_items, into_iter_len}
use Rattle.swf_connect.specs.contracts.switchboard.SwitchboardParties.TheImpl.{ghosts}
use Rattle.swf_engine.specs.Core.{IsEngineOf}
use Rattle.swf_engine.specs.Settling.{IsAwaited}
use Rattle.swf_engine.proofs.SettleLemmas.{Going}
use Rattle.swf_engine.proofs.engine.Engine.ask_all.Given as goal

-- the replies so far, what is still awaited, and what stays through them
abbrev pub invariant-loop-activity : goal.invariant-loop-activity
invariant-loop-activity g l =
    let S = g.S.Store in
    record {
      place : IsEngineOf (S.seen l.store) l.self;
      awaited : All (IsAwaited l.self.world) (into_iter_items l.activity-iterator);
      left : into_iter_len l.activity-iterator ≡ length (into_iter_items l.activity-iterator);
      going : Going S.moment S.left_since S.said S.may_leave S.seen S.calls true 0 ((ghosts g.dyn-1).parties l.fn.board) ((ghosts g.dyn-1).parties l.board) l.fn.store l.store l.fn.self l.self;
      said : S.said l.store ≡ S.said l.fn.store;
      beside : S.beside l.store ≡ S.beside l.fn.store;
      honest : is_some (S.seen l.store) ≡ is_some (S.seen l.fn.store);
      faults : S.store_faults l.store ≡ S.store_faults l.fn.store;
    }
