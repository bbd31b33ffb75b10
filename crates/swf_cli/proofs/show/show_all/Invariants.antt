use Rattle.std.proofs.Common.{◌≡◌, List, Some}
use Rattle.swf_store.specs.declared.said.Piece.{Piece}
use Rattle.swf_store.specs.Disk.{NothingNew}
use Rattle.swf_store.specs.Stops.{Leaves}
use Rattle.swf_meaning.specs.declared.label.Label.{Label}
use Rattle.swf_host.specs.declared.host.Input.{Input}
use Rattle.swf_host.specs.declared.host.NoWork.{NoWork}
use Rattle.swf_engine.specs.Core.{IsEngineOf}
use Rattle.swf_cli.specs.Shown.{IsShowing}
use Rattle.swf_turns.specs.Steps.{Stand}
use Rattle.swf_cli.proofs.ShowLemmas.{ShownSoFar}
use Rattle.swf_cli.proofs.show.show_all.Given as goal

-- the lines so far since whatever state, and what stays
abbrev pub invariant-loop-number : goal.invariant-loop-number
invariant-loop-number g l =
    let H = g.H.Store in
    record {
      place : IsEngineOf (H.seen l.host) l.engine;
      engine : l.engine ≡ l.fn.engine;
      seen : H.seen l.host ≡ H.seen l.fn.host;
      stop : NothingNew (H.may_leave l.fn.host) (H.may_leave l.host);
      so_far : (start : g.row.H.Denot) (before : List Label) (first : List (Input NoWork)) (told : List Piece) → g.H.Host.taken l.fn.host ≡ Some first → H.said l.fn.host ≡ Some told
          → Stand H.moment H.left_since H.said H.may_leave H.seen l.fn.host l.fn.engine before → Leaves H.moment H.left_since start l.fn.host (IsShowing before first told)
          → ShownSoFar H.moment H.left_since H.said H.may_leave H.seen g.H.Host.taken start l.host before first told l.number;
      host_faults : g.H.Host.host_faults l.host ≡ g.H.Host.host_faults l.fn.host;
      store_faults : H.store_faults l.host ≡ H.store_faults l.fn.host;
    }
