use Rattle.std.proofs.Common.{◌≡◌, ℕ, List}
use Rattle.std.specs.Option.{ForSome}
use Rattle.swf_store.specs.declared.image.File.TheVariants.{Journal}
use Rattle.swf_store.specs.Disk.{NothingNew}
use Rattle.swf_store.specs.Stops.{LeavesOnly}
use Rattle.swf_journal.specs.Place.{IsReadingOf}
use Rattle.swf_meaning.specs.World.{World}
use Rattle.swf_engine.specs.Reading.{HasReplayed}
use Rattle.swf_engine.proofs.EngineCallLemmas.{FramesRead}
use Rattle.swf_engine.proofs.open.read_frames.Given as goal

-- how far the frames are read, and what stays
abbrev pub invariant-loop : goal.invariant-loop
invariant-loop g l =
    let S = g.S.Store in
    record {
      place : IsReadingOf (S.seen l.store) l.reading;
      file : l.reading.file ≡ Journal;
      limit : l.reading.limit ≡ l.fn.reading.limit;
      reads : ForSome (S.seen l.fn.store) (λ image. (front : List ℕ) (first : World) → HasReplayed image.journal front first l.fn.reading l.fn.world.world → HasReplayed image.journal front first l.reading l.world.world);
      frames : FramesRead l.fn.reading.gate l.reading.gate (S.calls l.fn.store) (S.calls l.store);
      seen : S.seen l.store ≡ S.seen l.fn.store;
      stop : NothingNew (S.may_leave l.fn.store) (S.may_leave l.store);
      any_moment : LeavesOnly S.moment S.left_since S.said l.fn.store l.store (S.may_leave l.fn.store);
      said : S.said l.store ≡ S.said l.fn.store;
      beside : S.beside l.store ≡ S.beside l.fn.store;
      faults : S.store_faults l.store ≡ S.store_faults l.fn.store;
    }
