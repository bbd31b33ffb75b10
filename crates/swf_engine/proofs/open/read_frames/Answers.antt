use Rattle.std.proofs.Common.{◌∙◌, refl, subst, Bool, Ok}
use Rattle.swf_store.specs.Said.{IsSaid}
use Rattle.swf_store.proofs.Moments.{started, goes_on_only}
use Rattle.swf_engine.specs.EngineCalls.{FrameCalls}
use Rattle.swf_engine.specs.Reading.{Reads}
use Rattle.swf_engine.proofs.EngineCallLemmas.{none_read, one_read, all_read, reading_stopped, reading_broke}
use Rattle.swf_engine.proofs.open.read_frames.Goals as goal

pub loop-init : goal.loop-init
loop-init g c =
    let S = g.S.Store in
    let store = c.args.store.now in
    record {
      place = c.requires.place;
      file = c.requires.file;
      limit = refl;
      reads = λ image seen front first s. s;
      frames = none_read c.args.reading.now.gate (S.calls store);
      seen = refl;
      stop = λ image may. may;
      any_moment = started S.moment S.left_since store (λ left pieces. S.may_leave store left × IsSaid (S.said store) pieces) (λ left pieces since. g.met.S.Store.only_now store left pieces since);
      said = refl;
      beside = refl;
      faults = refl;
    }

pub returns-in-Err-clause-stays : goal.returns-in-Err-clause-stays
returns-in-Err-clause-stays g c = λ image seen front first s.
    c.in-Err.ensures.reads image (c.loop.invariant.seen ∙ seen) front first (c.loop.invariant.reads image seen front first s)

pub returns-in-Ok-false-clause-read : goal.returns-in-Ok-false-clause-read
returns-in-Ok-false-clause-read g c = λ image seen front first s.
    let reading = c.read_one.new.reading in
    let world = c.read_one.new.world.world in
    subst (λ b. Reads image.journal front first reading world (Ok b)) c.in-Ok-false.field-0-test (c.in-Ok-false.ensures.reads image (c.loop.invariant.seen ∙ seen) front first (c.loop.invariant.reads image seen front first s))

pub returns-in-Ok-false-clause-any_moment : goal.returns-in-Ok-false-clause-any_moment
returns-in-Ok-false-clause-any_moment g c =
    let S = g.S.Store in
    let i = c.loop.invariant in
    goes_on_only S.moment S.left_since S.said c.args.store.now c.loop.store c.read_one.new.store (S.may_leave c.args.store.now) (S.may_leave c.loop.store) (S.may_leave c.args.store.now) i.said i.any_moment c.read_one.ensures.any_moment
    (λ left may. may) (λ left may. i.stop left may)

pub returns-in-Err-clause-any_moment : goal.returns-in-Err-clause-any_moment
returns-in-Err-clause-any_moment g c =
    let S = g.S.Store in
    let i = c.loop.invariant in
    goes_on_only S.moment S.left_since S.said c.args.store.now c.loop.store c.read_one.new.store (S.may_leave c.args.store.now) (S.may_leave c.loop.store) (S.may_leave c.args.store.now) i.said i.any_moment c.read_one.ensures.any_moment
    (λ left may. may) (λ left may. i.stop left may)

pub loop-preserved : goal.loop-preserved
loop-preserved g c =
    let S = g.S.Store in
    let l = c.loop in
    let i = l.invariant in
    let one = c.read_one.ensures in
    let new = c.read_one.new in
    record {
      place = one.place;
      file = one.file ∙ i.file;
      limit = one.limit ∙ i.limit;
      reads = λ image seen front first s. subst (λ (b : Bool). Reads image.journal front first new.reading new.world.world (Ok b)) c.in-Ok-true.field-0-test (c.in-Ok-true.ensures.reads image (i.seen ∙ seen) front first (i.reads image seen front first s));
      frames = one_read c.args.reading.now.gate l.reading.gate new.reading.gate (S.calls c.args.store.now) (S.calls l.store) (S.calls new.store) i.frames
          (subst (λ (b : Bool). FrameCalls l.reading.gate new.reading.gate (S.calls l.store) (S.calls new.store) (Ok b)) c.in-Ok-true.field-0-test c.in-Ok-true.ensures.calls);
      seen = one.seen ∙ i.seen;
      stop = λ image may. i.stop image (one.stop image may);
      any_moment = goes_on_only S.moment S.left_since S.said c.args.store.now l.store new.store (S.may_leave c.args.store.now) (S.may_leave l.store) (S.may_leave c.args.store.now) i.said i.any_moment one.any_moment
          (λ left may. may) (λ left may. i.stop left may);
      said = one.said ∙ i.said;
      beside = one.beside ∙ i.beside;
      faults = c.in-Ok-true.ensures.cause ∙ i.faults;
    }

pub returns-in-Ok-false-clause-all_read : goal.returns-in-Ok-false-clause-all_read
returns-in-Ok-false-clause-all_read g c =
    let S = g.S.Store in
    let l = c.loop in
    let new = c.read_one.new in
    all_read c.args.reading.now.gate l.reading.gate new.reading.gate (S.calls c.args.store.now) (S.calls l.store) (S.calls new.store) l.invariant.frames
    (subst (λ (b : Bool). FrameCalls l.reading.gate new.reading.gate (S.calls l.store) (S.calls new.store) (Ok b)) c.in-Ok-false.field-0-test c.in-Ok-false.ensures.calls)

pub returns-in-Err-clause-begun : goal.returns-in-Err-clause-begun
returns-in-Err-clause-begun g c =
    let S = g.S.Store in
    let l = c.loop in
    reading_broke c.args.reading.now.gate l.reading.gate c.read_one.new.reading.gate (S.calls c.args.store.now) (S.calls l.store) (S.calls c.read_one.new.store) c.in-Err.fault l.invariant.frames c.in-Err.ensures.calls

pub returns-clause-begun : goal.returns-clause-begun
returns-clause-begun g c =
    let S = g.S.Store in
    reading_stopped c.args.reading.now.gate c.loop.reading.gate (S.calls c.args.store.now) (S.calls c.loop.store) c.loop.invariant.frames
