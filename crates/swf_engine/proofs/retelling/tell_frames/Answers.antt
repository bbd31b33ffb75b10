use Rattle.std.proofs.Common.{◌∙◌, ◌<◌, subst, [], Bool, length, Ok, arith}
use Rattle.swf_store.proofs.Moments.{goes_on_only}
use Rattle.swf_engine.specs.EngineCalls.{SomeRead, ReadingBegun, FrameCalls}
use Rattle.swf_engine.specs.Retelling.{TellsFrame}
use Rattle.swf_engine.proofs.EngineCallLemmas.{one_read, all_read, reading_stopped, reading_broke, some_stopped, some_all, all_begun, on_ok, on_err}
use Rattle.swf_engine.proofs.RetellLemmas.{retold_full_as, retold_end_as, retold_failed}
use Rattle.swf_engine.proofs.retelling.tell_frames.Goals as goal

pub returns-then-len-ge-MOST_TOLD-clause-retells : goal.returns-then-len-ge-MOST_TOLD-clause-retells
returns-then-len-ge-MOST_TOLD-clause-retells g c = λ image seen front first.
    let l = c.loop in
    retold_full_as image.journal front l.reading c.args.from l.told.pass l.told.values.items c.told_history.result (l.invariant.told image seen front first) (omega arith) c.told_history.ensures

pub returns-in-Ok-false-clause-retells : goal.returns-in-Ok-false-clause-retells
returns-in-Ok-false-clause-retells g c = λ image seen front first.
    let l = c.loop in
    let few : length l.told.values.items < 100 = omega arith in
    let told = c.tell_frame.new.told in
    let t = subst (λ (b : Bool). TellsFrame image.journal front c.tell_frame.new.reading c.args.from told.pass told.values.items (Ok b)) c.in-Ok-false.field-0-test
    (c.in-Ok-false.ensures.tells image (l.invariant.seen ∙ seen) front c.args.from (l.invariant.told image seen front first) few) in
    retold_end_as image.journal front c.tell_frame.new.reading c.args.from told.pass told.values.items c.told_history-in-Ok-false.result t c.told_history-in-Ok-false.ensures

pub returns-in-Err-clause-retells : goal.returns-in-Err-clause-retells
returns-in-Err-clause-retells g c = λ image seen front first.
    let l = c.loop in
    let few : length l.told.values.items < 100 = omega arith in
    let told = c.tell_frame.new.told in
    retold_failed image.journal front c.tell_frame.new.reading c.args.from told.pass told.values.items c.in-Err.fault (c.in-Err.ensures.tells image (l.invariant.seen ∙ seen) front c.args.from (l.invariant.told image seen front first) few)

pub loop-preserved : goal.loop-preserved
loop-preserved g c =
    let S = g.S.Store in
    let l = c.loop in
    let i = l.invariant in
    let few : length l.told.values.items < 100 = omega arith in
    let told = c.tell_frame.new.told in
    record {
      place = c.tell_frame.ensures.place;
      file = c.tell_frame.ensures.file ∙ i.file;
      told = λ image seen front first. subst (λ (b : Bool). TellsFrame image.journal front c.tell_frame.new.reading c.args.from told.pass told.values.items (Ok b)) c.in-Ok-true.field-0-test
          (c.in-Ok-true.ensures.tells image (i.seen ∙ seen) front c.args.from (i.told image seen front first) few);
      frames = one_read c.args.reading.gate l.reading.gate c.tell_frame.new.reading.gate (S.calls c.args.store.now) (S.calls l.store) (S.calls c.tell_frame.new.store) i.frames
          (subst (λ (b : Bool). FrameCalls l.reading.gate c.tell_frame.new.reading.gate (S.calls l.store) (S.calls c.tell_frame.new.store) (Ok b)) c.in-Ok-true.field-0-test c.in-Ok-true.ensures.calls);
      seen = c.tell_frame.ensures.seen ∙ i.seen;
      stop = λ image may. i.stop image (c.tell_frame.ensures.stop image may);
      any_moment = goes_on_only S.moment S.left_since S.said c.args.store.now l.store c.tell_frame.new.store (S.may_leave c.args.store.now) (S.may_leave l.store) (S.may_leave c.args.store.now) i.said i.any_moment c.tell_frame.ensures.any_moment
          (λ left may. may) (λ left may. i.stop left may);
      said = c.tell_frame.ensures.said ∙ i.said;
      beside = c.tell_frame.ensures.beside ∙ i.beside;
      faults = c.in-Ok-true.ensures.cause ∙ i.faults;
    }

pub returns-in-Ok-false-clause-any_moment : goal.returns-in-Ok-false-clause-any_moment
returns-in-Ok-false-clause-any_moment g c =
    let S = g.S.Store in
    let i = c.loop.invariant in
    goes_on_only S.moment S.left_since S.said c.args.store.now c.loop.store c.tell_frame.new.store (S.may_leave c.args.store.now) (S.may_leave c.loop.store) (S.may_leave c.args.store.now) i.said i.any_moment c.tell_frame.ensures.any_moment
    (λ left may. may) (λ left may. i.stop left may)

pub returns-in-Err-clause-any_moment : goal.returns-in-Err-clause-any_moment
returns-in-Err-clause-any_moment g c =
    let S = g.S.Store in
    let i = c.loop.invariant in
    goes_on_only S.moment S.left_since S.said c.args.store.now c.loop.store c.tell_frame.new.store (S.may_leave c.args.store.now) (S.may_leave c.loop.store) (S.may_leave c.args.store.now) i.said i.any_moment c.tell_frame.ensures.any_moment
    (λ left may. may) (λ left may. i.stop left may)

pub returns-then-len-ge-MOST_TOLD-clause-some_read : goal.returns-then-len-ge-MOST_TOLD-clause-some_read
returns-then-len-ge-MOST_TOLD-clause-some_read g c =
    let S = g.S.Store in
    let l = c.loop in
    on_ok c.told_history.result _ (some_stopped c.args.reading.gate l.reading.gate (S.calls c.args.store.now) (S.calls l.store) l.invariant.frames)

pub returns-then-len-ge-MOST_TOLD-clause-begun : goal.returns-then-len-ge-MOST_TOLD-clause-begun
returns-then-len-ge-MOST_TOLD-clause-begun g c =
    let S = g.S.Store in
    let l = c.loop in
    on_err c.told_history.result _ (reading_stopped c.args.reading.gate l.reading.gate (S.calls c.args.store.now) (S.calls l.store) l.invariant.frames)

pub returns-in-Ok-false-clause-some_read : goal.returns-in-Ok-false-clause-some_read
returns-in-Ok-false-clause-some_read g c =
    let S = g.S.Store in
    let l = c.loop in
    let new = c.tell_frame.new in
    let old = S.calls c.args.store.now in
    on_ok c.told_history-in-Ok-false.result (SomeRead [] c.args.reading.gate old (S.calls new.store))
    (some_all [] c.args.reading.gate new.reading.gate old (S.calls new.store)
    (all_read c.args.reading.gate l.reading.gate new.reading.gate old (S.calls l.store) (S.calls new.store) l.invariant.frames
    (subst (λ (b : Bool). FrameCalls l.reading.gate new.reading.gate (S.calls l.store) (S.calls new.store) (Ok b)) c.in-Ok-false.field-0-test c.in-Ok-false.ensures.calls)))

pub returns-in-Ok-false-clause-begun : goal.returns-in-Ok-false-clause-begun
returns-in-Ok-false-clause-begun g c =
    let S = g.S.Store in
    let l = c.loop in
    let new = c.tell_frame.new in
    let old = S.calls c.args.store.now in
    on_err c.told_history-in-Ok-false.result (ReadingBegun [] c.args.reading.gate old (S.calls new.store))
    (all_begun [] c.args.reading.gate new.reading.gate old (S.calls new.store)
    (all_read c.args.reading.gate l.reading.gate new.reading.gate old (S.calls l.store) (S.calls new.store) l.invariant.frames
    (subst (λ (b : Bool). FrameCalls l.reading.gate new.reading.gate (S.calls l.store) (S.calls new.store) (Ok b)) c.in-Ok-false.field-0-test c.in-Ok-false.ensures.calls)))

pub returns-in-Err-clause-begun : goal.returns-in-Err-clause-begun
returns-in-Err-clause-begun g c =
    let S = g.S.Store in
    let l = c.loop in
    reading_broke c.args.reading.gate l.reading.gate c.tell_frame.new.reading.gate (S.calls c.args.store.now) (S.calls l.store) (S.calls c.tell_frame.new.store) c.in-Err.fault l.invariant.frames c.in-Err.ensures.calls

pub returns-clause-begun : goal.returns-clause-begun
returns-clause-begun g c =
    let S = g.S.Store in
    reading_stopped c.args.reading.gate c.loop.reading.gate (S.calls c.args.store.now) (S.calls c.loop.store) c.loop.invariant.frames
