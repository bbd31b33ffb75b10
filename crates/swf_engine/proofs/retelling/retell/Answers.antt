use Rattle.std.proofs.Common.{sym, subst, false, Err}
use Rattle.swf_journal.specs.Frames.{header}
use Rattle.swf_journal.specs.JournalCalls.{header_calls}
use Rattle.swf_engine.specs.declared.fault.EngineFault.{EngineFault}
use Rattle.swf_engine.specs.Retelling.{Retells}
use Rattle.swf_engine.proofs.EngineCallLemmas.{some_again, begun_again, begun_short}
use Rattle.swf_engine.proofs.RetellLemmas.{not_begun}
use Rattle.swf_engine.proofs.retelling.retell.Goals as goal

pub returns-in-Err-clause-retells : goal.returns-in-Err-clause-retells
returns-in-Err-clause-retells g c = λ image seen.
    subst (λ (e : EngineFault). Retells image.journal header c.args.from (Err e)) (sym c.from.ensures)
    (not_begun image.journal header c.args.from c.in-Err.fault (λ at is. c.in-Err.ensures.damaged image seen at is))

pub returns-in-Ok-clause-some_read : goal.returns-in-Ok-clause-some_read
returns-in-Ok-clause-some_read g c =
    let S = g.S.Store in
    some_again c.tell_frames.result c.in-Ok.reading.gate (S.calls c.args.store.now) (S.calls c.begin_again.new.store) (S.calls c.tell_frames.new.store) c.in-Ok.ensures.gate c.in-Ok.ensures.calls.done c.tell_frames.ensures.some_read

pub returns-in-Ok-clause-begun : goal.returns-in-Ok-clause-begun
returns-in-Ok-clause-begun g c =
    let S = g.S.Store in
    begun_again c.tell_frames.result c.in-Ok.reading.gate (S.calls c.args.store.now) (S.calls c.begin_again.new.store) (S.calls c.tell_frames.new.store) c.in-Ok.ensures.gate c.in-Ok.ensures.calls.done c.tell_frames.ensures.begun

pub returns-in-Err-clause-begun : goal.returns-in-Err-clause-begun
returns-in-Err-clause-begun g c =
    let S = g.S.Store in
    begun_short (header_calls false) 16 (S.calls c.args.store.now) (S.calls c.begin_again.new.store) c.in-Err.ensures.calls.failed
