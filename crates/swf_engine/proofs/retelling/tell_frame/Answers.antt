use Rattle.std.proofs.Common.{◌≡◌, sym, subst, ◌+◌, Some, None, Err, drop}
use Rattle.swf_store.specs.Files.{bytes_of}
use Rattle.swf_store.specs.declared.image.File.{File}
use Rattle.swf_journal.specs.Opening.{IsDamage}
use Rattle.swf_engine.specs.declared.fault.EngineFault.{EngineFault}
use Rattle.swf_engine.specs.Retelling.{TellsFrame}
use Rattle.swf_engine.proofs.EngineCallLemmas.{frame_told, frame_bad, frame_none, frame_failed}
use Rattle.swf_engine.proofs.OpenLemmas.{of_journal, in_file}
use Rattle.swf_engine.proofs.RetellLemmas.{told_frame, told_bad, told_ended, told_failed}
use Rattle.swf_engine.proofs.retelling.tell_frame.Goals as goal

pub returns-in-Ok-clause-tells : goal.returns-in-Ok-clause-tells
returns-in-Ok-clause-tells g c = λ image seen front place t few.
    let old = c.args.reading.now in
    let new = c.next_frame.new.self in
    let next = c.in-Ok-Some.ensures.next image seen front t.bodies (in_file image old.file old front t.bodies c.requires.file t.read) in
    let read = of_journal image old.file new front t.bodies c.in-Ok-Some.field-0 (Some c.in-Ok-Some.body) c.requires.file c.in-Ok-Some.field-0-is next in
    told_frame image.journal front old new place c.args.told.now.pass c.tell_body.new.told.pass c.args.told.now.values.items c.tell_body.new.told.values.items t c.in-Ok-Some.body.items c.as_slice.result.now read c.as_slice.ensures.value
    c.in-Ok.ensures.ok

pub returns-in-Ok-Some-clause-tells : goal.returns-in-Ok-Some-clause-tells
returns-in-Ok-Some-clause-tells g c = λ image seen front place t few.
    let old = c.args.reading.now in
    let new = c.next_frame.new.self in
    let next = c.in-Ok-Some.ensures.next image seen front t.bodies (in_file image old.file old front t.bodies c.requires.file t.read) in
    let read = of_journal image old.file new front t.bodies c.in-Ok-Some.field-0 (Some c.in-Ok-Some.body) c.requires.file c.in-Ok-Some.field-0-is next in
    told_bad image.journal front old new place c.args.told.now.pass c.tell_body.new.told.pass c.args.told.now.values.items c.tell_body.new.told.values.items t c.in-Ok-Some.body.items c.as_slice.result.now c.gate-gate.result c.in-Err-tell_body.fault
    few read c.as_slice.ensures.value c.gate-gate.ensures c.in-Err-tell_body.ensures.damaged c.in-Err-tell_body.ensures.full

pub returns-in-Ok-None-clause-tells : goal.returns-in-Ok-None-clause-tells
returns-in-Ok-None-clause-tells g c = λ image seen front place t few.
    let old = c.args.reading.now in
    let new = c.next_frame.new.self in
    let next = c.in-Ok-None.ensures.next image seen front t.bodies (in_file image old.file old front t.bodies c.requires.file t.read) in
    let read = of_journal image old.file new front t.bodies c.in-Ok-None.field-0 None c.requires.file c.in-Ok-None.field-0-is next in
    told_ended image.journal front old new place c.args.told.now.pass c.args.told.now.values.items t read.0 read.1

pub returns-clause-tells : goal.returns-clause-tells
returns-clause-tells g c = λ image seen front place t few.
    let old = c.args.reading.now in
    let new = c.next_frame.new.self in
    subst (λ (e : EngineFault). TellsFrame image.journal front new place c.args.told.now.pass c.args.told.now.values.items (Err e)) (sym c.from.ensures)
    (told_failed image.journal front old new place c.args.told.now.pass c.args.told.now.pass c.args.told.now.values.items c.args.told.now.values.items t c.in-Err.fault few
    (λ at is. subst (λ (f : File). (at ≡ old.gate + 1) × IsDamage (drop old.gate (bytes_of image f))) c.requires.file (c.in-Err.ensures.damaged image seen at is)))

pub returns-in-Ok-clause-calls : goal.returns-in-Ok-clause-calls
returns-in-Ok-clause-calls g c =
    let S = g.S.Store in
    let old = c.args.reading.now in
    frame_told old.file old.gate c.next_frame.new.self.gate (S.calls c.args.store.now) (S.calls c.next_frame.new.store) c.in-Ok-Some.field-0 c.in-Ok-Some.body c.requires.file c.in-Ok-Some.field-0-is
    c.in-Ok-Some.ensures.calls c.in-Ok-Some.ensures.moves

pub returns-in-Ok-Some-clause-calls : goal.returns-in-Ok-Some-clause-calls
returns-in-Ok-Some-clause-calls g c =
    let S = g.S.Store in
    let old = c.args.reading.now in
    let new = c.next_frame.new in
    frame_bad old.gate new.self.gate (S.calls c.args.store.now) (S.calls new.store) c.in-Err-tell_body.fault
    (frame_told old.file old.gate new.self.gate (S.calls c.args.store.now) (S.calls new.store) c.in-Ok-Some.field-0 c.in-Ok-Some.body c.requires.file c.in-Ok-Some.field-0-is
    c.in-Ok-Some.ensures.calls c.in-Ok-Some.ensures.moves)

pub returns-in-Ok-None-clause-calls : goal.returns-in-Ok-None-clause-calls
returns-in-Ok-None-clause-calls g c =
    let S = g.S.Store in
    let old = c.args.reading.now in
    frame_none old.file old.gate c.next_frame.new.self.gate (S.calls c.args.store.now) (S.calls c.next_frame.new.store) c.in-Ok-None.field-0 c.requires.file c.in-Ok-None.field-0-is
    c.in-Ok-None.ensures.calls c.in-Ok-None.ensures.moves

pub returns-clause-calls : goal.returns-clause-calls
returns-clause-calls g c =
    let S = g.S.Store in
    let old = c.args.reading.now in
    frame_failed old.file old.gate c.next_frame.new.self.gate (S.calls c.args.store.now) (S.calls c.next_frame.new.store) c.in-Err.fault c.from.result c.requires.file c.in-Err.ensures.calls
