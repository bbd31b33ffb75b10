use Rattle.std.proofs.Common.{◌≡◌, ◌∙◌, ap, sym, subst, ◌+◌, Some, None, Err, is_none, drop}
use Rattle.swf_store.specs.Files.{bytes_of}
use Rattle.swf_store.specs.declared.image.File.{File}
use Rattle.swf_journal.specs.Opening.{IsDamage}
use Rattle.swf_journal.specs.Place.{Place}
use Rattle.swf_engine.specs.declared.fault.EngineFault.{EngineFault}
use Rattle.swf_engine.specs.Reading.{Reads}
use Rattle.swf_engine.proofs.EngineCallLemmas.{frame_told, frame_bad, frame_none, frame_failed}
use Rattle.swf_engine.proofs.OpenLemmas.{of_journal, in_file, read_more, read_bad, read_ended, read_failed}
use Rattle.swf_engine.proofs.open.read_one.Goals as goal

pub returns-in-Ok-clause-reads : goal.returns-in-Ok-clause-reads
returns-in-Ok-clause-reads g c = λ image seen front first s.
    let place = c.args.reading.now in
    let new = c.next_frame.new.self in
    let next = c.in-Ok-Some.ensures.next image seen front s.bodies (in_file image place.file place front s.bodies c.requires.file s.read) in
    let read = of_journal image place.file new front s.bodies c.in-Ok-Some.field-0 (Some c.in-Ok-Some.body) c.requires.file c.in-Ok-Some.field-0-is next in
    read_more image.journal front first place new c.args.world.now.world c.replay.new.world.world s c.in-Ok-Some.body.items c.as_slice.result.now read c.as_slice.ensures.value c.in-Ok.ensures.ok

pub returns-in-Ok-Some-clause-reads : goal.returns-in-Ok-Some-clause-reads
returns-in-Ok-Some-clause-reads g c = λ image seen front first s.
    let place = c.args.reading.now in
    let new = c.next_frame.new.self in
    let next = c.in-Ok-Some.ensures.next image seen front s.bodies (in_file image place.file place front s.bodies c.requires.file s.read) in
    let read = of_journal image place.file new front s.bodies c.in-Ok-Some.field-0 (Some c.in-Ok-Some.body) c.requires.file c.in-Ok-Some.field-0-is next in
    read_bad image.journal front first place new c.args.world.now.world c.replay.new.world.world s c.in-Ok-Some.body.items c.as_slice.result.now c.gate-gate.result c.in-Err-replay.fault read c.as_slice.ensures.value c.gate-gate.ensures
    c.in-Err-replay.ensures.damaged c.in-Err-replay.ensures.full

pub returns-in-Ok-None-clause-reads : goal.returns-in-Ok-None-clause-reads
returns-in-Ok-None-clause-reads g c = λ image seen front first s.
    let place = c.args.reading.now in
    let new = c.next_frame.new.self in
    let next = c.in-Ok-None.ensures.next image seen front s.bodies (in_file image place.file place front s.bodies c.requires.file s.read) in
    let read = of_journal image place.file new front s.bodies c.in-Ok-None.field-0 None c.requires.file c.in-Ok-None.field-0-is next in
    read_ended image.journal front first place new c.args.world.now.world s read.0 read.1 (ap (λ (p : Place). p.ended) c.in-Ok-None.ensures.place ∙ ap is_none c.in-Ok-None.field-0-is)

pub returns-clause-reads : goal.returns-clause-reads
returns-clause-reads g c = λ image seen front first s.
    let place = c.args.reading.now in
    let new = c.next_frame.new.self in
    subst (λ (e : EngineFault). Reads image.journal front first new c.args.world.now.world (Err e)) (sym c.from.ensures)
    (read_failed image.journal front first place new c.args.world.now.world c.args.world.now.world s c.in-Err.fault
    (λ at is. subst (λ (f : File). (at ≡ place.gate + 1) × IsDamage (drop place.gate (bytes_of image f))) c.requires.file (c.in-Err.ensures.damaged image seen at is)))

pub returns-in-Ok-clause-calls : goal.returns-in-Ok-clause-calls
returns-in-Ok-clause-calls g c =
    let S = g.S.Store in
    let old = c.args.reading.now in
    frame_told old.file old.gate c.next_frame.new.self.gate (S.calls c.args.store.now) (S.calls c.next_frame.new.store) c.in-Ok-Some.field-0 c.in-Ok-Some.body c.requires.file c.in-Ok-Some.field-0-is
    c.in-Ok-Some.ensures.calls c.in-Ok-Some.ensures.moves

pub returns-in-Ok-Some-clause-calls : goal.returns-in-Ok-Some-clause-calls
returns-in-Ok-Some-clause-calls g c =
    let S = g.S.Store in
    let old = c.args.reading.now in
    let new = c.next_frame.new in
    frame_bad old.gate new.self.gate (S.calls c.args.store.now) (S.calls new.store) c.in-Err-replay.fault
    (frame_told old.file old.gate new.self.gate (S.calls c.args.store.now) (S.calls new.store) c.in-Ok-Some.field-0 c.in-Ok-Some.body c.requires.file c.in-Ok-Some.field-0-is
    c.in-Ok-Some.ensures.calls c.in-Ok-Some.ensures.moves)

pub returns-in-Ok-None-clause-calls : goal.returns-in-Ok-None-clause-calls
returns-in-Ok-None-clause-calls g c =
    let S = g.S.Store in
    let old = c.args.reading.now in
    frame_none old.file old.gate c.next_frame.new.self.gate (S.calls c.args.store.now) (S.calls c.next_frame.new.store) c.in-Ok-None.field-0 c.requires.file c.in-Ok-None.field-0-is
    c.in-Ok-None.ensures.calls c.in-Ok-None.ensures.moves

pub returns-clause-calls : goal.returns-clause-calls
returns-clause-calls g c =
    let S = g.S.Store in
    let old = c.args.reading.now in
    frame_failed old.file old.gate c.next_frame.new.self.gate (S.calls c.args.store.now) (S.calls c.next_frame.new.store) c.in-Err.fault c.from.result c.requires.file c.in-Err.ensures.calls
