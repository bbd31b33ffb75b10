use Rattle.std.proofs.Common.{◌≡◌, ◌∙◌, ap, sym, subst, arith, [], length}
use Rattle.swf_store.specs.Files.{bytes_of}
use Rattle.swf_store.specs.declared.image.File.{File}
use Rattle.swf_journal.specs.Place.{Gate}
use Rattle.swf_engine.specs.Core.{Core}
use Rattle.swf_engine.specs.EngineCalls.{AllRead}
use Rattle.swf_engine.proofs.OpenLemmas.{replayed_none, all_failed}
use Rattle.swf_engine.proofs.open.read_all.Goals as goal

pub returns-in-Err-clause-reads : goal.returns-in-Err-clause-reads
returns-in-Err-clause-reads g c = λ image seen front read.
    let first = c.args.world.world in
    all_failed image.journal front first c.read_frames.new.reading c.read_frames.new.world.world c.in-Err.fault
    (c.in-Err.ensures.stays image seen front first (replayed_none image.journal front first c.args.reading read))

pub returns-in-Ok-clause-place : goal.returns-in-Ok-clause-place
returns-in-Ok-clause-place g c = λ image seen.
    let reading = c.read_frames.new.reading in
    let at : c.of.result.gate ≡ reading.gate = ap (λ (e : Core). e.gate) c.of.ensures ∙ ap (λ (j : Gate). j.at) c.finish.ensures.gate in
    let p = c.read_frames.ensures.place image seen in
    let size : reading.size ≡ length image.journal = subst (λ (f : File). reading.size ≡ length (bytes_of image f)) c.read_frames.ensures.file p.0 in
    omega (arith, at, size, p.1)

pub returns-in-Ok-clause-reads : goal.returns-in-Ok-clause-reads
returns-in-Ok-clause-reads g c = λ image seen front read.
    let first = c.args.world.world in
    let begun = replayed_none image.journal front first c.args.reading read in
    let reading = c.read_frames.new.reading in
    let world = c.read_frames.new.world.world in
    (reading, world, c.in-Ok.ensures.read image seen front first begun, c.of.ensures ∙ (λ i. record { world = world; gate = (c.finish.ensures.gate i).at }))

pub returns-in-Ok-clause-all_read : goal.returns-in-Ok-clause-all_read
returns-in-Ok-clause-all_read g c =
    let S = g.S.Store in
    let at : c.of.result.gate ≡ c.read_frames.new.reading.gate = ap (λ (e : Core). e.gate) c.of.ensures ∙ ap (λ (j : Gate). j.at) c.finish.ensures.gate in
    subst (λ n. AllRead [] c.args.reading.gate n (S.calls c.args.store.now) (S.calls c.read_frames.new.store)) (sym at) c.in-Ok.ensures.all_read
