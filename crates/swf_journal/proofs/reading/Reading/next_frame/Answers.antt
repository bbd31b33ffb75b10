use Rattle.std.proofs.Common.{◌≡◌, ◌∙◌, ◌+◌, ◌<◌, ◌++◌, [], ◌∷◌, ℕ, true, false, length, drop, sym, subst, arith, rules, Err}
use Rattle.std.specs.Prelude.{IfSome}
use Rattle.swf_store.specs.Calls.{Begins}
use Rattle.swf_store.specs.Files.{bytes_of}
use Rattle.swf_journal.specs.declared.fault.OpenFault.TheVariants.{Damaged}
use Rattle.swf_journal.specs.JournalCalls.{frame_calls}
use Rattle.swf_journal.specs.Opening.{IsNext, IsDamage}
use Rattle.swf_journal.specs.Place.{Place, HasRead}
use Rattle.swf_journal.specs.Stands.{IsShutAfter}
use Rattle.swf_journal.proofs.JournalCallLemmas.{frame_failed}
use Rattle.swf_journal.proofs.OpenLemmas.{read_on, read_end}
use Rattle.swf_journal.proofs.StandsLemmas.{no_damage}
use Rattle.swf_journal.proofs.reading.Reading.next_frame.Goals as goal

pub read_frame-requires-clause-size : goal.read_frame-requires-clause-size
read_frame-requires-clause-size g c = λ image seen.
    (subst (λ (p : Place). (p.size ≡ length (bytes_of image p.file)) × (p.gate < p.size)) (sym c.self.view_is) (c.requires image seen)).0

pub read_frame-requires-clause-within : goal.read_frame-requires-clause-within
read_frame-requires-clause-within g c = λ image seen.
    let has = subst (λ (p : Place). (p.size ≡ length (bytes_of image p.file)) × (p.gate < p.size)) (sym c.self.view_is) (c.requires image seen) in
    let size : c.self.inside.size ≡ length (bytes_of image c.self.inside.file) = has.0 in
    let gate : c.self.inside.gate < c.self.inside.size = has.1 in
    omega (arith, size, gate)

pub returns-in_err-body-clause-stands : goal.returns-in_err-body-clause-stands
returns-in_err-body-clause-stands g c = λ image seen. c.requires image (sym c.read_frame.ensures.seen ∙ seen)

pub returns-in_err-body-clause-damaged : goal.returns-in_err-body-clause-damaged
returns-in_err-body-clause-damaged g c = λ image seen at damaged.
    let same : c.in_err-body.field-0.0 ≡ Damaged at = search rules in
    let found = c.in_err-body.ensures.damaged image seen at (λ i. Err (same i)) in
    subst (λ (p : Place). (at ≡ p.gate + 1) × IsDamage (drop p.gate (bytes_of image p.file))) c.self.view_is found

pub returns-in_err-body-clause-whole : goal.returns-in_err-body-clause-whole
returns-in_err-body-clause-whole g c = λ image seen front read frames has shut at damaged.
    let found = returns-in_err-body-clause-damaged g c image seen at damaged in
    no_damage (bytes_of image c.args.self.now.file) c.args.self.now front read frames has shut found.1

pub returns-in_err-body-clause-calls : goal.returns-in_err-body-clause-calls
returns-in_err-body-clause-calls g c =
    let calls = g.S.Store.calls in
    frame_failed c.args.self.now.file c.args.self.now.gate _ _ c.from_residual.result c.from_residual.ensures.0
    (subst (λ (p : Place). (len : ℕ) × Begins (frame_calls p.file p.gate len) (calls c.args.store.now) (calls c.read_frame.new.store)) c.self.view_is c.in_err-body.ensures.calls)

pub returns-in-Some-clause-stands : goal.returns-in-Some-clause-stands
returns-in-Some-clause-stands g c = λ image seen.
    let inside = c.self.inside in
    let has = subst (λ (p : Place). (p.size ≡ length (bytes_of image p.file)) × (p.gate < p.size)) (sym c.self.view_is) (c.requires image (sym c.read_frame.ensures.seen ∙ seen)) in
    let size : inside.size ≡ length (bytes_of image inside.file) = has.0 in
    let len : length c.in-Some.body.items ≡ c.len.result = search rules in
    let bound : inside.gate + 9 + length c.in-Some.body.items < inside.size = subst (λ o. IfSome o (λ body. inside.gate + 9 + length body.items < inside.size)) c.in-Some.is c.in_ok-body.ensures.bound in
    (size, omega (arith, bound, len))

pub returns-in-Some-clause-next : goal.returns-in-Some-clause-next
returns-in-Some-clause-next g c = λ image seen front frames read.
    let inside = c.self.inside in
    let body = c.in-Some.body.items in
    let bytes = bytes_of image inside.file in
    let here = subst (λ (p : Place). HasRead (bytes_of image p.file) p front frames) (sym c.self.view_is) read in
    let next = subst (λ n. IsNext (drop inside.gate bytes) n) c.in-Some.is (c.in_ok-body.ensures.next image seen) in
    let len : length body ≡ c.len.result = search rules in
    let place : ℕ → Place = λ n. record { file = inside.file; gate = inside.gate + 9 + n; size = inside.size; limit = inside.limit; ended = false } in
    subst (λ (p : Place). HasRead (bytes_of image p.file) (place c.len.result) front (frames ++ body ∷ [])) c.self.view_is
    (subst (λ n. HasRead bytes (place n) front (frames ++ body ∷ [])) len (read_on bytes _ front frames body next.0 here next.1))

pub returns-in-None-clause-stands : goal.returns-in-None-clause-stands
returns-in-None-clause-stands g c = λ image seen.
    subst (λ (p : Place). (p.size ≡ length (bytes_of image p.file)) × (p.gate < p.size)) (sym c.self.view_is) (c.requires image (sym c.read_frame.ensures.seen ∙ seen))

pub returns-in-None-clause-next : goal.returns-in-None-clause-next
returns-in-None-clause-next g c = λ image seen front frames read.
    let inside = c.self.inside in
    let bytes = bytes_of image inside.file in
    let here = subst (λ (p : Place). HasRead (bytes_of image p.file) p front frames) (sym c.self.view_is) read in
    let next = subst (λ n. IsNext (drop inside.gate bytes) n) c.in-None.is (c.in_ok-body.ensures.next image seen) in
    let place : Place = record { file = inside.file; gate = inside.gate; size = inside.size; limit = inside.limit; ended = true } in
    subst (λ (p : Place). HasRead (bytes_of image p.file) place front frames × IsShutAfter front (bytes_of image p.file) frames) c.self.view_is (read_end bytes _ front frames here next)
