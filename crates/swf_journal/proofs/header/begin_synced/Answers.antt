use Rattle.std.proofs.Common.{◌≡◌, ◌∙◌, ◌++◌, ◌<◌, ◌≤◌, [], ◌∷◌, List, ℕ, true, false, Some, length, take, ap, subst, arith, rules}
use Rattle.std.specs.Prelude.{is_some}
use Rattle.swf_store.specs.declared.call.Call.TheVariants.{Size, Read, Write, Sync}
use Rattle.swf_store.specs.declared.image.File.TheVariants.{Journal}
use Rattle.swf_store.specs.Disk.{Only}
use Rattle.swf_store.specs.Files.{with_bytes}
use Rattle.swf_store.proofs.CallLemmas.{begins_one, begins_after, begins_all, done_after}
use Rattle.swf_store.proofs.Moments.{weaker_only}
use Rattle.swf_journal.specs.Frames.{header}
use Rattle.swf_journal.specs.JournalCalls.{header_calls}
use Rattle.swf_journal.specs.Opening.{KeepsFrames}
use Rattle.swf_journal.specs.Place.{Place}
use Rattle.swf_journal.proofs.JournalCallLemmas.{header_failed}
use Rattle.swf_journal.proofs.OpenLemmas.{only_keeps, looks_keep, looks_untouched, header_keeps, put_header, begun_reading, length-begun, read_new, read_old}
use Rattle.swf_journal.proofs.header.begin_synced.Goals as goal

pub returns-in_err-size-clause-any_moment : goal.returns-in_err-size-clause-any_moment
returns-in_err-size-clause-any_moment g c = λ image seen.
    let S = g.S.Store in
    weaker_only S.moment S.left_since S.said c.args.store.now c.journal_size.new.store _ (KeepsFrames image) c.journal_size.ensures.any_moment (only_keeps image _ (c.requires image seen))

pub returns-in_err-write_header-clause-any_moment : goal.returns-in_err-write_header-clause-any_moment
returns-in_err-write_header-clause-any_moment g c = λ image seen.
    let S = g.S.Store in
    let short : length image.journal < 25 = omega (arith, c.in_ok-size.ensures.size image seen) in
    header_keeps S.moment S.left_since S.said S.may_leave image c.args.store.now c.journal_size.new.store c.write_header.new.store c.journal_size.ensures.said (c.requires image seen) c.journal_size.ensures.stop c.journal_size.ensures.any_moment
    short (c.write_header.ensures.any_moment image (c.journal_size.ensures.seen ∙ seen))

pub returns-in_err-write_header-clause-calls : goal.returns-in_err-write_header-clause-calls
returns-in_err-write_header-clause-calls g c =
    header_failed _ _ c.from_residual-in_err-write_header.result c.from_residual-in_err-write_header.ensures.0
    (true, begins_after (Size Journal ∷ []) (Write Journal 0 (header ++ 0 ∷ []) ∷ Sync ∷ []) _ _ _ c.in_ok-size.ensures.listed.done c.in_err-write_header.ensures.calls.failed)

pub returns-then-size-lt-LEAST_SIZE-clause-any_moment : goal.returns-then-size-lt-LEAST_SIZE-clause-any_moment
returns-then-size-lt-LEAST_SIZE-clause-any_moment g c = λ image seen.
    let S = g.S.Store in
    let short : length image.journal < 25 = omega (arith, c.in_ok-size.ensures.size image seen) in
    header_keeps S.moment S.left_since S.said S.may_leave image c.args.store.now c.journal_size.new.store c.write_header.new.store c.journal_size.ensures.said (c.requires image seen) c.journal_size.ensures.stop c.journal_size.ensures.any_moment
    short (c.write_header.ensures.any_moment image (c.journal_size.ensures.seen ∙ seen))

pub returns-then-size-lt-LEAST_SIZE-clause-reading : goal.returns-then-size-lt-LEAST_SIZE-clause-reading
returns-then-size-lt-LEAST_SIZE-clause-reading g c = λ image seen.
    let short : length image.journal < 25 = omega (arith, c.in_ok-size.ensures.size image seen) in
    read_new image.journal c.at.result short (ap (λ (p : Place). p.gate) c.at.ensures) (ap (λ (p : Place). p.ended) c.at.ensures)

pub returns-then-size-lt-LEAST_SIZE-clause-opened : goal.returns-then-size-lt-LEAST_SIZE-clause-opened
returns-then-size-lt-LEAST_SIZE-clause-opened g c = λ image seen.
    let short : length image.journal < 25 = omega (arith, c.in_ok-size.ensures.size image seen) in
    c.in_ok-write_header.ensures.written image (c.journal_size.ensures.seen ∙ seen) ∙ ap (λ (l : List ℕ). Some (with_bytes image Journal l)) (put_header image.journal short)

pub returns-then-size-lt-LEAST_SIZE-clause-durable : goal.returns-then-size-lt-LEAST_SIZE-clause-durable
returns-then-size-lt-LEAST_SIZE-clause-durable g c = λ image seen.
    let short : length image.journal < 25 = omega (arith, c.in_ok-size.ensures.size image seen) in
    subst (λ (l : List ℕ). Only (with_bytes image Journal l) (g.S.Store.may_leave c.write_header.new.store)) (put_header image.journal short)
    (c.in_ok-write_header.ensures.durable image (c.journal_size.ensures.seen ∙ seen))

pub returns-then-size-lt-LEAST_SIZE-clause-stands : goal.returns-then-size-lt-LEAST_SIZE-clause-stands
returns-then-size-lt-LEAST_SIZE-clause-stands g c =
    let size : c.at.result.size ≡ c.max.result = ap (λ (p : Place). p.size) c.at.ensures in
    begun_reading (g.S.Store.seen c.args.store.now) (g.S.Store.seen c.write_header.new.store) c.at.result (c.write_header.ensures.honest ∙ ap is_some c.journal_size.ensures.seen)
    (ap (λ (p : Place). p.file) c.at.ensures) (ap (λ (p : Place). p.gate) c.at.ensures)
    (λ image seen.
    let measured = c.in_ok-size.ensures.size image seen in
    let short : length image.journal < 25 = omega (arith, measured) in
    let most = c.max.ensures in
    (returns-then-size-lt-LEAST_SIZE-clause-opened g c image seen, omega (arith, size, most, measured, length-begun image.journal short), omega (arith, size, most)))

pub returns-in_err-has_header-clause-any_moment : goal.returns-in_err-has_header-clause-any_moment
returns-in_err-has_header-clause-any_moment g c = λ image seen.
    let S = g.S.Store in
    looks_keep S.moment S.left_since S.said S.may_leave image c.args.store.now c.journal_size.new.store c.has_header.new.store c.journal_size.ensures.said (c.requires image seen) c.journal_size.ensures.stop c.journal_size.ensures.any_moment
    c.has_header.ensures.any_moment

pub returns-in_err-has_header-clause-calls : goal.returns-in_err-has_header-clause-calls
returns-in_err-has_header-clause-calls g c =
    header_failed _ _ c.from_residual-in_err-has_header.result c.from_residual-in_err-has_header.ensures.0
    (false, begins_after (Size Journal ∷ []) (Read Journal 0 16 ∷ []) _ _ _ c.in_ok-size.ensures.listed.done (begins_one (Read Journal 0 16) [] _ _ c.in_err-has_header.ensures.listed.failed))

pub returns-then-not-branch-clause-any_moment : goal.returns-then-not-branch-clause-any_moment
returns-then-not-branch-clause-any_moment g c = λ image seen.
    let S = g.S.Store in
    looks_keep S.moment S.left_since S.said S.may_leave image c.args.store.now c.journal_size.new.store c.has_header.new.store c.journal_size.ensures.said (c.requires image seen) c.journal_size.ensures.stop c.journal_size.ensures.any_moment
    c.has_header.ensures.any_moment

pub returns-then-not-branch-clause-calls : goal.returns-then-not-branch-clause-calls
returns-then-not-branch-clause-calls g c =
    (false, begins_all (header_calls false) _ _ (done_after (Size Journal ∷ []) (Read Journal 0 16 ∷ []) _ _ _ c.in_ok-size.ensures.listed.done c.in_ok-has_header.ensures.listed.done))

pub returns-clause-any_moment : goal.returns-clause-any_moment
returns-clause-any_moment g c = λ image seen.
    let S = g.S.Store in
    looks_keep S.moment S.left_since S.said S.may_leave image c.args.store.now c.journal_size.new.store c.has_header.new.store c.journal_size.ensures.said (c.requires image seen) c.journal_size.ensures.stop c.journal_size.ensures.any_moment
    c.has_header.ensures.any_moment

pub returns-clause-reading : goal.returns-clause-reading
returns-clause-reading g c = λ image seen.
    let long : 25 ≤ length image.journal = omega (arith, c.in_ok-size.ensures.size image seen) in
    let either = c.in_ok-has_header.ensures.header image (c.journal_size.ensures.seen ∙ seen) in
    let found = c.if-not-branch.false in
    let right : take 16 image.journal ≡ header = either.0 (search rules) in
    read_old image.journal c.at-2.result long right (ap (λ (p : Place). p.gate) c.at-2.ensures) (ap (λ (p : Place). p.ended) c.at-2.ensures)

pub returns-in_err-size-clause-untouched : goal.returns-in_err-size-clause-untouched
returns-in_err-size-clause-untouched g c = λ image seen long. record { same = c.journal_size.ensures.seen; stop = c.journal_size.ensures.stop; any_moment = c.journal_size.ensures.any_moment }

pub returns-in_err-write_header-clause-untouched : goal.returns-in_err-write_header-clause-untouched
returns-in_err-write_header-clause-untouched g c = λ image seen long. absurd (omega (arith, long, c.in_ok-size.ensures.size image seen))

pub returns-then-size-lt-LEAST_SIZE-clause-untouched : goal.returns-then-size-lt-LEAST_SIZE-clause-untouched
returns-then-size-lt-LEAST_SIZE-clause-untouched g c = λ image seen long. absurd (omega (arith, long, c.in_ok-size.ensures.size image seen))

pub returns-in_err-has_header-clause-untouched : goal.returns-in_err-has_header-clause-untouched
returns-in_err-has_header-clause-untouched g c = λ image seen long.
    let S = g.S.Store in
    let one = c.journal_size.ensures in
    let two = c.has_header.ensures in
    looks_untouched S.moment S.left_since S.said S.may_leave S.seen c.args.store.now c.journal_size.new.store c.has_header.new.store one.said one.seen one.stop one.any_moment two.seen two.stop two.any_moment

pub returns-then-not-branch-clause-untouched : goal.returns-then-not-branch-clause-untouched
returns-then-not-branch-clause-untouched g c = λ image seen long.
    let S = g.S.Store in
    let one = c.journal_size.ensures in
    let two = c.has_header.ensures in
    looks_untouched S.moment S.left_since S.said S.may_leave S.seen c.args.store.now c.journal_size.new.store c.has_header.new.store one.said one.seen one.stop one.any_moment two.seen two.stop two.any_moment

pub returns-clause-untouched : goal.returns-clause-untouched
returns-clause-untouched g c = λ image seen long.
    let S = g.S.Store in
    let one = c.journal_size.ensures in
    let two = c.has_header.ensures in
    looks_untouched S.moment S.left_since S.said S.may_leave S.seen c.args.store.now c.journal_size.new.store c.has_header.new.store one.said one.seen one.stop one.any_moment two.seen two.stop two.any_moment
