use Rattle.std.proofs.Common.{◌≡◌, ◌∙◌, ◌+◌, ◌≤◌, ◌^◌, ◌<◌, [], ◌∷◌, List, ℕ, Some, length, sym, ap, subst, arith}
use Rattle.std.specs.Prelude.{is_some}
use Rattle.swf_store.specs.declared.call.Call.{Call}
use Rattle.swf_store.specs.declared.call.Call.TheVariants.{Write, Sync}
use Rattle.swf_store.specs.declared.image.Image.{Image}
use Rattle.swf_store.specs.Calls.{and_calls, Begins}
use Rattle.swf_store.specs.Disk.{Only, TornIn}
use Rattle.swf_store.specs.Files.{bytes_of, with_bytes}
use Rattle.swf_store.specs.Put.{put}
use Rattle.swf_store.proofs.CallLemmas.{makes_failed, begins_longer, begins_after}
use Rattle.swf_store.proofs.Moments.{goes_on_only, weaker_only}
use Rattle.swf_journal.specs.Appending.{staged, BeforeOrAfter}
use Rattle.swf_journal.specs.Frames.{open_gate, frame_tail}
use Rattle.swf_journal.proofs.AppendLemmas.{some_of, length-staged, first_torn, second_torn, after_writes}
use Rattle.swf_journal.proofs.append.write_frame.Goals as goal

pub returns-in_err-write_and_sync-clause-calls : goal.returns-in_err-write_and_sync-clause-calls
returns-in_err-write_and_sync-clause-calls g c =
    let file = c.args.file in
    let first : List ℕ → List Call = λ bytes. Write file (c.args.gate + 1) bytes ∷ Sync ∷ [] in
    let calls = g.S.Store.calls in
    let begins = subst (λ bytes. Begins (first bytes) (calls c.args.store.now) (calls c.write_and_sync.new.store)) c.tail.ensures c.in_err-write_and_sync.ensures.calls.failed in
    makes_failed _ _ _ c.from_residual.result c.from_residual.ensures.0
    (begins_longer (first (frame_tail c.args.frame.now)) (Write file c.args.gate (open_gate ∷ []) ∷ Sync ∷ []) _ _ begins)

pub returns-in_err-write_and_sync-2-clause-calls : goal.returns-in_err-write_and_sync-2-clause-calls
returns-in_err-write_and_sync-2-clause-calls g c =
    let file = c.args.file in
    let first : List ℕ → List Call = λ bytes. Write file (c.args.gate + 1) bytes ∷ Sync ∷ [] in
    let calls = g.S.Store.calls in
    let done = subst (λ bytes. calls c.write_and_sync.new.store ≡ and_calls (first bytes) (calls c.args.store.now)) c.tail.ensures c.in_ok-write_and_sync.ensures.calls.done in
    makes_failed _ _ _ c.from_residual-in_err-write_and_sync-2.result c.from_residual-in_err-write_and_sync-2.ensures.0
    (begins_after (first (frame_tail c.args.frame.now)) (Write file c.args.gate (open_gate ∷ []) ∷ Sync ∷ []) _ _ _ done c.in_err-write_and_sync-2.ensures.calls.failed)

pub returns-in_err-write_and_sync-clause-any_moment : goal.returns-in_err-write_and_sync-clause-any_moment
returns-in_err-write_and_sync-clause-any_moment g c = λ image seen front frames settled.
    let at = c.args.gate in
    let body = c.args.frame.now in
    let may = g.S.Store.may_leave c.args.store.now in
    let tail : c.tail.result.now ≡ frame_tail body = c.tail.ensures in
    weaker_only g.S.Store.moment g.S.Store.left_since g.S.Store.said c.args.store.now c.write_and_sync.new.store _ (BeforeOrAfter c.args.file front image frames body)
    (c.write_and_sync.ensures.any_moment image seen settled.durable)
    (λ left torn. first_torn image may c.args.file at front frames settled body left (subst (λ (l : List ℕ). TornIn c.args.file (at + 1) (length l) image left) tail torn))

pub write_and_sync-requires-2 : goal.write_and_sync-requires-2
write_and_sync-requires-2 g c = λ image seen.
    let file = c.args.file in
    let at = c.args.gate in
    let body = c.args.frame.now in
    let before = some_of (g.S.Store.seen c.args.store.now) (sym c.write_and_sync.ensures.honest ∙ ap is_some seen) in
    let seen_staged : g.S.Store.seen c.write_and_sync.new.store ≡ Some (staged file at body before.0) =
    c.in_ok-write_and_sync.ensures.written before.0 before.1 ∙ ap (λ (l : List ℕ). Some (with_bytes before.0 file (put (bytes_of before.0 file) (at + 1) l))) c.tail.ensures in
    let same : staged file at body before.0 ≡ image = cc in
    let long = length-staged before.0 file at body (c.requires.within before.0 before.1) in
    subst (λ (i : Image). at ≤ length (bytes_of i file)) same (let le : at ≤ length (bytes_of (staged file at body before.0) file) = omega (arith, long) in le)

pub returns-in_err-write_and_sync-2-clause-any_moment : goal.returns-in_err-write_and_sync-2-clause-any_moment
returns-in_err-write_and_sync-2-clause-any_moment g c = λ image seen front frames settled.
    let file = c.args.file in
    let at = c.args.gate in
    let body = c.args.frame.now in
    let old = c.args.store.now in
    let mid = c.write_and_sync.new.store in
    let may = g.S.Store.may_leave old in
    let tail : c.tail.result.now ≡ frame_tail body = c.tail.ensures in
    let fits : length body < 2 ^ 64 = omega (arith, c.requires.fits) in
    let whole = staged file at body image in
    let seen_staged : g.S.Store.seen mid ≡ Some whole =
    c.in_ok-write_and_sync.ensures.written image seen ∙ ap (λ (l : List ℕ). Some (with_bytes image file (put (bytes_of image file) (at + 1) l))) tail in
    let only_staged : Only whole (g.S.Store.may_leave mid) =
    subst (λ (l : List ℕ). Only (with_bytes image file (put (bytes_of image file) (at + 1) l)) (g.S.Store.may_leave mid)) tail (c.in_ok-write_and_sync.ensures.durable image seen) in
    goes_on_only g.S.Store.moment g.S.Store.left_since g.S.Store.said old mid c.write_and_sync-2.new.store _ _ (BeforeOrAfter file front image frames body) c.write_and_sync.ensures.said
    (c.write_and_sync.ensures.any_moment image seen settled.durable)
    (c.write_and_sync-2.ensures.any_moment whole seen_staged only_staged)
    (λ left torn. first_torn image may file at front frames settled body left (subst (λ (l : List ℕ). TornIn file (at + 1) (length l) image left) tail torn))
    (second_torn image may file at front frames settled body fits)

pub returns-clause-any_moment : goal.returns-clause-any_moment
returns-clause-any_moment g c = λ image seen front frames settled.
    let file = c.args.file in
    let at = c.args.gate in
    let body = c.args.frame.now in
    let old = c.args.store.now in
    let mid = c.write_and_sync.new.store in
    let may = g.S.Store.may_leave old in
    let tail : c.tail.result.now ≡ frame_tail body = c.tail.ensures in
    let fits : length body < 2 ^ 64 = omega (arith, c.requires.fits) in
    let whole = staged file at body image in
    let seen_staged : g.S.Store.seen mid ≡ Some whole =
    c.in_ok-write_and_sync.ensures.written image seen ∙ ap (λ (l : List ℕ). Some (with_bytes image file (put (bytes_of image file) (at + 1) l))) tail in
    let only_staged : Only whole (g.S.Store.may_leave mid) =
    subst (λ (l : List ℕ). Only (with_bytes image file (put (bytes_of image file) (at + 1) l)) (g.S.Store.may_leave mid)) tail (c.in_ok-write_and_sync.ensures.durable image seen) in
    goes_on_only g.S.Store.moment g.S.Store.left_since g.S.Store.said old mid c.write_and_sync-2.new.store _ _ (BeforeOrAfter file front image frames body) c.write_and_sync.ensures.said
    (c.write_and_sync.ensures.any_moment image seen settled.durable)
    (c.write_and_sync-2.ensures.any_moment whole seen_staged only_staged)
    (λ left torn. first_torn image may file at front frames settled body left (subst (λ (l : List ℕ). TornIn file (at + 1) (length l) image left) tail torn))
    (second_torn image may file at front frames settled body fits)

pub returns-clause-acknowledged : goal.returns-clause-acknowledged
returns-clause-acknowledged g c = λ image seen front frames settled.
    let file = c.args.file in
    let at = c.args.gate in
    let body = c.args.frame.now in
    let may = g.S.Store.may_leave c.args.store.now in
    let fits : length body < 2 ^ 64 = omega (arith, c.requires.fits) in
    let seen_staged : g.S.Store.seen c.write_and_sync.new.store ≡ Some (staged file at body image) =
    c.in_ok-write_and_sync.ensures.written image seen ∙ ap (λ (l : List ℕ). Some (with_bytes image file (put (bytes_of image file) (at + 1) l))) c.tail.ensures in
    after_writes image may file at front frames settled body fits (g.S.Store.may_leave c.write_and_sync-2.new.store) (c.in_ok-write_and_sync-2.ensures.durable (staged file at body image) seen_staged)
