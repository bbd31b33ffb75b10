use Rattle.std.proofs.Common.{◌≡◌, ◌∙◌, ◌+◌, ◌-◌, ◌≤◌, ◌^◌, ◌<◌, ◌++◌, [], ◌∷◌, List, ℕ, Err, length, sym, ap, subst, arith, rules}
use Rattle.swf_store.specs.Files.{bytes_of}
use Rattle.swf_store.specs.Stops.{LeavesOnly}
use Rattle.swf_journal.specs.declared.fault.AppendFault.TheVariants.{Store, Full}
use Rattle.swf_journal.specs.Appending.{appended, BeforeOrAfter}
use Rattle.swf_journal.specs.Place.{Gate, IsSettled, IsJournalOf}
use Rattle.swf_journal.proofs.FrameLemmas.{length-frame_tail}
use Rattle.swf_journal.proofs.AppendLemmas.{ready_again}
use Rattle.swf_journal.proofs.append.Journal.append.Goals as goal

pub returns-then-end-self-clause-full : goal.returns-then-end-self-clause-full
returns-then-end-self-clause-full g c = λ size.
    let at : c.self.inside.gate ≡ c.args.self.now.at = ap (λ (p : Gate). p.at) c.self.view_is in
    let limit : c.self.inside.limit ≡ c.args.self.now.limit = ap (λ (p : Gate). p.limit) c.self.view_is in
    let tail : length c.tail.result.now ≡ length c.args.frame.now + 9 = ap (λ (l : List ℕ). length l) c.tail.ensures ∙ length-frame_tail c.args.frame.now in
    let past : c.args.self.now.limit < c.args.self.now.at + 10 + length c.args.frame.now = omega (arith, at, limit, tail) in (
      (λ full. let same : size ≡ c.self.inside.gate + 1 = cc in (past, same ∙ ap (λ n. n + 1) at)),
      (λ given. ap (λ n. Err (Full n)) (ap (λ n. n + 1) at ∙ sym given.1)),
    )

pub write_frame-requires-clause-within : goal.write_frame-requires-clause-within
write_frame-requires-clause-within g c = λ image seen. subst (λ (p : Gate). p.at < length (bytes_of image p.file)) (sym c.self.view_is) (c.requires image seen)

pub write_frame-requires-clause-fits : goal.write_frame-requires-clause-fits
write_frame-requires-clause-fits g c =
    let few : c.self.inside.limit + 1 < 2 ^ 64 = c.self.invariant.1 in
    let tail : length c.tail.result.now ≡ length c.args.frame.now + 9 = ap (λ (l : List ℕ). length l) c.tail.ensures ∙ length-frame_tail c.args.frame.now in
    omega (arith, few, tail)

pub returns-in_err-write_frame-clause-any_moment : goal.returns-in_err-write_frame-clause-any_moment
returns-in_err-write_frame-clause-any_moment g c = λ image seen front frames settled.
    let S = g.S.Store in
    let old = c.args.store.now in
    let here = subst (λ (p : Gate). IsSettled image (S.may_leave old) p.file p.at front frames) (sym c.self.view_is) settled in
    subst (λ (p : Gate). LeavesOnly S.moment S.left_since S.said old c.write_frame.new.store (BeforeOrAfter p.file front image frames c.args.frame.now)) c.self.view_is
    (c.write_frame.ensures.any_moment image seen front frames here)

pub returns-in_err-write_frame-clause-full : goal.returns-in_err-write_frame-clause-full
returns-in_err-write_frame-clause-full g c = λ size.
    let at : c.self.inside.gate ≡ c.args.self.now.at = ap (λ (p : Gate). p.at) c.self.view_is in
    let limit : c.self.inside.limit ≡ c.args.self.now.limit = ap (λ (p : Gate). p.limit) c.self.view_is in
    let few : c.self.inside.limit + 1 < 2 ^ 64 = c.self.invariant.1 in
    let tail : length c.tail.result.now ≡ length c.args.frame.now + 9 = ap (λ (l : List ℕ). length l) c.tail.ensures ∙ length-frame_tail c.args.frame.now in
    let fits : c.self.inside.gate + 10 + length c.args.frame.now ≤ c.self.inside.limit = omega (arith, few, tail) in
    let store : c.from_residual.result ≡ Err Store = search rules in (
      (λ full. absurd (cc (store, full))),
      (λ given. absurd (omega (arith, given.0, fits, at, limit))),
    )

pub returns-in_err-write_frame-clause-untouched : goal.returns-in_err-write_frame-clause-untouched
returns-in_err-write_frame-clause-untouched g c = λ past.
    let at : c.self.inside.gate ≡ c.args.self.now.at = ap (λ (p : Gate). p.at) c.self.view_is in
    let limit : c.self.inside.limit ≡ c.args.self.now.limit = ap (λ (p : Gate). p.limit) c.self.view_is in
    let few : c.self.inside.limit + 1 < 2 ^ 64 = c.self.invariant.1 in
    let tail : length c.tail.result.now ≡ length c.args.frame.now + 9 = ap (λ (l : List ℕ). length l) c.tail.ensures ∙ length-frame_tail c.args.frame.now in
    let fits : c.self.inside.gate + 10 + length c.args.frame.now ≤ c.self.inside.limit = omega (arith, few, tail) in
    absurd (omega (arith, past, fits, at, limit))

pub returns-clause-stands : goal.returns-clause-stands
returns-clause-stands g c = λ image seen.
    let S = g.S.Store in
    let inside = c.self.inside in
    let few : inside.limit + 1 < 2 ^ 64 = c.self.invariant.1 in
    let tail : length c.tail.result.now ≡ length c.args.frame.now + 9 = ap (λ (l : List ℕ). length l) c.tail.ensures ∙ length-frame_tail c.args.frame.now in
    let within : inside.gate + 9 + length c.args.frame.now < length (bytes_of image inside.file) =
    ready_again (S.seen c.args.store.now) (S.seen c.write_frame.new.store) inside.file inside.gate inside.limit c.args.frame.now c.write_frame.ensures.honest
    (subst (IsJournalOf (S.seen c.args.store.now)) (sym c.self.view_is) c.requires) c.in_ok-write_frame.ensures.written image seen in
    omega (arith, within, few, tail)

pub returns-clause-acknowledged : goal.returns-clause-acknowledged
returns-clause-acknowledged g c = λ image seen front frames settled.
    let S = g.S.Store in
    let inside = c.self.inside in
    let body = c.args.frame.now in
    let new = S.may_leave c.write_frame.new.store in
    let few : inside.limit + 1 < 2 ^ 64 = c.self.invariant.1 in
    let tail : length c.tail.result.now ≡ length body + 9 = ap (λ (l : List ℕ). length l) c.tail.ensures ∙ length-frame_tail body in
    let place : inside.gate + 9 + length body ≡ c.saturating_add-end.result - 1 = omega (arith, few, tail) in
    let here = subst (λ (p : Gate). IsSettled image (S.may_leave c.args.store.now) p.file p.at front frames) (sym c.self.view_is) settled in
    subst (λ (p : Gate). IsSettled (appended p.file p.at body image) new p.file (c.saturating_add-end.result - 1) front (frames ++ body ∷ [])) c.self.view_is
    (subst (λ n. IsSettled (appended inside.file inside.gate body image) new inside.file n front (frames ++ body ∷ [])) place (c.in_ok-write_frame.ensures.acknowledged image seen front frames here))

pub returns-clause-any_moment : goal.returns-clause-any_moment
returns-clause-any_moment g c = λ image seen front frames settled.
    let S = g.S.Store in
    let old = c.args.store.now in
    let here = subst (λ (p : Gate). IsSettled image (S.may_leave old) p.file p.at front frames) (sym c.self.view_is) settled in
    subst (λ (p : Gate). LeavesOnly S.moment S.left_since S.said old c.write_frame.new.store (BeforeOrAfter p.file front image frames c.args.frame.now)) c.self.view_is
    (c.write_frame.ensures.any_moment image seen front frames here)

pub returns-clause-next : goal.returns-clause-next
returns-clause-next g c =
    let inside = c.self.inside in
    let body = c.args.frame.now in
    let few : inside.limit + 1 < 2 ^ 64 = c.self.invariant.1 in
    let tail : length c.tail.result.now ≡ length body + 9 = ap (λ (l : List ℕ). length l) c.tail.ensures ∙ length-frame_tail body in
    let place : c.saturating_add-end.result - 1 ≡ inside.gate + 9 + length body = omega (arith, few, tail) in
    let moved : ℕ → Gate = λ n. record { file = inside.file; at = n; limit = inside.limit } in
    let after : Gate → Gate = λ p. record p { at = p.at + 9 + length body } in
    ap moved place ∙ ap after c.self.view_is

pub returns-clause-full : goal.returns-clause-full
returns-clause-full g c = λ size.
    let at : c.self.inside.gate ≡ c.args.self.now.at = ap (λ (p : Gate). p.at) c.self.view_is in
    let limit : c.self.inside.limit ≡ c.args.self.now.limit = ap (λ (p : Gate). p.limit) c.self.view_is in
    let few : c.self.inside.limit + 1 < 2 ^ 64 = c.self.invariant.1 in
    let tail : length c.tail.result.now ≡ length c.args.frame.now + 9 = ap (λ (l : List ℕ). length l) c.tail.ensures ∙ length-frame_tail c.args.frame.now in
    let fits : c.self.inside.gate + 10 + length c.args.frame.now ≤ c.self.inside.limit = omega (arith, few, tail) in (
      (λ full. absurd (cc)),
      (λ given. absurd (omega (arith, given.0, fits, at, limit))),
    )

pub returns-clause-untouched : goal.returns-clause-untouched
returns-clause-untouched g c = λ past.
    let at : c.self.inside.gate ≡ c.args.self.now.at = ap (λ (p : Gate). p.at) c.self.view_is in
    let limit : c.self.inside.limit ≡ c.args.self.now.limit = ap (λ (p : Gate). p.limit) c.self.view_is in
    let few : c.self.inside.limit + 1 < 2 ^ 64 = c.self.invariant.1 in
    let tail : length c.tail.result.now ≡ length c.args.frame.now + 9 = ap (λ (l : List ℕ). length l) c.tail.ensures ∙ length-frame_tail c.args.frame.now in
    let fits : c.self.inside.gate + 10 + length c.args.frame.now ≤ c.self.inside.limit = omega (arith, few, tail) in
    absurd (omega (arith, past, fits, at, limit))
