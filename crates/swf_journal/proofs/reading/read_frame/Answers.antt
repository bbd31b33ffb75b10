use Rattle.std.proofs.Common.{rules, ◌≡◌, ◌∙◌, ◌+◌, ◌<◌, ◌≤◌, [], ◌∷◌, List, ℕ, Err, refl, length, take, drop, sym, ap, subst, arith, length-drop}
use Rattle.std.proofs.lemmas.List.{drop-drop}
use Rattle.swf_store.specs.declared.call.Call.TheVariants.{Read}
use Rattle.swf_store.specs.Files.{bytes_of}
use Rattle.swf_store.proofs.CallLemmas.{begins_one, begins_after}
use Rattle.swf_journal.specs.declared.fault.OpenFault.TheVariants.{Damaged}
use Rattle.swf_journal.specs.Opening.{IsHead}
use Rattle.swf_journal.proofs.JournalCallLemmas.{frame_failed}
use Rattle.swf_journal.proofs.OpenLemmas.{cut_head, long_head, whole_head}
use Rattle.swf_journal.proofs.reading.read_frame.Goals as goal

pub returns-in_err-read_head-clause-calls : goal.returns-in_err-read_head-clause-calls
returns-in_err-read_head-clause-calls g c =
    let file = c.args.file in
    let gate = c.args.gate in
    frame_failed file gate _ _ c.from_residual.result c.from_residual.ensures.0
    (0, begins_one (Read file gate 9) (Read file (gate + 9) 0 ∷ []) _ _ c.in_err-read_head.ensures.listed.failed)

pub returns-in_err-read_body-in-Open-clause-calls : goal.returns-in_err-read_body-in-Open-clause-calls
returns-in_err-read_body-in-Open-clause-calls g c =
    let file = c.args.file in
    let gate = c.args.gate in
    let len = c.in-Open.len in
    frame_failed file gate _ _ c.from_residual-in_err-read_body-in-Open.result c.from_residual-in_err-read_body-in-Open.ensures.0
    (len, begins_after (Read file gate 9 ∷ []) (Read file (gate + 9) len ∷ []) _ _ _ c.in_ok-read_head.ensures.listed.done c.in_err-read_body-in-Open.ensures.calls.failed)

pub returns-in_err-read_body-in-Open-clause-damaged : goal.returns-in_err-read_body-in-Open-clause-damaged
returns-in_err-read_body-in-Open-clause-damaged g c = λ image seen at damaged.
    let same : c.in_err-read_body-in-Open.field-0.0 ≡ Damaged at = search rules in
    absurd (c.in_err-read_body-in-Open.ensures.not_damaged image (c.read_head.ensures.seen ∙ seen) at (λ i. Err (same i)))

pub returns-in_err-read_body-in-Open-clause-enough : goal.returns-in_err-read_body-in-Open-clause-enough
returns-in_err-read_body-in-Open-clause-enough g c = λ image seen lacks.
    let bytes = bytes_of image c.args.file in
    let behind = drop c.args.gate bytes in
    let len = c.in-Open.len in
    let head = subst (λ h. IsHead (take 9 behind) h) c.in-Open.is (c.in_ok-read_head.ensures.head image seen) in
    let room : 9 + len < length behind = omega (arith, c.requires.size image seen, length-drop c.args.gate bytes) in
    (take len (drop 9 behind), drop (9 + len) behind, whole_head behind (take len (drop 9 behind)) len head room refl)

pub returns-in-Cut-clause-damaged : goal.returns-in-Cut-clause-damaged
returns-in-Cut-clause-damaged g c = λ image seen at damaged.
    let behind = drop c.args.gate (bytes_of image c.args.file) in
    let same : at ≡ c.args.gate + 1 = cc in
    (same, cut_head behind (subst (λ h. IsHead (take 9 behind) h) c.in-Cut.is (c.in_ok-read_head.ensures.head image seen)))

pub returns-then-saturating_sub-len-clause-damaged : goal.returns-then-saturating_sub-len-clause-damaged
returns-then-saturating_sub-len-clause-damaged g c = λ image seen at damaged.
    let bytes = bytes_of image c.args.file in
    let behind = drop c.args.gate bytes in
    let same : at ≡ c.args.gate + 1 = cc in
    let head = subst (λ h. IsHead (take 9 behind) h) c.in-Open.is (c.in_ok-read_head.ensures.head image seen) in
    let past : length behind ≤ 9 + c.in-Open.len = omega (arith, c.requires.size image seen, length-drop c.args.gate bytes) in
    (same, long_head behind c.in-Open.len head past)

pub returns-in_ok-read_body-in-Open-clause-next : goal.returns-in_ok-read_body-in-Open-clause-next
returns-in_ok-read_body-in-Open-clause-next g c = λ image seen.
    let bytes = bytes_of image c.args.file in
    let behind = drop c.args.gate bytes in
    let len = c.in-Open.len in
    let head = subst (λ h. IsHead (take 9 behind) h) c.in-Open.is (c.in_ok-read_head.ensures.head image seen) in
    let room : 9 + len < length behind = omega (arith, c.requires.size image seen, length-drop c.args.gate bytes) in
    let body = c.in_ok-read_body-in-Open.field-0.items in
    let is : body ≡ take len (drop 9 behind) =
    c.in_ok-read_body-in-Open.ensures.body image (c.read_head.ensures.seen ∙ seen) ∙ ap (λ (l : List ℕ). take len l) (sym (drop-drop 9 c.args.gate bytes)) in
    (drop (9 + len) behind, whole_head behind body len head room is)
