use Rattle.std.proofs.Common.{◌≡◌, ◌∙◌, ◌<◌, [], ◌∷◌, false, length, take, ap, arith, rules}
use Rattle.swf_store.specs.declared.call.Call.TheVariants.{Size, Read}
use Rattle.swf_store.specs.declared.image.File.TheVariants.{Journal}
use Rattle.swf_store.proofs.CallLemmas.{begins_one, begins_after, begins_all, done_after, makes_failed}
use Rattle.swf_journal.specs.Frames.{header}
use Rattle.swf_journal.specs.JournalCalls.{header_calls}
use Rattle.swf_journal.specs.Place.{Place}
use Rattle.swf_journal.proofs.OpenLemmas.{read_first}
use Rattle.swf_journal.proofs.header.begin_again.Goals as goal

pub returns-clause-reading : goal.returns-clause-reading
returns-clause-reading g c = λ image seen.
    let long : 16 < length image.journal = omega (arith, c.in_ok-size.ensures.size image seen, c.if-size-le-BEHIND_HEADER.false) in
    let either = c.in_ok-right.ensures.header image (c.journal_size.ensures.seen ∙ seen) in
    let found = c.if-not-right.false in
    let right : take 16 image.journal ≡ header = either.0 (search rules) in
    read_first image.journal c.at.result long right (ap (λ (p : Place). p.gate) c.at.ensures) (ap (λ (p : Place). p.ended) c.at.ensures)

pub returns-in_err-right-clause-calls : goal.returns-in_err-right-clause-calls
returns-in_err-right-clause-calls g c =
    makes_failed (header_calls false) _ _ c.from_residual-in_err-right.result c.from_residual-in_err-right.ensures.0
    (begins_after (Size Journal ∷ []) (Read Journal 0 16 ∷ []) _ _ _ c.in_ok-size.ensures.listed.done (begins_one (Read Journal 0 16) [] _ _ c.in_err-right.ensures.listed.failed))

pub returns-then-not-right-clause-calls : goal.returns-then-not-right-clause-calls
returns-then-not-right-clause-calls g c = record {
  done = tt;
  failed = begins_all (header_calls false) _ _ (done_after (Size Journal ∷ []) (Read Journal 0 16 ∷ []) _ _ _ c.in_ok-size.ensures.listed.done c.in_ok-right.ensures.listed.done);
}
