use Rattle.std.proofs.Common.{◌≡◌, ◌∙◌, ◌+◌, sym, ap, length, get_or, nat_le, ◌||◌, ◌==◌, if◌then◌else◌, arith, List, ℕ}
use Rattle.swf_http.specs.declared.fault.HttpFault.TheVariants.{Ended, BadMessage}
use Rattle.swf_http.proofs.ReadLemmas.{splits_on, all_read}
use Rattle.swf_http.proofs.ContentLemmas.{cut_says, content_there, content_bad}
use Rattle.swf_http.proofs.chunked.read_content.Goals as goal

pub returns-then-branch-eq0-clause-says : goal.returns-then-branch-eq0-clause-says
returns-then-branch-eq0-clause-says g c = λ x s.
    let items = c.grow.new.buffer.items in
    let all : x ≡ items = all_read x c.pieces.buffer.items items (g.S.Source.left c.pieces.from) (g.S.Source.left c.grow.new.from)
    c.in_ok-grow.field-0 (c.pieces.invariant.splits x s) c.in_ok-grow.ensures.grows c.if-branch-eq0.true in
    let same = ap length all in
    cut_says x c.args.at c.args.size c.cut_off.result
    (omega (arith, same, c.in_ok-grow.ensures.size, c.pieces.invariant.within, c.grow.new.buffer.ok.0))
    (omega (arith, same, c.len.ensures, c.pieces-test.true, c.if-branch-eq0.true, c.in_ok-grow.ensures.size, c.pieces.buffer.ok.0, c.grow.new.buffer.ok.0))
    (c.cut_off.ensures ∙ ap (λ (t : List ℕ). if nat_le (length t) (c.args.at + c.args.size) || get_or t (c.args.at + c.args.size) 0 == 13 then Ended else BadMessage)
    (c.deref.ensures.value ∙ sym all))

pub pieces-preserved : goal.pieces-preserved
pieces-preserved g c = record {
  ends = c.pieces.invariant.ends;
  within = omega (arith, c.in_ok-grow.ensures.size, c.pieces.invariant.within);
  most = λ most old new. omega (arith, c.in_ok-grow.ensures.size, new);
  splits = λ x s. splits_on x c.pieces.buffer.items c.grow.new.buffer.items (g.S.Source.left c.pieces.from)
      (g.S.Source.left c.grow.new.from) c.in_ok-grow.field-0 (c.pieces.invariant.splits x s) c.in_ok-grow.ensures.grows;
  beside = c.grow.ensures.beside ∙ c.pieces.invariant.beside;
  faults = cc (c.in_ok-grow.ensures.cause, c.pieces.invariant.faults);
}

pub returns-then-closes_at-clause-says : goal.returns-then-closes_at-clause-says
returns-then-closes_at-clause-says g c = λ x s.
    let items = c.pieces.buffer.items in
    let splits = c.pieces.invariant.splits x s in (
      splits,
      content_there x items c.deref-2.result.now (g.S.Source.left c.pieces.from) c.args.at c.args.size splits
          (omega (arith, c.len.ensures, c.pieces-test.false, c.pieces.buffer.ok.0)) c.deref-2.ensures.value (sym c.closes_at.ensures ∙ c.if-closes_at.true),
    )

pub returns-else-closes_at-clause-says : goal.returns-else-closes_at-clause-says
returns-else-closes_at-clause-says g c = λ x s.
    let items = c.pieces.buffer.items in
    content_bad x items c.deref-2.result.now (g.S.Source.left c.pieces.from) c.args.at c.args.size (c.pieces.invariant.splits x s)
    (omega (arith, c.len.ensures, c.pieces-test.false, c.pieces.buffer.ok.0)) c.deref-2.ensures.value (sym c.closes_at.ensures ∙ c.if-closes_at.false)
