use Rattle.std.proofs.Common.{◌∙◌, arith}
use Rattle.swf_http.proofs.ReadLemmas.{splits_on, all_read}
use Rattle.swf_http.proofs.grow.fill.Goals as goal

pub returns-then-branch-eq0-clause-splits : goal.returns-then-branch-eq0-clause-splits
returns-then-branch-eq0-clause-splits g c = λ x s.
    splits_on x c.pieces.buffer.items c.grow.new.buffer.items (g.S.Source.left c.pieces.from) (g.S.Source.left c.grow.new.from)
    c.in_ok-grow.field-0 (c.pieces.invariant.splits x s) c.in_ok-grow.ensures.grows

pub returns-then-branch-eq0-clause-at_end : goal.returns-then-branch-eq0-clause-at_end
returns-then-branch-eq0-clause-at_end g c = λ x s _.
    all_read x c.pieces.buffer.items c.grow.new.buffer.items (g.S.Source.left c.pieces.from) (g.S.Source.left c.grow.new.from)
    c.in_ok-grow.field-0 (c.pieces.invariant.splits x s) c.in_ok-grow.ensures.grows c.if-branch-eq0.true

pub returns-then-len-most-clause-splits : goal.returns-then-len-most-clause-splits
returns-then-len-most-clause-splits g c = λ x s.
    splits_on x c.pieces.buffer.items c.grow.new.buffer.items (g.S.Source.left c.pieces.from) (g.S.Source.left c.grow.new.from)
    c.in_ok-grow.field-0 (c.pieces.invariant.splits x s) c.in_ok-grow.ensures.grows

pub pieces-preserved : goal.pieces-preserved
pieces-preserved g c = record {
  size = omega (arith, c.in_ok-grow.ensures.size, c.pieces.invariant.size);
  under = omega (arith, c.len.ensures, c.if-len-most.false);
  splits = λ x s. splits_on x c.pieces.buffer.items c.grow.new.buffer.items (g.S.Source.left c.pieces.from)
      (g.S.Source.left c.grow.new.from) c.in_ok-grow.field-0 (c.pieces.invariant.splits x s) c.in_ok-grow.ensures.grows;
  beside = c.grow.ensures.beside ∙ c.pieces.invariant.beside;
  faults = cc (c.in_ok-grow.ensures.cause, c.pieces.invariant.faults);
}
