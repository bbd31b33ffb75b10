use Rattle.std.proofs.Common.{◌∙◌, arith}
use Rattle.swf_http.proofs.ReadLemmas.{splits_on, all_read, rest_there, rest_long, slice_is}
use Rattle.swf_http.proofs.body.read_rest.Goals as goal

pub returns-then-branch-eq0-clause-says : goal.returns-then-branch-eq0-clause-says
returns-then-branch-eq0-clause-says g c = λ x s.
    let items = c.grow.new.buffer.items in
    rest_there x items c.in_ok-to_vec.field-0.items c.args.at
    (all_read x c.pieces.buffer.items items (g.S.Source.left c.pieces.from) (g.S.Source.left c.grow.new.from)
    c.in_ok-grow.field-0 (c.pieces.invariant.splits x s) c.in_ok-grow.ensures.grows c.if-branch-eq0.true)
    (omega (arith, c.len.ensures, c.pieces-test.true, c.if-branch-eq0.true, c.in_ok-grow.ensures.size, c.pieces.buffer.ok.0, c.grow.new.buffer.ok.0))
    (grind (arith, c.in_ok-to_vec.ensures.ok, slice_is c.args.at c.deref.result.now items c.deref.ensures.value))

pub pieces-preserved : goal.pieces-preserved
pieces-preserved g c = record {
  within = omega (arith, c.in_ok-grow.ensures.size, c.pieces.invariant.within);
  splits = λ x s. splits_on x c.pieces.buffer.items c.grow.new.buffer.items (g.S.Source.left c.pieces.from)
      (g.S.Source.left c.grow.new.from) c.in_ok-grow.field-0 (c.pieces.invariant.splits x s) c.in_ok-grow.ensures.grows;
  beside = c.grow.ensures.beside ∙ c.pieces.invariant.beside;
  faults = cc (c.in_ok-grow.ensures.cause, c.pieces.invariant.faults);
}

pub returns-clause-says : goal.returns-clause-says
returns-clause-says g c = λ x s.
    rest_long x c.pieces.buffer.items (g.S.Source.left c.pieces.from) c.args.at (c.pieces.invariant.splits x s)
    (omega (arith, c.len.ensures, c.pieces-test.false, c.pieces.invariant.within, c.pieces.buffer.ok.0))
