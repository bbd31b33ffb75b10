use Rattle.std.proofs.Common.{◌∙◌, ◌++◌, ◌+◌, take, refl, arith}
use Rattle.std.proofs.lemmas.Result.{err_from_is_err_and}
use Rattle.swf_http.proofs.SinkLemmas.{part, one_more}
use Rattle.swf_http.proofs.sink.write_all.Goals as goal

pub returns-in_err-count-clause-told : goal.returns-in_err-count-clause-told
returns-in_err-count-clause-told g c =
    let p = err_from_is_err_and c.from_residual.result c.from_residual.ensures.1 in
    rw p.1
    (λ before told. (
      before ++ take c.pieces.at c.args.bytes.now,
      c.in_err-count.ensures.told ∙ c.pieces.invariant.told before told,
      part c.args.bytes.now before c.pieces.at,
    ))

pub returns-then-count-eq0-clause-told : goal.returns-then-count-eq0-clause-told
returns-then-count-eq0-clause-told g c = λ before told. (
  before ++ take (c.pieces.at + c.in_ok-count.count) c.args.bytes.now,
  one_more c.args.bytes.now before _ c.pieces.at c.in_ok-count.count (g.W.Sink.written c.write.new.self)
      c.pieces.invariant.within refl (c.in_ok-count.ensures.told _ (c.pieces.invariant.told before told)),
  part c.args.bytes.now before (c.pieces.at + c.in_ok-count.count),
)

pub pieces-preserved : goal.pieces-preserved
pieces-preserved g c = record {
  within = omega (arith, c.in_ok-count.ensures.bound);
  told = λ before told. one_more c.args.bytes.now before _ c.pieces.at c.in_ok-count.count (g.W.Sink.written c.write.new.self)
      c.pieces.invariant.within refl (c.in_ok-count.ensures.told _ (c.pieces.invariant.told before told));
  faults = c.in_ok-count.ensures.cause.0 (omega (arith, c.if-count-eq0.false)) ∙ c.pieces.invariant.faults;
  kept = c.write.ensures.kept ∙ c.pieces.invariant.kept;
}
