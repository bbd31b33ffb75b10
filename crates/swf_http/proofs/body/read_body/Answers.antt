use Rattle.std.proofs.Common.{◌≡◌, ◌∙◌, drop, arith, ℕ, List}
use Rattle.std.proofs.lemmas.Result.{err_from_is_err_and}
use Rattle.swf_http.specs.Bodies.{body_of}
use Rattle.swf_http.specs.Verdicts.{Verdict}
use Rattle.swf_http.proofs.ReadLemmas.{splits_on, all_read, read_fault_says, body_there, body_short}
use Rattle.swf_http.proofs.body.read_body.Goals as goal

pub returns-in_err-grow-clause-says : goal.returns-in_err-grow-clause-says
returns-in_err-grow-clause-says g c =
    let p = err_from_is_err_and c.from_residual.result c.from_residual.ensures.1 in
    λ x s. rw (p.1, p.2)
    (read_fault_says (λ (behind : List ℕ) (v : Verdict (List ℕ)). v ≡ body_of c.args.size behind) (drop c.args.at x) c.in_err-grow.field-0.0 c.in_err-grow.ensures.faults)

pub returns-then-branch-eq0-clause-says : goal.returns-then-branch-eq0-clause-says
returns-then-branch-eq0-clause-says g c = λ x s.
    body_short x c.grow.new.buffer.items c.args.at c.args.size
    (all_read x c.pieces.buffer.items c.grow.new.buffer.items (g.S.Source.left c.pieces.from) (g.S.Source.left c.grow.new.from)
    c.in_ok-grow.field-0 (c.pieces.invariant.splits x s) c.in_ok-grow.ensures.grows c.if-branch-eq0.true)
    (omega (arith, c.len.ensures, c.pieces-test.true, c.if-branch-eq0.true, c.in_ok-grow.ensures.size, c.pieces.buffer.ok.0, c.grow.new.buffer.ok.0))

pub pieces-preserved : goal.pieces-preserved
pieces-preserved g c = record {
  within = omega (arith, c.in_ok-grow.ensures.size, c.pieces.invariant.within);
  splits = λ x s. splits_on x c.pieces.buffer.items c.grow.new.buffer.items (g.S.Source.left c.pieces.from)
      (g.S.Source.left c.grow.new.from) c.in_ok-grow.field-0 (c.pieces.invariant.splits x s) c.in_ok-grow.ensures.grows;
  beside = c.grow.ensures.beside ∙ c.pieces.invariant.beside;
  faults = cc (c.in_ok-grow.ensures.cause, c.pieces.invariant.faults);
}

pub returns-clause-says : goal.returns-clause-says
returns-clause-says g c = λ x s.
    body_there x c.pieces.buffer.items c.in_ok-to_vec.field-0.items (g.S.Source.left c.pieces.from) c.args.at c.args.size (c.pieces.invariant.splits x s)
    (omega (arith, c.len.ensures, c.pieces-test.false, c.pieces.invariant.within, c.pieces.buffer.ok.0))
    (grind (arith, c.in_ok-to_vec.ensures.ok, c.deref.ensures.value))
