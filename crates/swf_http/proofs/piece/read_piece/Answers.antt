use Rattle.std.proofs.Common.{◌∙◌, refl, ap, arith, length-drop, drop, List, ℕ, Some, None, Ok, Err}
use Rattle.std.proofs.lemmas.Result.{err_from_is_err_and}
use Rattle.swf_http.proofs.ReadLemmas.{splits_behind, slice_is, settle_fault_says, settles_at, says_long, says_ended}
use Rattle.swf_http.proofs.piece.read_piece.Goals as goal

pub returns-in_err-found-clause-says : goal.returns-in_err-found-clause-says
returns-in_err-found-clause-says g c =
    let p = err_from_is_err_and c.from_residual.result c.from_residual.ensures.1 in
    let items = c.looks.buffer.items in
    let behind = drop c.args.at items in
    λ x s. rw (p.1, p.2)
    (settle_fault_says g.P.Piece.form g.P.Piece.stands _ (drop c.args.at x) behind (g.S.Source.left c.looks.from) c.in_err-found.field-0.0
    (splits_behind x items (g.S.Source.left c.looks.from) c.args.at (c.looks.invariant.splits x s) (omega (arith, c.requires.at, c.looks.invariant.grew, c.looks.buffer.ok.0)))
    (omega (arith, length-drop c.args.at items, c.looks.invariant.size, c.looks.buffer.ok.0))
    (settles_at g.P.Piece.form g.P.Piece.stands _ behind (Err c.in_err-found.field-0.0) (Err c.in_err-found.field-0.0) (slice_is c.args.at c.deref.result.now items c.deref.ensures.value) refl c.in_err-found.ensures))

pub returns-in-Some-clause-found : goal.returns-in-Some-clause-found
returns-in-Some-clause-found g c =
    let items = c.looks.buffer.items in
    settles_at g.P.Piece.form g.P.Piece.stands _ (drop c.args.at items) (Ok c.in_ok-found.field-0) (Ok (Some c.in-Some.found)) (slice_is c.args.at c.deref.result.now items c.deref.ensures.value)
    (ap Ok c.in-Some.is) c.in_ok-found.ensures

pub returns-in-Some-clause-says : goal.returns-in-Some-clause-says
returns-in-Some-clause-says g c = λ x s. c.looks.invariant.splits x s

pub returns-then-len-most-clause-says : goal.returns-then-len-most-clause-says
returns-then-len-most-clause-says g c = λ x s.
    let items = c.looks.buffer.items in
    let behind = drop c.args.at items in
    says_long g.P.Piece.form _ (drop c.args.at x) behind (g.S.Source.left c.looks.from)
    (splits_behind x items (g.S.Source.left c.looks.from) c.args.at (c.looks.invariant.splits x s) (omega (arith, c.requires.at, c.looks.invariant.grew, c.looks.buffer.ok.0)))
    (omega (arith, length-drop c.args.at items, c.looks.invariant.size, c.if-len-most.true, c.len.ensures, c.looks.buffer.ok.0))
    (settles_at g.P.Piece.form g.P.Piece.stands _ behind (Ok c.in_ok-found.field-0) (Ok None) (slice_is c.args.at c.deref.result.now items c.deref.ensures.value) (ap Ok c.in_default.is) c.in_ok-found.ensures)

pub returns-then-not-more-clause-says : goal.returns-then-not-more-clause-says
returns-then-not-more-clause-says g c = λ x s.
    let items = c.looks.buffer.items in
    let behind = drop c.args.at items in
    says_ended g.P.Piece.form _ (drop c.args.at x) behind (ap (λ (t : List ℕ). drop c.args.at t) (c.looks.invariant.closed c.if-not-more.true x s))
    (omega (arith, length-drop c.args.at items, c.requires.at, c.looks.invariant.grew, c.if-len-most.false, c.len.ensures, c.looks.buffer.ok.0))
    (settles_at g.P.Piece.form g.P.Piece.stands _ behind (Ok c.in_ok-found.field-0) (Ok None) (slice_is c.args.at c.deref.result.now items c.deref.ensures.value) (ap Ok c.in_default.is) c.in_ok-found.ensures)

pub looks-preserved : goal.looks-preserved
looks-preserved g c = record {
  grew = omega (arith, c.in_ok-more.ensures.size, c.looks.invariant.grew);
  size = omega (arith, c.in_ok-more.ensures.size, c.looks.invariant.size);
  splits = λ x s. c.in_ok-more.ensures.splits x (c.looks.invariant.splits x s);
  closed = λ no x s. c.in_ok-more.ensures.at_end x (c.looks.invariant.splits x s) no;
  beside = c.fill.ensures.beside ∙ c.looks.invariant.beside;
  faults = cc (c.in_ok-more.ensures.cause, c.looks.invariant.faults);
}
