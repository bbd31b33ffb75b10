use Rattle.std.proofs.Common.{◌≡◌, sym, subst, refl, drop, arith, List, ℕ}
use Rattle.std.proofs.lemmas.Result.{err_from_is_err_and}
use Rattle.httparse.specs.Spans.{IsRequestAt}
use Rattle.swf_http.specs.declared.judge.Judgement.TheVariants.{Bad, TooLong}
use Rattle.swf_http.specs.Verdicts.{whole, long, bad}
use Rattle.swf_http.proofs.ReadLemmas.{begun, says_request}
use Rattle.swf_http.proofs.RequestLemmas.{says_judged, says_body, body_fault}
use Rattle.swf_http.proofs.ThroughLemmas.{then_fault}
use Rattle.swf_http.specs.Framing.{judge}
use Rattle.swf_http.specs.Limits.{most_head}
use Rattle.swf_http.specs.Pieces.{request_form, SaysPiece}
use Rattle.swf_http.specs.Requests.{behind_head}
use Rattle.swf_http.proofs.request.read_request.Goals as goal

pub returns-in_err-found-clause-says : goal.returns-in_err-found-clause-says
returns-in_err-found-clause-says g c =
    let p = err_from_is_err_and c.from_residual.result c.from_residual.ensures.1 in
    λ x told. rw (p.1, p.2)
    (then_fault (SaysPiece request_form most_head) (λ h rest w. w ≡ behind_head (judge h) h rest) x c.in_err-found.field-0.0
    (c.in_err-found.ensures.says x (begun x c.new-buffer.result.items (g.S.Source.left c.args.from.now) c.new-buffer.ensures.items told)))

pub returns-in-Bad-clause-says : goal.returns-in-Bad-clause-says
returns-in-Bad-clause-says g c = λ x told.
    let found = c.in_ok-found.found in
    let is = c.in_ok-found.ensures.found in
    let splits = c.in_ok-found.ensures.says x (begun x c.new-buffer.result.items (g.S.Source.left c.args.from.now) c.new-buffer.ensures.items told) in
    says_judged x is.1.0 (drop found.spans.len x) Bad bad
    (says_request 65536 x c.read_piece.new.buffer.items (g.S.Source.left c.read_piece.new.from) found is.1.0 splits is.1.1 is.0.section.len_fits
    (omega (arith, c.in_ok-found.ensures.size, c.read_piece.new.buffer.ok.0)))
    (c.in-Bad.ensures is.1.0 (subst (λ (t : List ℕ). IsRequestAt t found.headers.items found.spans is.1.0) (sym c.as_slice.ensures.value) is.1.1))
    refl

pub returns-in-TooLong-clause-says : goal.returns-in-TooLong-clause-says
returns-in-TooLong-clause-says g c = λ x told.
    let found = c.in_ok-found.found in
    let is = c.in_ok-found.ensures.found in
    let splits = c.in_ok-found.ensures.says x (begun x c.new-buffer.result.items (g.S.Source.left c.args.from.now) c.new-buffer.ensures.items told) in
    says_judged x is.1.0 (drop found.spans.len x) TooLong long
    (says_request 65536 x c.read_piece.new.buffer.items (g.S.Source.left c.read_piece.new.from) found is.1.0 splits is.1.1 is.0.section.len_fits
    (omega (arith, c.in_ok-found.ensures.size, c.read_piece.new.buffer.ok.0)))
    (c.in-TooLong.ensures is.1.0 (subst (λ (t : List ℕ). IsRequestAt t found.headers.items found.spans is.1.0) (sym c.as_slice.ensures.value) is.1.1))
    refl

pub returns-in_err-body-clause-says : goal.returns-in_err-body-clause-says
returns-in_err-body-clause-says g c =
    let p = err_from_is_err_and c.from_residual-in_err-body.result c.from_residual-in_err-body.ensures.1 in
    λ x told.
    let found = c.in_ok-found.found in
    let is = c.in_ok-found.ensures.found in
    let splits = c.in_ok-found.ensures.says x (begun x c.new-buffer.result.items (g.S.Source.left c.args.from.now) c.new-buffer.ensures.items told) in
    rw (p.1, p.2)
    (body_fault x is.1.0 (drop found.spans.len x) c.in-Sized.size c.in_err-body.field-0.0
    (says_request 65536 x c.read_piece.new.buffer.items (g.S.Source.left c.read_piece.new.from) found is.1.0 splits is.1.1 is.0.section.len_fits
    (omega (arith, c.in_ok-found.ensures.size, c.read_piece.new.buffer.ok.0)))
    (c.in-Sized.ensures is.1.0 (subst (λ (t : List ℕ). IsRequestAt t found.headers.items found.spans is.1.0) (sym c.as_slice.ensures.value) is.1.1))
    (c.in_err-body.ensures.says x splits))

pub returns-clause-says : goal.returns-clause-says
returns-clause-says g c = λ x told.
    let found = c.in_ok-found.found in
    let is = c.in_ok-found.ensures.found in
    let splits = c.in_ok-found.ensures.says x (begun x c.new-buffer.result.items (g.S.Source.left c.args.from.now) c.new-buffer.ensures.items told) in
    let body = c.in_ok-body.ensures.says x splits in (
      (is.1.0, body.0),
      body.1,
      says_body x is.1.0 (drop found.spans.len x) c.in-Sized.size (whole body.0 body.1)
          (says_request 65536 x c.read_piece.new.buffer.items (g.S.Source.left c.read_piece.new.from) found is.1.0 splits is.1.1 is.0.section.len_fits
          (omega (arith, c.in_ok-found.ensures.size, c.read_piece.new.buffer.ok.0)))
          (c.in-Sized.ensures is.1.0 (subst (λ (t : List ℕ). IsRequestAt t found.headers.items found.spans is.1.0) (sym c.as_slice.ensures.value) is.1.1))
          body.2,
      (c.in_ok-parts.ensures is.1.0 (subst (λ (t : List ℕ). IsRequestAt t found.headers.items found.spans is.1.0) (sym c.as_slice-2.ensures.value) is.1.1), body.3),
    )
