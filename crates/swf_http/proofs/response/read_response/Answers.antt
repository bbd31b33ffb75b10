use Rattle.std.proofs.Common.{◌≡◌, ◌∙◌, ◌+◌, ap, take, drop, List}
use Rattle.std.proofs.lemmas.Result.{err_from_is_err_and}
use Rattle.httparse.specs.declared.spans.HeaderSpan.{HeaderSpan}
use Rattle.swf_http.specs.Limits.{most_head}
use Rattle.swf_http.specs.Responses.{Framed, SaysHead, SaysBody}
use Rattle.swf_http.specs.Verdicts.{whole, Then}
use Rattle.swf_http.proofs.ReadLemmas.{begun, slice_is}
use Rattle.swf_http.proofs.ThroughLemmas.{then_fault}
use Rattle.swf_http.proofs.ResponseLemmas.{body_stops, says_whole_response}
use Rattle.swf_http.proofs.FieldLemmas.{headers_same}
use Rattle.swf_http.proofs.response.read_response.Goals as goal

pub returns-in_err-last-clause-says : goal.returns-in_err-last-clause-says
returns-in_err-last-clause-says g c =
    let p = err_from_is_err_and c.from_residual.result c.from_residual.ensures.1 in
    λ x told. rw (p.1, p.2)
    (then_fault (SaysHead c.args.head most_head) (λ (f : Framed). Then (SaysBody f.1) (λ body after w. w ≡ whole (f.0, body) after)) x c.in_err-last.field-0.0
    (c.in_err-last.ensures.says x (begun x c.new-buffer.result.items (g.S.Source.left c.args.from.now) c.new-buffer.ensures.items told)))

pub returns-in_err-body-clause-says : goal.returns-in_err-body-clause-says
returns-in_err-body-clause-says g c =
    let p = err_from_is_err_and c.from_residual-in_err-body.result c.from_residual-in_err-body.ensures.1 in
    λ x told.
    let last = c.in_ok-last.last in
    let is = c.in_ok-last.ensures.says x (begun x c.new-buffer.result.items (g.S.Source.left c.args.from.now) c.new-buffer.ensures.items told) in
    rw (p.1, p.2)
    (body_stops c.args.head x (drop (last.at + last.found.spans.len) x) is.1.0 last.framing c.in_err-body.field-0.0 is.1.2 (c.in_err-body.ensures.says x is.0))

pub returns-clause-says : goal.returns-clause-says
returns-clause-says g c = λ x told.
    let last = c.in_ok-last.last in
    let is = c.in_ok-last.ensures.says x (begun x c.new-buffer.result.items (g.S.Source.left c.args.from.now) c.new-buffer.ensures.items told) in
    let body = c.in_ok-body.ensures.says x is.0 in (
      (is.1.0, body.0),
      body.1,
      says_whole_response c.args.head x (drop (last.at + last.found.spans.len) x) body.0 body.1 is.1.0 last.framing is.1.2 body.2,
      record {
        status_is = is.1.1.code;
        headers_are = c.in_ok-headers.ensures
            ∙ headers_same _ (drop last.at c.read_final.new.buffer.items) _ (take last.found.spans.headers last.found.headers.items) is.1.0.fields
            (slice_is last.at c.deref.result.now c.read_final.new.buffer.items c.deref.ensures.value)
            (ap (λ (t : List HeaderSpan). take last.found.spans.headers t) c.deref-2.ensures.value) is.1.1.fields;
        body_is = body.3;
      },
    )
