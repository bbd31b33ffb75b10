use Rattle.std.proofs.Common.{◌≡◌, sym, subst, refl, drop, [], List, ℕ, Vec, Global}
use Rattle.http1.specs.declared.framing.Framing.{Framing}
use Rattle.swf_http.specs.Bodies.{body_of, rest_of}
use Rattle.swf_http.specs.Chunks.{SaysChunked}
use Rattle.swf_http.specs.Limits.{most_lines}
use Rattle.swf_http.specs.Responses.{SaysBody}
use Rattle.swf_http.specs.Verdicts.{Verdict, whole}
use Rattle.swf_http.proofs.ThroughLemmas.{answers_on}
use Rattle.swf_http.proofs.response.read_framed.Goals as goal

pub returns-in-NoBody-clause-says : goal.returns-in-NoBody-clause-says
returns-in-NoBody-clause-says g c = λ x s.
    ([], drop c.args.at x, subst (λ (f : Framing). SaysBody f (drop c.args.at x) (whole [] (drop c.args.at x))) (sym c.in-NoBody.is) refl, c.new.ensures.items)

pub returns-in-Length-clause-says : goal.returns-in-Length-clause-says
returns-in-Length-clause-says g c = λ x s.
    answers_on (λ (behind : List ℕ) (v : Verdict (List ℕ)). v ≡ body_of c.in-Length.size behind) (SaysBody c.args.framing)
    (λ (items : List ℕ) (body : Vec ℕ Global). body.items ≡ items) (drop c.args.at x) (drop c.args.at x)
    (λ v j. subst (λ (f : Framing). SaysBody f (drop c.args.at x) v) (sym c.in-Length.is) j) c.read_body.result (c.read_body.ensures.says x s)

pub returns-in-Chunked-clause-says : goal.returns-in-Chunked-clause-says
returns-in-Chunked-clause-says g c = λ x s.
    answers_on (SaysChunked [] most_lines) (SaysBody c.args.framing)
    (λ (items : List ℕ) (body : Vec ℕ Global). body.items ≡ items) (drop c.args.at x) (drop c.args.at x)
    (λ v j. subst (λ (f : Framing). SaysBody f (drop c.args.at x) v) (sym c.in-Chunked.is) j) c.read_chunked.result (c.read_chunked.ensures.says x s)

pub returns-in-UntilClose-clause-says : goal.returns-in-UntilClose-clause-says
returns-in-UntilClose-clause-says g c = λ x s.
    answers_on (λ (behind : List ℕ) (v : Verdict (List ℕ)). v ≡ rest_of behind) (SaysBody c.args.framing)
    (λ (items : List ℕ) (body : Vec ℕ Global). body.items ≡ items) (drop c.args.at x) (drop c.args.at x)
    (λ v j. subst (λ (f : Framing). SaysBody f (drop c.args.at x) v) (sym c.in-UntilClose.is) j) c.read_rest.result (c.read_rest.ensures.says x s)
