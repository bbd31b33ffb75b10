-- From a head and a body to a request.
use Rattle.std.proofs.Common.{◌≡◌, ◌∙◌, ap, ℕ, List, inl}
use Rattle.httparse.specs.Grammar.{RequestHead}
use Rattle.swf_http.specs.declared.fault.HttpFault.{HttpFault}
use Rattle.swf_http.specs.declared.judge.Judgement.{Judgement}
use Rattle.swf_http.specs.declared.judge.Judgement.TheVariants as Judged
use Rattle.swf_http.specs.Framing.{judge}
use Rattle.swf_http.specs.Limits.{most_head}
use Rattle.swf_http.specs.Pieces.{request_form, SaysPiece}
use Rattle.swf_http.specs.Bodies.{body_of}
use Rattle.swf_http.specs.Requests.{Message, SaysRequest, behind_head, with_head}
use Rattle.swf_http.proofs.ThroughLemmas.{fault_through}
use Rattle.swf_http.specs.Verdicts.{Verdict, whole, ended, long, bad, FaultSays}

-- what a head that was judged leads to
pub says_judged : (y : List ℕ) (h : RequestHead) (mid : List ℕ) (j : Judgement) (v : Verdict Message) → SaysPiece request_form most_head y (whole h mid) → j ≡ judge h
    → v ≡ behind_head j h mid → SaysRequest y v
says_judged y h mid j v says judged e = inl (h, mid, says, e ∙ ap (λ (i : Judgement). behind_head i h mid) judged)

-- what the body says, the request says
pub says_body : (y : List ℕ) (h : RequestHead) (mid : List ℕ) (n : ℕ) (v : Verdict (List ℕ)) → SaysPiece request_form most_head y (whole h mid) → Judged.Sized n ≡ judge h
    → v ≡ body_of n mid → SaysRequest y (with_head h v)
says_body y h mid n v says judged e = says_judged y h mid (Judged.Sized n) (with_head h v) says judged (ap (with_head h) e)

pub body_fault : (y : List ℕ) (h : RequestHead) (mid : List ℕ) (n : ℕ) (e : HttpFault) → SaysPiece request_form most_head y (whole h mid) → Judged.Sized n ≡ judge h
    → FaultSays (λ (behind : List ℕ) (v : Verdict (List ℕ)). v ≡ body_of n behind) mid e → FaultSays SaysRequest y e
body_fault y h mid n e says judged f =
    fault_through (λ (behind : List ℕ) (v : Verdict (List ℕ)). v ≡ body_of n behind) SaysRequest mid y (says_body y h mid n ended says judged)
    (says_body y h mid n long says judged) (says_body y h mid n bad says judged) e f
