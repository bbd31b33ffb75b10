use Rattle.std.proofs.Common.{◌∙◌, ap, take, refl, List}
use Rattle.httparse.specs.declared.spans.HeaderSpan.{HeaderSpan}
use Rattle.swf_http.proofs.FieldLemmas.{headers_within}
use Rattle.swf_http.proofs.JudgeLemmas.{followed_head}
use Rattle.swf_http.proofs.follow.follow_of.Goals as goal

pub from_spans-known-requires : goal.from_spans-known-requires
from_spans-known-requires c =
    headers_within c.args.bytes.now c.args.found.now.headers.items (take c.args.found.now.spans.headers c.deref.result.now)
    c.args.found.now.spans.len c.args.found.now.spans.headers c.requires.section
    (ap (λ (t : List HeaderSpan). take c.args.found.now.spans.headers t) c.deref.ensures.value)

pub returns : goal.returns
returns c = λ h at. c.follow_fields.ensures
    ∙ followed_head c.args.head c.args.bytes.now c.args.found.now.headers.items (take c.args.found.now.spans.headers c.deref.result.now)
    c.args.found.now.spans h c.from_spans-known.result _ at (ap (λ (t : List HeaderSpan). take c.args.found.now.spans.headers t) c.deref.ensures.value)
    c.from_spans-known.ensures refl
