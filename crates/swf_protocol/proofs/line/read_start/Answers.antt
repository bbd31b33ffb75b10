use Rattle.std.proofs.Common.{sym, ◌∙◌, ap, subst}
use Rattle.swf_protocol.specs.Line.{start_with}
use Rattle.swf_protocol.specs.Reading.{Reads}
use Rattle.swf_protocol.proofs.LineLemmas.{start_words}
use Rattle.swf_protocol.proofs.line.read_start.Goals as goal

pub returns-clause-reads : goal.returns-clause-reads
returns-clause-reads c =
    let words = start_words c.args.rest.now c.in-Some.rest.now c.in-Some-cut.rest.now c.in-Some-cut-2.rest.now c.in-Some.id.now c.in-Some-cut.namespace.now c.in-Some-cut-2.name.now c.in-Some-cut-3.version.now c.in-Some-cut-3.json.now
    c.in-Some.ensures.words c.in-Some-cut.ensures.words c.in-Some-cut-2.ensures.words c.in-Some-cut-3.ensures.words in
    subst (Reads c.start_with.result) (ap (λ key. start_with c.in-Some.id.now key c.in-Some-cut-3.json.now) c.in_ok-key.ensures ∙ sym words) c.start_with.ensures.reads
