use Rattle.std.proofs.Common.{◌∙◌, ◌∷◌, [], sym, subst, ap, inr}
use Rattle.swf_protocol.specs.Line.{is_quit}
use Rattle.swf_protocol.specs.Reading.{Reads}
use Rattle.swf_protocol.specs.Words.{words_of}
use Rattle.swf_protocol.proofs.LineLemmas.{command_is, other_line}
use Rattle.swf_protocol.proofs.Plain.{more_goes_on}
use Rattle.swf_protocol.proofs.line.read_command.Goals as goal

pub returns-in_default-clause-reads : goal.returns-in_default-clause-reads
returns-in_default-clause-reads c = inr (c.bad.ensures ∙ sym (other_line c.args.line.now c.in_default.ensures.cases.0))

pub returns-in-Some-clause-reads : goal.returns-in-Some-clause-reads
returns-in-Some-clause-reads c =
    let words = c.in-Some.word.now ∷ words_of c.in-Some.rest.now in
    subst (Reads c.read_more.result) (sym (command_is c.args.line.now c.in-Ok.text.now c.in-Ok.ensures.cases words c.in-Some.ensures.words)) c.read_more.ensures.reads

pub returns-in-Some-clause-memory : goal.returns-in-Some-clause-memory
returns-in-Some-clause-memory c e =
    let words = c.in-Some.word.now ∷ words_of c.in-Some.rest.now in
    ap is_quit (command_is c.args.line.now c.in-Ok.text.now c.in-Ok.ensures.cases words c.in-Some.ensures.words) ∙ more_goes_on c.in-Some.word.now c.in-Some.rest.now

pub returns-in-None-clause-reads : goal.returns-in-None-clause-reads
returns-in-None-clause-reads c =
    inr (c.read_alone.ensures.reads ∙ sym (command_is c.args.line.now c.in-Ok.text.now c.in-Ok.ensures.cases (c.in-Ok.text.now ∷ []) c.in-None.ensures.words))
