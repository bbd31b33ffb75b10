use Rattle.std.proofs.Common.{sym, ◌∙◌, subst, inr}
use Rattle.swf_protocol.specs.Reading.{Reads}
use Rattle.swf_protocol.specs.Words.{words_of}
use Rattle.swf_protocol.specs.declared.verb.Verb.TheVariants as verbs
use Rattle.swf_protocol.proofs.LineLemmas.{verb_is, pending_or_quit, load_rest, event_rest}
use Rattle.swf_protocol.proofs.line.read_more.Goals as goal

pub returns-in-Load-clause-reads : goal.returns-in-Load-clause-reads
returns-in-Load-clause-reads c =
    let is = verb_is c.args.word.now c.verb_of.result c.in-Some.verb verbs.Load c.verb_of.ensures c.in-Some.is c.in-Load.is (words_of c.args.rest.now) in
    subst (Reads c.read_load.result) (sym (is ∙ load_rest c.args.rest.now)) c.read_load.ensures.reads

pub returns-in-Event-clause-reads : goal.returns-in-Event-clause-reads
returns-in-Event-clause-reads c =
    let is = verb_is c.args.word.now c.verb_of.result c.in-Some.verb verbs.Event c.verb_of.ensures c.in-Some.is c.in-Event.is (words_of c.args.rest.now) in
    subst (Reads c.read_told.result) (sym (is ∙ event_rest c.args.rest.now)) c.read_told.ensures.reads

pub returns-in-Pending-clause-reads : goal.returns-in-Pending-clause-reads
returns-in-Pending-clause-reads c = inr (c.bad-in-Pending.ensures ∙ sym (pending_or_quit c.args.word.now c.args.rest.now c.verb_of.result c.in-Some.verb c.verb_of.ensures c.in-Some.is c.in-Pending.is))
