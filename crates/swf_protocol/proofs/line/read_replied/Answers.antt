use Rattle.std.proofs.Common.{sym, subst}
use Rattle.swf_protocol.specs.Reading.{Reads}
use Rattle.swf_protocol.proofs.LineLemmas.{reply_words}
use Rattle.swf_protocol.proofs.line.read_replied.Goals as goal

pub returns-in-Some-clause-reads : goal.returns-in-Some-clause-reads
returns-in-Some-clause-reads c =
    subst (Reads c.reply_with.result) (sym (reply_words c.args.rest.now c.in-Some.activity.now c.in-Some.json.now c.in-Some.ensures.words)) c.reply_with.ensures.reads
