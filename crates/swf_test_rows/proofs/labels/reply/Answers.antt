use Rattle.std.proofs.Common.{◌∙◌, sym}
use Rattle.swf_test_rows.proofs.Nesting.{reply_nests}
use Rattle.swf_test_rows.proofs.labels.reply.Goals as goal

pub returns : goal.returns
returns c = reply_nests c.in_ok-activity-2.activity c.in-Ok.value c.in-Some.reply c.in-Ok.ensures.shallow (sym c.in_ok-reply.ensures ∙ c.in-Some.is)
