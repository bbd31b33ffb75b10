-- A code for replies, by which a ghost name tells them apart.
use Rattle.std.specs.Coded.{Coded, codes}
use Rattle.swf_value.specs.ValueCode.{value_code}
use Rattle.swf_calls.specs.declared.reply.CallReply.{CallReply}

pub reply_code : Coded CallReply
reply_code = hlevel (codes, value_code)
