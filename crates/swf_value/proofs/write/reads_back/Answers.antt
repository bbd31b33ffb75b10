use Rattle.std.proofs.Common.{sym, Some, arith}
use Rattle.swf_value.specs.Written.{written}
use Rattle.swf_value.proofs.Data.{data_of, whole-data_of, depth-data_of}
use Rattle.swf_value.proofs.ReadsBack.{read-written, IsUtf8-written}
use Rattle.swf_value.proofs.Readings.{shallow}
use Rattle.swf_value.proofs.write.reads_back.Goals as goal

pub returns : goal.returns
returns c = λ most v valued within enough.
    shallow most (written v) (data_of v) (Some v) (IsUtf8-written v valued, read-written v valued (omega arith)) (omega (arith, depth-data_of v)) (sym (whole-data_of v valued))
