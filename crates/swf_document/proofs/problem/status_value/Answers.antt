use Rattle.std.proofs.Common.{arith}
use Rattle.std.proofs.lemmas.Int.{ints}
use Rattle.swf_document.proofs.problem.status_value.Goals as goal

pub int-requires : goal.int-requires
int-requires c = (omega (arith, ints), omega (arith, ints))
