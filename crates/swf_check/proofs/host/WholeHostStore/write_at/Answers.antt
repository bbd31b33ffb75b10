use Rattle.std.proofs.Common.{length}
use Rattle.swf_store.specs.Laws.{same_in_is_torn}
use Rattle.swf_check.proofs.host.WholeHostStore.write_at.Goals as goal

pub returns-clause-stop : goal.returns-clause-stop
returns-clause-stop g c = λ image any. (image, tt, same_in_is_torn c.args._file c.args._at (length c.args._bytes.now) image)
