use Rattle.swf_lines.proofs.SliceLemmas.{slice_is_one}
use Rattle.swf_lines.proofs.laws.slice_is_one.Goals as goal

pub returns : goal.returns
returns c = record { is_determined = slice_is_one }
