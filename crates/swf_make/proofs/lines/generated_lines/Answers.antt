use Rattle.std.proofs.Common.{arith}
use Rattle.swf_make.specs.Generated.{instances}
use Rattle.swf_make.proofs.LineLemmas.{count}
use Rattle.swf_make.proofs.lines.generated_lines.Goals as goal

pub returns : goal.returns
returns c = let lines = count c.args.turns 0 (instances c.args.turns) in record { count = omega (arith, c.instances.ensures, lines) }
