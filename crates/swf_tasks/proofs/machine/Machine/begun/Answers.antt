use Rattle.swf_tasks.proofs.PrepareLemmas.{begun-all}
use Rattle.swf_tasks.proofs.machine.Machine.begun.Goals as goal

pub returns-in_default : goal.returns-in_default
returns-in_default c = begun-all c.args.strands c.args.strand.now c.args.self.now.node c.in_default.not-One c.requires
