use Rattle.swf_strands.proofs.TreeLemmas.{some-child, no-child}
use Rattle.swf_strands.proofs.stand.child_of.Goals as goal

pub returns-clause-child : goal.returns-clause-child
returns-clause-child c = some-child c.args.forest.now c.args.strand c.args.number c.child.result c.requires c.child.ensures

pub returns-clause-none : goal.returns-clause-none
returns-clause-none c = no-child c.args.forest.now c.args.strand c.args.number c.child.result c.child.ensures
