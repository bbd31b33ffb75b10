use Rattle.swf_transform.proofs.Equal.{same_by}
use Rattle.swf_rules.proofs.listen.is_same.Goals as goal

pub returns : goal.returns
returns c = same_by c.is.result c.args.left.now c.args.right.now c.is.ensures
