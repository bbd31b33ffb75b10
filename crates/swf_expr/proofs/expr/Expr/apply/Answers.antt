use Rattle.std.proofs.Common.{◌∙◌}
use Rattle.swf_expr.proofs.ExprLemmas.{count-trees_of}
use Rattle.swf_expr.proofs.expr.Expr.apply.Goals as goal

pub of-requires : goal.of-requires
of-requires c = count-trees_of c.args.arguments.items ∙ c.requires
