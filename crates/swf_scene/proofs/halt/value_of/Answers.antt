use Rattle.std.proofs.Common.{Err, sym, subst}
use Rattle.std.specs.Prelude.{codes}
use Rattle.swf_document.specs.declared.error.ErrorKind.TheVariants as kinds
use Rattle.swf_meaning.specs.Rule.{value_of}
use Rattle.swf_scene.specs.Halts.{Gives}
use Rattle.swf_scene.proofs.HaltLemmas.{Gives-fails}
use Rattle.swf_scene.proofs.halt.value_of.Goals as goal

pub returns-in-TooLarge : goal.returns-in-TooLarge
returns-in-TooLarge g c =
    subst (λ x. Gives (value_of c.args.task.now x) (Err c.fails.result)) (sym c.in-TooLarge.is) (Gives-fails g.row.T.Denot c.args.task.now kinds.Runtime (codes "value limit") c.fails.result c.fails.ensures)

pub returns-in-Limit : goal.returns-in-Limit
returns-in-Limit g c =
    subst (λ x. Gives (value_of c.args.task.now x) (Err c.fails-in-Limit.result)) (sym c.in-Limit.is) (Gives-fails g.row.T.Denot c.args.task.now kinds.Runtime (codes "expression limit") c.fails-in-Limit.result c.fails-in-Limit.ensures)
