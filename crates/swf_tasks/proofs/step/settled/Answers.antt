use Rattle.std.proofs.Common.{◌∙◌, ap, subst}
use Rattle.swf_meaning.specs.Fork.{competes}
use Rattle.swf_rules.specs.Settles.{ending, MakesSome}
use Rattle.swf_scene.specs.Setting.{line_of}
use Rattle.swf_tasks.proofs.step.settled.Goals as goal

pub returns : goal.returns
returns c = subst (λ b. MakesSome (line_of c.args.scene.now) (ending (line_of c.args.scene.now) c.args.running.now b c.args.all c.args.ended.now) c.settled.result) (c.competes.ensures ∙ ap competes c.task.ensures) c.settled.ensures
