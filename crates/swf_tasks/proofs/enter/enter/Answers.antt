use Rattle.swf_scene.proofs.HaltLemmas.{Makes-passed}
use Rattle.swf_scene.specs.Setting.{line_of}
use Rattle.swf_tasks.proofs.enter.enter.Goals as goal

pub returns-in_err-input : goal.returns-in_err-input
returns-in_err-input c = Makes-passed (line_of c.args.scene.now) _ _ c.from_residual.result c.in_err-input.field-0.0 c.from_residual.ensures.1 c.in_err-input.ensures
