use Rattle.std.proofs.Common.{◌∙◌, List, ap, subst}
use Rattle.swf_evaluation.specs.declared.vars.Variable.{Variable}
use Rattle.swf_document.specs.Task.{Task}
use Rattle.swf_catalog.specs.Rounds.{round_of}
use Rattle.swf_meaning.specs.Around.{seen}
use Rattle.swf_meaning.specs.Complete.{asked}
use Rattle.swf_meaning.specs.Line.{Line, within}
use Rattle.swf_scene.specs.Halts.{Gives}
use Rattle.swf_rule.specs.Rules.{line_in}
use Rattle.swf_rules.proofs.lists.goes_on.Goals as goal

pub returns : goal.returns
returns c =
    let l = line_in c.args.rule.now in
    let r = c.args.rule.now.running.now in
    subst (λ (vs : List Variable). Gives (asked r.task vs c.args.value.now c.args.condition.now) c.asked.result)
    (c.in_ok-vars.ensures ∙ ap (λ (x : Line). within x r) (c.in_ok-seen.ensures.line ∙ ap (λ (t : Task). seen l t (round_of c.args.round.now)) c.task.ensures))
    c.asked.ensures
