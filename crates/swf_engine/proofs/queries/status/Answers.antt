use Rattle.std.proofs.Common.{◌≡◌, ◌∙◌, ap, sym, inr, option_map, Ok}
use Rattle.swf_meaning.specs.Answer.{instance_at, report, status}
use Rattle.swf_meaning.specs.declared.label.Answer.TheVariants.{Status}
use Rattle.swf_world.specs.Answers.{found}
use Rattle.swf_engine.proofs.queries.status.Goals as goal

pub returns-in_default : goal.returns-in_default
returns-in_default c =
    let asked = c.of_id.ensures ∙ ap (instance_at c.args.id.now) c.instances.ensures.instances in
    inr (sym (ap (λ o. found (option_map (report c.args.world.now.world.now) o)) (sym asked ∙ ap (option_map (λ i. i.now)) c.in_default.is)))

pub returns-in-Ok : goal.returns-in-Ok
returns-in-Ok c =
    let asked = c.of_id.ensures ∙ ap (instance_at c.args.id.now) c.instances.ensures.instances in
    inr (ap (λ v. Ok (Status v)) (c.in-Ok.ensures ∙ ap (λ m. report m c.in-Some.instance.now) c.now.ensures)
    ∙ sym (ap (λ o. found (option_map (report c.args.world.now.world.now) o)) (sym asked ∙ ap (option_map (λ i. i.now)) c.in-Some.is)))
