use Rattle.std.proofs.Common.{◌≡◌, ◌∙◌, ap, sym, subst, Some, Err}
use Rattle.swf_validate.specs.Accepts.{faults}
use Rattle.swf_runs.specs.After.{accepted}
use Rattle.swf_meaning.specs.declared.label.Label.TheVariants.{Load}
use Rattle.swf_world.specs.declared.refusal.Refusal.TheVariants.{Refused}
use Rattle.swf_world.specs.Refusals.{refused_by, refusal_of_load}
use Rattle.swf_world.specs.Prepares.{Prepares}
use Rattle.swf_world.proofs.Checks.{is_accepted, not_loaded, load_prepares}
use Rattle.swf_world.proofs.world.World.prepare_load.Goals as goal

pub returns-in-Err-Faults : goal.returns-in-Err-Faults
returns-in-Err-Faults c =
    not_loaded c.args.self.now.world c.args.value.now c.in-Err-Faults.faults (c.accept.ensures.refused c.in-Err-Faults.faults (c.in-Err-Faults.is ∙ ap (λ f. Err f) c.in-Err-Faults.field-0-is))
    ∙ ap (λ f. Some (Refused f)) (sym c.in-Err-Faults.faults-is)

pub returns-in-Err : goal.returns-in-Err
returns-in-Err c =
    let read : accepted c.args.value.now ≡ Some c.in-Ok.document = is_accepted c.args.value.now c.in-Ok.document c.in-Ok.ensures.accepted in
    ap (refusal_of_load c.args.self.now.world (faults c.args.value.now)) read ∙ sym (c.loadable.ensures (faults c.args.value.now) c.in-Ok.document (ap (λ d. d.key) (sym c.document.ensures.value))) ∙ ap refused_by c.in-Err.is

pub returns : goal.returns
returns c =
    let read : accepted c.args.value.now ≡ Some c.in-Ok.document = is_accepted c.args.value.now c.in-Ok.document c.in-Ok.ensures.accepted in
    subst (Prepares c.args.self.now.world (Load c.args.value.now)) (sym c.ready.ensures)
    (load_prepares c.args.self.now.world c.args.value.now c.in-Ok.document c.load_change.result read (sym (c.loadable.ensures (faults c.args.value.now) c.in-Ok.document (ap (λ d. d.key) (sym c.document.ensures.value))) ∙ ap refused_by c.in-Ok-loadable.is) c.load_change.ensures)
