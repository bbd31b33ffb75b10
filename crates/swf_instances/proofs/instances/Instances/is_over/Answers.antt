use Rattle.std.proofs.Common.{◌∙◌, ap}
use Rattle.std.specs.List.{list_any}
use Rattle.swf_meaning.specs.Wake.{is_due}
use Rattle.swf_queue.specs.Alarms.{is_by}
use Rattle.swf_instances.specs.Held.{instances_in}
use Rattle.swf_instances.proofs.WaitLemmas.{some_over}
use Rattle.swf_instances.proofs.instances.Instances.is_over.Goals as goal

pub returns : goal.returns
returns c =
    let moment = c.args.moment in
    c.is_over.ensures ∙ ap (list_any (is_by moment)) c.self.invariant.waiting.own ∙ some_over moment (instances_in c.self.inside.machines.entries)
    ∙ ap (λ h. list_any (λ i. is_due moment i.node) h.instances) c.self.view_is
