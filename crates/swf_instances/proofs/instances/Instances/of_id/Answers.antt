use Rattle.std.proofs.Common.{◌∙◌, ap, sym}
use Rattle.swf_meaning.specs.Answer.{instance_at}
use Rattle.swf_instances.proofs.Lookups.{instance_lookup}
use Rattle.swf_instances.proofs.instances.Instances.of_id.Goals as goal

pub returns : goal.returns
returns c = c.get.ensures.value ∙ sym (instance_lookup c.args.id.now c.self.inside.machines.entries c.self.invariant.held.placed) ∙ ap (λ h. instance_at c.args.id.now h.instances) c.self.view_is
