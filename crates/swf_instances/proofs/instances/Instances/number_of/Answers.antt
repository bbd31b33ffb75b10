use Rattle.std.proofs.Common.{◌∙◌, ap, position}
use Rattle.swf_text.specs.Same.{same}
use Rattle.swf_instances.proofs.Lookups.{number_alike}
use Rattle.swf_instances.proofs.instances.Instances.number_of.Goals as goal

pub returns : goal.returns
returns c =
    c.get_index_of.ensures.index ∙ number_alike c.args.id.now c.self.inside.machines.entries c.self.invariant.held.placed ∙ ap (λ h. position (λ i. same c.args.id.now i.id) h.instances) c.self.view_is
