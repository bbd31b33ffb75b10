use Rattle.std.proofs.Common.{◌∙◌, ap, sym, length, slice_get, position, arith}
use Rattle.std.proofs.lemmas.List.{length-map}
use Rattle.swf_text.specs.Same.{same}
use Rattle.swf_instances.proofs.Lookups.{alone, instance_there}
use Rattle.swf_instances.proofs.instances.Instances.at.Goals as goal

pub index-requires : goal.index-requires
index-requires c = omega (arith, c.requires, ap (λ h. length h.instances) c.self.view_is, length-map c.self.inside.machines.entries (λ e. e.1))

pub returns-clause-there : goal.returns-clause-there
returns-clause-there c = sym (ap (λ h. slice_get h.instances c.args.number) c.self.view_is) ∙ instance_there c.self.inside.machines.entries c.args.number c.index.result.now c.index.ensures

pub returns-clause-alone : goal.returns-clause-alone
returns-clause-alone c =
    let es = c.self.inside.machines.entries in
    let n = c.args.number in
    let i = c.index.result.now in
    sym (ap (λ h. position (λ j. same i.id j.id) h.instances) c.self.view_is) ∙ alone es n i c.self.invariant.held.placed c.self.invariant.held.apart (instance_there es n i c.index.ensures)
