use Rattle.std.proofs.Common.{◌∙◌}
use Rattle.swf_scene.specs.Setting.{instance_of}
use Rattle.swf_strands.specs.Strands.{root_node}
use Rattle.swf_tasks.proofs.PrepareLemmas.{applied-by, fits-root}
use Rattle.swf_tasks.proofs.machine.Machine.take.Goals as goal

pub put_strands-self-inside-requires : goal.put_strands-self-inside-requires
put_strands-self-inside-requires c = record {
  grown = c.self.invariant.0;
  fits = fits-root c.args.prepared.strands c.as_slice.result.now c.args.prepared.strand c.self.inside.setting c.self.inside.forest.strands c.args.self.now c.self.view_is c.as_slice.ensures c.requires;
  alarm = c.self.invariant.1;
}

pub invariant_of-self : goal.invariant_of-self
invariant_of-self c = (c.put_strands-self-inside.ensures.grown, c.put_strands-self-inside.ensures.alarm)

pub returns-clause-changed : goal.returns-clause-changed
returns-clause-changed c =
    (λ i. record (instance_of c.self.inside.setting (root_node c.put_strands-self-inside.new.forest.strands)) { context = c.put_context.ensures i; number = c.args.prepared.number })
    ∙ applied-by c.self.inside.setting c.self.inside.forest.strands c.put_strands-self-inside.new.forest.strands c.args.prepared c.args.self.now c.as_slice.result.now c.self.view_is c.as_slice.ensures c.put_strands-self-inside.ensures.node
