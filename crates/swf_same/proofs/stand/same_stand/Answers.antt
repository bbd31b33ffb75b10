use Rattle.std.proofs.Common.{ap}
use Rattle.swf_same.proofs.Nodes.{stand_one}
use Rattle.swf_stack.specs.Stack.{plug, top_node}
use Rattle.swf_stack.specs.Stands.{inward}
use Rattle.swf_same.proofs.stand.same_stand.Goals as goal

pub returns : goal.returns
returns c =
    record {
      exact = c.is_same.ensures;
      tree = (λ t. ap (λ s. plug (inward s.around) (top_node s.top)) (c.is_same.ensures.0 t), λ e. c.is_same.ensures.1 (stand_one c.args.a.now c.args.b.now e));
    }
