use Rattle.std.proofs.Common.{◌≡◌, drop}
use Rattle.swf_value.specs.Value.{Value}
use Rattle.swf_evaluation.specs.Run.{Run, each}
use Rattle.swf_jq_eval.specs.Goes.{Goes, ending_of, ahead}
use Rattle.swf_jq_eval.proofs.outputs.each.Given as goal

abbrev pub invariant-loop-x : goal.invariant-loop-x
invariant-loop-x g l =
    (k : Value → Run) → ((x : _) (o : _) (r : _) (o' : _) → goal.F-post g l.f x o r o' → Goes o.now (k x.now) o'.now r)
    → ahead l.out (each k (drop l.x-index l.fn.outer.values.items) (ending_of l.fn.outer.end)) ≡ ahead l.fn.out (each k l.fn.outer.values.items (ending_of l.fn.outer.end))
