use Rattle.std.proofs.Common.{◌≡◌, ◌-◌, Some}
use Rattle.swf_frames.specs.Tree.{Branch, find}
use Rattle.swf_meaning.specs.Fork.{put}
use Rattle.swf_stack.specs.Stack.{top_node}
use Rattle.swf_stack.specs.declared.made.Stand.{Stand}
use Rattle.swf_strands.specs.Strands.{nodes_of}
use Rattle.swf_tasks.proofs.OutputLemmas.{AreUpTo, beside}
use Rattle.swf_tasks.proofs.step.outputs_of.Given as goal

-- the outputs up to here
abbrev pub invariant-loop-branch : goal.invariant-loop-branch
invariant-loop-branch l = (b : Branch Stand) → find l.forest.strands l.strand ≡ Some b → AreUpTo (put (nodes_of b.below) l.number (top_node l.ended)) l.next l.outputs.items

abbrev pub decreases-loop-branch : goal.decreases-loop-branch
decreases-loop-branch l = beside (find l.forest.strands l.strand) - l.next
