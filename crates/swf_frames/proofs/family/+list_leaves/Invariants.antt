use Rattle.std.proofs.Common.{◌≡◌, ◌≤◌, ◌-◌, ◌++◌, drop, length}
use Rattle.swf_frames.specs.Tree.{leaves}
use Rattle.swf_frames.specs.Stacks.{rows, under}
use Rattle.swf_frames.proofs.family.+list_leaves.Given as goal

abbrev pub decreases-list_leaves : goal.decreases-list_leaves
decreases-list_leaves g l = length l.stacks.now

abbrev pub invariant-loop-place : goal.invariant-loop-place
invariant-loop-place g l = record {
  in_range : l.place ≤ length l.stacks;
  told : l.list.items ++ leaves (under l.parent (rows (drop l.place l.stacks))) ≡ l.fn.list.items ++ leaves (under l.parent (rows l.stacks));
}

abbrev pub decreases-loop-place : goal.decreases-loop-place
decreases-loop-place g l = length l.stacks - l.place
