use Rattle.std.proofs.Common.{◌≡◌, drop, max}
use Rattle.swf_value.specs.Found.{deepest_item}
use Rattle.swf_value.proofs.whole.depth_of_items.Given as goal

abbrev pub invariant-loop-item : goal.invariant-loop-item
invariant-loop-item l = max l.most (deepest_item (drop l.item-index l.items)) ≡ deepest_item l.items
