use Rattle.std.proofs.Common.{◌≡◌, ◌++◌, drop}
use Rattle.swf_value.specs.Node.{items_of}
use Rattle.swf_reader.specs.Parts.{filters_in}
use Rattle.swf_reader.proofs.event.filters_in.Given as goal

-- what was made so far, and what is left to make
abbrev pub invariant-loop-item : goal.invariant-loop-item
invariant-loop-item l = filters_in (items_of l.items) ≡ l.filters.items ++ filters_in (items_of (drop l.item-index l.items))
