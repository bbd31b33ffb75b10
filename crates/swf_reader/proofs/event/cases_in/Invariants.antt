use Rattle.std.proofs.Common.{◌≡◌, ◌++◌, drop}
use Rattle.swf_value.specs.Node.{items_of}
use Rattle.swf_reader.specs.Parts.{cases_in}
use Rattle.swf_reader.proofs.event.cases_in.Given as goal

-- what was made so far, and what is left to make
abbrev pub invariant-loop-item : goal.invariant-loop-item
invariant-loop-item l = cases_in (items_of l.items) ≡ l.cases.items ++ cases_in (items_of (drop l.item-index l.items))
