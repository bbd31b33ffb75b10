use Rattle.std.proofs.Common.{◌≡◌, ◌++◌, drop}
use Rattle.swf_catalog.specs.Numbers.{own}
use Rattle.swf_catalog.specs.Rows.{entries_of}
use Rattle.swf_catalog.proofs.numbering.add_own.Given as goal

-- the rows that are left to add
abbrev pub invariant-loop-place : goal.invariant-loop-place
invariant-loop-place l = entries_of l.rows.items ++ own l.tasks l.place (drop l.place l.begins) ≡ entries_of l.fn.rows.items ++ own l.tasks 0 l.begins
