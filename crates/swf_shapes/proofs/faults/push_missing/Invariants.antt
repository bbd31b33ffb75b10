use Rattle.std.proofs.Common.{◌≡◌, ◌++◌, drop, map, IsTrue}
use Rattle.swf_value.specs.Node.{members_of}
use Rattle.swf_shapes.specs.Row.{row_of, are_ascii}
use Rattle.swf_shapes.specs.Faults.{missing}
use Rattle.swf_shapes.proofs.faults.push_missing.Given as goal

-- the faults so far and those of the rows that are left are all
abbrev pub invariant-loop-row : goal.invariant-loop-row
invariant-loop-row l = record {
  faults : l.fn.faults ++ missing l.place (map row_of l.rows) (members_of l.members) ≡ l.faults ++ missing l.place (map row_of (drop l.row-index l.rows)) (members_of l.members);
  ascii : IsTrue (are_ascii (drop l.row-index l.rows));
}
