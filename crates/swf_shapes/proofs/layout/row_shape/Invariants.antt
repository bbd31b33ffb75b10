use Rattle.std.proofs.Common.{◌≡◌, map, drop, IsTrue}
use Rattle.swf_shapes.specs.Layout.{row_shape}
use Rattle.swf_shapes.specs.Row.{row_of, are_ascii}
use Rattle.swf_shapes.proofs.layout.row_shape.Given as goal

-- the rows that are left decide
abbrev pub invariant-loop-row : goal.invariant-loop-row
invariant-loop-row l = record {
  decide : row_shape (map row_of l.rows) l.name ≡ row_shape (map row_of (drop l.row-index l.rows)) l.name;
  ascii : IsTrue (are_ascii (drop l.row-index l.rows));
}
