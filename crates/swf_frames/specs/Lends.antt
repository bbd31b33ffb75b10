-- What a stack and a forest end as, where a `&mut` to a frame is returned.
use Rattle.std.specs.Prelude.{ℕ, Option}
use Rattle.std.specs.Borrow.{LendsIf, Fml, RattleType, MutBor}
use Rattle.swf_frames.specs.Tree.{Tree, with_top}
use Rattle.swf_frames.specs.contracts.forest.Forest.{the_row}

-- once the borrow ends, the top frame of the strand is the one that was last there
abbrev pub LendsTop : (F : RattleType) → MutBor (Tree F.Denot) → ℕ → Option (MutBor F.Denot) → Fml
LendsTop F t n r = LendsIf (the_row F) F t r (with_top t.now n) t.now
