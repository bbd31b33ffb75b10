-- The walk over all strands of a node and the way to one of them agree.
use Rattle.std.specs.Prelude.{◌≡◌, ◌↔◌, ℕ, List, Some, Contains}
use Rattle.swf_meaning.specs.Node.{Node}
use Rattle.swf_meaning.specs.Strands.{tops}
use Rattle.swf_meaning.specs.Top.{Top, top_at}

-- a strand is listed with a top exactly where its name finds that top
abbrev pub AreFound : Node → Type 0
AreFound n = (bs : List ℕ) (t : Top) → Contains (tops n) (bs, t) ↔ (top_at bs n ≡ Some t)
