-- What a strand is alone: all that a step reads which it takes alone, and what such a step makes of it.
use Rattle.std.specs.Prelude.{◌&&◌, ℕ, zero, suc, List, [], ◌∷◌, Bool, true, false, Option, Some, None, option_map, option_and_then, if◌then◌else◌}
use Rattle.swf_meaning.specs.Around.{seen}
use Rattle.swf_meaning.specs.Complete.{Stepped}
use Rattle.swf_meaning.specs.Line.{Line, Site}
use Rattle.swf_meaning.specs.Local.{local}
use Rattle.swf_meaning.specs.Node.{Node, Fresh, Live, Done, Fault, Inside, At, Later, Sleep, Hear, Await, Forked, Nodes, no_nodes, branch, Running}
use Rattle.swf_meaning.specs.Shared.{is_shared}
use Rattle.swf_meaning.specs.World.{Instance, line_of}
use Rattle.swf_strands.specs.Ways.{at, replaced}

-- what stands on a strand, what that goes by, and whether it is a branch
pub record Own : Type 0 where
  pub line : Line
  pub node : Node
  pub branch : Bool

-- what the node goes by that stands on a strand, where the node goes by the line that it is in
abbrev mutual
  pub outer_line : Line → List ℕ → Node → Line
  outer_line l [] n = l
  outer_line l (b ∷ bs) (Fresh t v) = l
  outer_line l (b ∷ bs) (Live r k) = outer_inside l b bs r k
  outer_line l (b ∷ bs) (Done w f) = l
  outer_line l (b ∷ bs) (Fault p) = l

  pub outer_inside : Line → ℕ → List ℕ → Running → Inside → Line
  outer_inside l b bs r (At round i n) = outer_line (seen l r.task round) (b ∷ bs) n
  outer_inside l b bs r (Later n u) = l
  outer_inside l b bs r (Sleep u) = l
  outer_inside l b bs r (Hear bound hs) = l
  outer_inside l b bs r (Await a q o) = l
  outer_inside l b bs r (Forked ns) = outer_among l b bs ns

  pub outer_among : Line → ℕ → List ℕ → Nodes → Line
  outer_among l b bs no_nodes = l
  outer_among l zero bs (branch n ns) = outer_line l bs n
  outer_among l (suc b) bs (branch n ns) = outer_among l b bs ns

abbrev pub is_branch : List ℕ → Bool
is_branch [] = false
is_branch (b ∷ bs) = true

abbrev pub owned : Line → List ℕ → Node → Own
owned l bs m = record { line = l; node = m; branch = is_branch bs }

-- the strand of a name alone; none where the instance has none
abbrev pub own_at : List ℕ → Instance → Option Own
own_at bs i = option_map (owned (outer_line (line_of i) bs i.node) bs) (at bs i.node)

-- another in its place. A branch leaves the context of the instance
abbrev pub context_with : List ℕ → Line → Instance → Instance
context_with [] l i = record i { context = l.context }
context_with (b ∷ bs) l i = i

abbrev pub put_own : List ℕ → Own → Instance → Instance
put_own bs o i = record (context_with bs o.line i) { node = replaced bs o.node i.node }

-- a worker sees nothing but the strand and the moment
abbrev pub blind : ℕ → Site
blind now = record { number = 0; branches = 0; now = now; documents = [] }

-- what a step leaves of the strand. A branch leaves the context as it was
abbrev pub line_after : Own → Stepped → Line
line_after o m = if o.branch then o.line else record o.line { context = m.context }

abbrev pub own_after : Own → Stepped → Own
own_after o m = record { line = line_after o m; node = m.node; branch = o.branch }

abbrev pub has_ended : Node → Bool
has_ended (Fresh t v) = false
has_ended (Live r k) = false
has_ended (Done w f) = true
has_ended (Fault p) = true

-- a branch that ends is no part of a slice
abbrev pub unless_ended : Own → Option Own
unless_ended o = if o.branch && has_ended o.node then None else Some o

-- a step that the strand takes alone at a moment: one that is not shared and does not end its branch
abbrev pub own_step : ℕ → Own → Option Own
own_step now o = if is_shared [] o.node then None else option_and_then unless_ended (option_map (own_after o) (local (blind now) o.line [] o.node))
