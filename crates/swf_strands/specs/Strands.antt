-- The tree that the strands of an instance stand for.
use Rattle.std.specs.Prelude.{◌≡◌, ◌≤◌, ◌^◌, ℕ, List, [], ◌∷◌, Bool, true, false, length, Some}
use Rattle.swf_value.specs.Value.{null}
use Rattle.swf_document.specs.declared.common.Flow.TheVariants.{Continue}
use Rattle.swf_frames.specs.Tree.{Tree, Strands, no_strands, strand, Branch, find, numbers}
use Rattle.swf_frames.specs.Paths.{AreDistinct}
use Rattle.swf_meaning.specs.Node.{Node, Done, Nodes, no_nodes, branch}
use Rattle.swf_stack.specs.Stands.{frames_of, inward, top_of}
use Rattle.swf_stack.specs.Stack.{plug, top_node, made_node, forked}
use Rattle.swf_stack.specs.declared.made.Stand.{Stand}
use Rattle.swf_stack.specs.declared.made.Top.{Top}
use Rattle.swf_stack.specs.declared.made.Top.TheVariants as tops

-- a strand that holds these, with these branches below it
abbrev pub strand_node : List Stand → Nodes → Node
strand_node ls ns = plug (frames_of ls) (forked (top_node (top_of ls)) ns)

abbrev pub nodes_of : Strands Stand → Nodes
nodes_of no_strands = no_nodes
nodes_of (strand m ls below after) = branch (strand_node ls (nodes_of below)) (nodes_of after)

abbrev pub node_of : Branch Stand → Node
node_of b = strand_node b.frames (nodes_of b.below)

-- the tree of all strands is that of the first; there is always one
abbrev pub root_node : Strands Stand → Node
root_node no_strands = Done null Continue
root_node (strand m ls below after) = strand_node ls (nodes_of below)

-- a strand that a step puts anew: a `fork` that begins has all its branches
abbrev pub made_stand : Stand → Node
made_stand s = plug (inward s.around) (made_node s.top)

abbrev pub is_fork : Top → Bool
is_fork (tops.Fresh t v) = false
is_fork (tops.Done w f) = false
is_fork (tops.Fault p) = false
is_fork (tops.Waiting r n m) = false
is_fork (tops.Hearing r bound hs) = false
is_fork (tops.Awaiting r a q o) = false
is_fork (tops.Forked r) = true

-- one stand
abbrev pub IsOne : List Stand → Type 0
IsOne ls = (s : Stand) × (ls ≡ s ∷ [])

abbrev pub most_beside : ℕ
most_beside = 2 ^ 16

-- what a strand holds: one stand, and strands below it only where a `fork` stands innermost
abbrev pub IsStrand : List Stand → Strands Stand → Type 0
IsStrand ls below = IsOne ls × (is_fork (top_of ls) ≡ false → below ≡ no_strands) × (length (numbers below) ≤ most_beside)

abbrev pub IsGrown : Strands Stand → Type 0
IsGrown no_strands = Unit {0}
IsGrown (strand m ls below after) = IsStrand ls below × IsGrown below × IsGrown after

abbrev pub IsGrownAt : Branch Stand → Type 0
IsGrownAt b = IsStrand b.frames b.below × IsGrown b.below

-- there is a strand of that number among these, and it holds what strands do
abbrev pub IsHeld : Tree Stand → ℕ → Type 0
IsHeld t n = AreDistinct t.strands × ((b : Branch Stand) × ((find t.strands n ≡ Some b) × IsGrownAt b))
