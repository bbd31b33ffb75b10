-- How strands are named that can take a step.
use Rattle.std.specs.Prelude.{◌≡◌, ◌≤◌, ◌++◌, ℕ, List, Bool, true, false, Option, Some, None}
use Rattle.swf_frames.specs.Paths.{Found, nth}
use Rattle.swf_frames.specs.Tree.{Branch}
use Rattle.swf_meaning.specs.Local.{is_enabled}
use Rattle.swf_meaning.specs.Node.{Node}
use Rattle.swf_meaning.specs.Strands.{can_go}
use Rattle.swf_stack.specs.declared.made.Stand.{Stand}
use Rattle.swf_strands.specs.Strands.{node_of}

-- behind these numbers stand those that lead from the node to a strand that can take a step
abbrev pub Leads : ℕ → Node → List ℕ → List ℕ → Type 0
Leads now n path new = (bs : List ℕ) × ((new ≡ path ++ bs) × (can_go now bs n ≡ true))

-- to one that is looked for in a part of the node
abbrev pub LeadsOn : ℕ → Node → List ℕ → List ℕ → Bool → Type 0
LeadsOn now n path new true = Leads now n path new
LeadsOn now n path new false = new ≡ path

-- to one that is looked for in all of the node
abbrev pub LeadsIn : ℕ → Node → List ℕ → List ℕ → Bool → Type 0
LeadsIn now n path new true = Leads now n path new
LeadsIn now n path new false = (new ≡ path) × (is_enabled now n ≡ false)

-- no strand in the branches from that number on can take a step
abbrev pub IsStuckFrom : ℕ → ℕ → Branch Stand → Type 0
IsStuckFrom now first b = (i : ℕ) (c : Found Stand) → first ≤ i → nth b.below i ≡ Some c → is_enabled now (node_of c.held) ≡ false

-- to one that is looked for in those branches
abbrev pub LeadsFrom : ℕ → ℕ → Branch Stand → List ℕ → List ℕ → Bool → Type 0
LeadsFrom now first b path new true = Leads now (node_of b) path new
LeadsFrom now first b path new false = (new ≡ path) × IsStuckFrom now first b

-- a strand that can take a step; none where there is none
abbrev pub IsNext : ℕ → Node → Option (List ℕ) → Type 0
IsNext now n None = is_enabled now n ≡ false
IsNext now n (Some bs) = can_go now bs n ≡ true
