-- A step that was prepared, and what it makes of the instance.
use Rattle.std.specs.Prelude.{◌≡◌, ◌≤◌, ℕ, List, Bool, true, false, length, take, Some, option_map}
use Rattle.swf_meaning.specs.Documents.{Loaded}
use Rattle.swf_meaning.specs.Node.{Node}
use Rattle.swf_meaning.specs.World.{Instance, step_at}
use Rattle.swf_stack.specs.Stack.{context_or}
use Rattle.swf_stack.specs.declared.made.Top.{Top}
use Rattle.swf_stack.specs.declared.made.Top.TheVariants as tops
use Rattle.swf_strands.specs.Forks.{stand_node}
use Rattle.swf_strands.specs.Strands.{IsGrown, made_stand, root_node}
use Rattle.swf_strands.specs.Ways.{has_strand, replaced}
use Rattle.swf_tasks.specs.Taken.{taken}
use Rattle.swf_tasks.specs.declared.prepared.Prepared.{Prepared}
use Rattle.swf_tasks.specs.declared.prepared.Strands.{Strands}
use Rattle.swf_tasks.specs.declared.prepared.Strands.TheVariants as strands

-- the tree after the step of that strand
abbrev pub node_after : Strands → List ℕ → Node → Node
node_after (strands.One d h) bs n = replaced (take d bs) (stand_node h) n
node_after (strands.All f) bs n = root_node f.strands

-- the same, with all branches of a `fork` that begins on a strand that is put anew
abbrev pub begun_after : Strands → List ℕ → Node → Node
begun_after (strands.One d h) bs n = replaced (take d bs) (made_stand h) n
begun_after (strands.All f) bs n = root_node f.strands

abbrev pub applied : Prepared → Instance → Instance
applied p i = record i { node = node_after p.strands p.strand i.node; context = context_or i.context p.context; number = p.number }

-- a task that listens stands innermost
abbrev pub listens : Top → Bool
listens (tops.Fresh t v) = false
listens (tops.Done w f) = false
listens (tops.Fault p) = false
listens (tops.Waiting r n until) = false
listens (tops.Hearing r bound hs) = true
listens (tops.Awaiting r a q o) = false
listens (tops.Forked r) = false

-- a strand may listen that is put anew
abbrev pub may_listen : Strands → Bool
may_listen (strands.One d h) = listens h.top
may_listen (strands.All f) = true

-- the tree has the strand that is put anew
abbrev pub fits : Strands → List ℕ → Node → Type 0
fits (strands.One d h) bs n = (d ≤ length bs) × (has_strand (take d bs) n ≡ true)
fits (strands.All f) bs n = IsGrown f.strands

abbrev pub Fits : Prepared → Instance → Type 0
Fits p i = fits p.strands p.strand i.node

-- the branches of a `fork` that begins are among the strands
pub record IsBegun (old : Strands) (bs : List ℕ) (n : Node) (new : Strands) : Type 0 where
  pub fits : fits new bs n
  pub node : node_after new bs n ≡ begun_after old bs n

-- the step is that of the strand
pub record IsPrepared (now : ℕ) (ds : List Loaded) (bs : List ℕ) (i : Instance) (p : Prepared) : Type 0 where
  pub fits : Fits p i
  pub step : option_map (taken i) (step_at now ds bs i) ≡ Some (applied p i, p.emitted)
