-- A strand that is put anew, and the branches of a `fork` that begins.
use Rattle.std.specs.Prelude.{◌≡◌, ℕ, List, [], ◌∷◌, Option, Some, None}
use Rattle.swf_value.specs.Value.{Value}
use Rattle.swf_document.specs.Task.{Tasks, no_tasks, named}
use Rattle.swf_frames.specs.Paths.{edit}
use Rattle.swf_frames.specs.Tree.{Tree, no_strands}
use Rattle.swf_meaning.specs.Fork.{branches_of}
use Rattle.swf_meaning.specs.Node.{Node, no_nodes}
use Rattle.swf_stack.specs.declared.made.Stand.{Stand}
use Rattle.swf_stack.specs.declared.made.Top.{Top}
use Rattle.swf_stack.specs.declared.made.Top.TheVariants as tops
use Rattle.swf_strands.specs.Strands.{strand_node}

-- with none below it
abbrev pub stand_node : Stand → Node
stand_node s = strand_node (s ∷ []) no_nodes

-- one branch for each task, none of which has begun
abbrev pub fresh_stands : Tasks → Value → List Stand
fresh_stands no_tasks u = []
fresh_stands (named k t ts) u = (record { around = []; top = tops.Fresh t u }) ∷ fresh_stands ts u

abbrev pub branches_in : Top → Option (List Stand)
branches_in (tops.Fresh t v) = None
branches_in (tops.Done w f) = None
branches_in (tops.Fault p) = None
branches_in (tops.Waiting r n m) = None
branches_in (tops.Hearing r bound hs) = None
branches_in (tops.Awaiting r a q o) = None
branches_in (tops.Forked r) = Some (fresh_stands (branches_of r.task) r.input)

abbrev pub IsPutAnew : ℕ → Stand → Tree Stand → Tree Stand → Type 0
IsPutAnew n s old new = new.strands ≡ edit (λ b. record { frames = s ∷ []; below = no_strands }) old.strands n
