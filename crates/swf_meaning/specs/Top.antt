-- What stands on top of a strand: where its next step is taken (DSL, "Concepts", "Task").
use Rattle.std.specs.Prelude.{ℕ, zero, suc, List, [], ◌∷◌, Bool, false, Option, Some, None}
use Rattle.swf_value.specs.Value.{Value, Members}
use Rattle.swf_document.specs.Task.{Task}
use Rattle.swf_document.specs.declared.common.Flow.{Flow}
use Rattle.swf_document.specs.declared.error.Problem.{Problem}
use Rattle.swf_meaning.specs.Around.{seen}
use Rattle.swf_meaning.specs.Line.{Line}
use Rattle.swf_meaning.specs.Node.{Node, Fresh, Live, Done, Fault, Inside, At, Later, Sleep, Hear, Await, Forked, Nodes, no_nodes, branch, Round, Running}
use Rattle.swf_calls.specs.Request.{Request}
use Rattle.swf_calls.specs.declared.reply.CallReply.{CallReply}
use Rattle.swf_meaning.specs.declared.heard.Heard.{Heard}

-- a task that has not begun, with its raw input; a list in a round whose task at a place is done, or ended in an error; a `try` that
-- waits until a moment to make that retry; a `wait` until a moment; a `listen`, with the values that names are bound to and what it
-- heard; a `call`, with its activity, its request and its answer; a `fork`, whose branches are strands of their own; and a strand that is over, with its output or in an error
pub data Top : Type 0 where
  Begins : Task → Value → Top
  Moves : Running → Round → ℕ → Value → Flow → Top
  Fails : Running → Round → ℕ → Problem → Top
  Retries : Running → ℕ → ℕ → Top
  Sleeps : Running → ℕ → Top
  Hears : Running → Members → List Heard → Top
  Awaits : Running → List ℕ → Request → Option CallReply → Top
  Splits : Running → Nodes → Top
  Ends : Value → Flow → Top
  Breaks : Problem → Top

-- a strand is named by the numbers of its branches from the outside in: this is the top of the one that no branch is left of
abbrev pub here : List ℕ → Top → Option Top
here [] t = Some t
here (b ∷ bs) t = None

-- the top of the strand of that name; none where a node has no such strand
abbrev mutual
  pub top_at : List ℕ → Node → Option Top
  top_at bs (Fresh t v) = here bs (Begins t v)
  top_at bs (Live r k) = top_inside bs r k
  top_at bs (Done w f) = here bs (Ends w f)
  top_at bs (Fault p) = here bs (Breaks p)

  pub top_inside : List ℕ → Running → Inside → Option Top
  top_inside bs r (At round i (Done w f)) = here bs (Moves r round i w f)
  top_inside bs r (At round i (Fault p)) = here bs (Fails r round i p)
  top_inside bs r (At round i n) = top_at bs n
  top_inside bs r (Later n until) = here bs (Retries r n until)
  top_inside bs r (Sleep until) = here bs (Sleeps r until)
  top_inside bs r (Hear bound hs) = here bs (Hears r bound hs)
  top_inside bs r (Await a q o) = here bs (Awaits r a q o)
  top_inside [] r (Forked ns) = Some (Splits r ns)
  top_inside (b ∷ bs) r (Forked ns) = top_branch b bs ns

  pub top_branch : ℕ → List ℕ → Nodes → Option Top
  top_branch b bs no_nodes = None
  top_branch zero bs (branch n ns) = top_at bs n
  top_branch (suc b) bs (branch n ns) = top_branch b bs ns

-- it is there, and that holds of it
abbrev pub top_is : (Top → Bool) → Option Top → Bool
top_is p None = false
top_is p (Some t) = p t

-- what the top of that strand sees, where its node sees the line: each round on the way adds its variables
abbrev mutual
  pub line_at : Line → List ℕ → Node → Line
  line_at l bs (Fresh t v) = l
  line_at l bs (Live r k) = line_inside l bs r k
  line_at l bs (Done w f) = l
  line_at l bs (Fault p) = l

  pub line_inside : Line → List ℕ → Running → Inside → Line
  line_inside l bs r (At round i (Done w f)) = l
  line_inside l bs r (At round i (Fault p)) = l
  line_inside l bs r (At round i n) = line_at (seen l r.task round) bs n
  line_inside l bs r (Later n until) = l
  line_inside l bs r (Sleep until) = l
  line_inside l bs r (Hear bound hs) = l
  line_inside l bs r (Await a q o) = l
  line_inside l [] r (Forked ns) = l
  line_inside l (b ∷ bs) r (Forked ns) = line_branch l b bs ns

  pub line_branch : Line → ℕ → List ℕ → Nodes → Line
  line_branch l b bs no_nodes = l
  line_branch l zero bs (branch n ns) = line_at l bs n
  line_branch l (suc b) bs (branch n ns) = line_branch l b bs ns
