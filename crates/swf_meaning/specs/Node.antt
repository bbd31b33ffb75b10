-- The tree that an instance is at a moment (DSL, "Concepts", "Workflow" and "Task").
use Rattle.std.specs.Prelude.{ℕ, List, Option}
use Rattle.swf_value.specs.Value.{Value, Members}
use Rattle.swf_document.specs.Task.{Task}
use Rattle.swf_document.specs.declared.common.Flow.{Flow}
use Rattle.swf_document.specs.declared.document.Document.{Document}
use Rattle.swf_document.specs.declared.error.Problem.{Problem}
use Rattle.swf_calls.specs.Request.{Request}
use Rattle.swf_calls.specs.declared.reply.CallReply.{CallReply}
use Rattle.swf_meaning.specs.declared.heard.Heard.{Heard}

-- a task at work, with its raw and its transformed input
pub record Running : Type 0 where
  pub task : Task
  pub raw : Value
  pub input : Value

-- for what a list of tasks is run: once; as the iteration of a `for` over these items; as the attempt of a `try` after so many
-- retries; to handle an error that was caught; as a function that was called; or as the workflow of a document, on that raw input, with a
-- context of its own
pub data Round : Type 0 where
  Seq : Round
  Each : List Value → ℕ → Round
  Try : ℕ → Round
  Catch : Problem → Round
  Fun : Round
  Sub : Document → Value → Value → Round

-- a task that has not begun, with its raw input; one at work, with what runs inside; one that is done, with its output and
-- where control goes; and one that ended in an error. A workflow is a task too: a `do` at the empty place
mutual
  pub data Node : Type 0 where
    Fresh : Task → Value → Node
    Live : Running → Inside → Node
    Done : Value → Flow → Node
    Fault : Problem → Node

  -- what runs inside a task: a place in its list of tasks, and the node there; a `try` that waits until a moment to make that
  -- retry; a `wait` until a moment; a `listen`, with the values that names are bound to and what it heard; a `call`, with the name of its
  -- activity, its request, and what it was answered, once it was; or the branches of a `fork`
  pub data Inside : Type 0 where
    At : Round → ℕ → Node → Inside
    Later : ℕ → ℕ → Inside
    Sleep : ℕ → Inside
    Hear : Members → List Heard → Inside
    Await : List ℕ → Request → Option CallReply → Inside
    Forked : Nodes → Inside

  -- branches beside each other, in order
  pub data Nodes : Type 0 where
    no_nodes : Nodes
    branch : Node → Nodes → Nodes
