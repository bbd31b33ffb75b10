-- A task whose branches run beside each other (DSL reference, "Fork").
use Rattle.std.specs.Prelude.{◌+◌, ℕ, zero, suc, List, [], ◌∷◌, Bool, false, nat_le, codes, Option, Some, None, option_map, Result, Ok, Err, if◌then◌else◌}
use Rattle.swf_value.specs.Node.{items_of}
use Rattle.swf_value.specs.Value.{Value, list}
use Rattle.swf_document.specs.Task.{Task, Tasks, no_tasks, named}
use Rattle.swf_document.specs.declared.common.Flow.TheVariants as flows
use Rattle.swf_document.specs.declared.error.ErrorKind.TheVariants as kinds
use Rattle.swf_document.specs.declared.error.Problem.{Problem}
use Rattle.swf_meaning.specs.Complete.{Stepped, becomes, step_of, complete}
use Rattle.swf_meaning.specs.Line.{Line, Site}
use Rattle.swf_meaning.specs.Node.{Node, Fresh, Live, Done, Fault, Forked, Nodes, no_nodes, branch, Running}
use Rattle.swf_meaning.specs.Parts.{Branches, kind_of, fork_in}
use Rattle.swf_meaning.specs.Rule.{fails}

-- how many branches
abbrev pub count : Nodes → ℕ
count no_nodes = zero
count (branch n ns) = suc (count ns)

-- how many branches may be at work in an instance
abbrev pub most_branches : ℕ
most_branches = 256

abbrev pub or_none : Option Branches → Tasks
or_none None = no_tasks
or_none (Some b) = b.tasks

-- the branches of a task
abbrev pub branches_of : Task → Tasks
branches_of t = or_none (fork_in (kind_of t))

abbrev pub or_not : Option Branches → Bool
or_not None = false
or_not (Some b) = b.compete

-- whether the branches of a task compete
abbrev pub competes : Task → Bool
competes t = or_not (fork_in (kind_of t))

-- one branch for each task, none of which has begun
abbrev pub fresh : Tasks → Value → Nodes
fresh no_tasks u = no_nodes
fresh (named k t ts) u = branch (Fresh t u) (fresh ts u)

-- Enter: a `fork` begins where the instance has room for its branches; one without branches is complete at once
abbrev pub split : Line → Running → Nodes → Result Stepped Problem
split l r no_nodes = complete l r (list (items_of []))
split l r (branch n ns) = Ok (becomes l (Live r (Forked (branch n ns))))

abbrev pub forking : Site → Line → Running → Tasks → Result Stepped Problem
forking s l r ts =
    if nat_le (s.branches + count (fresh ts r.input)) most_branches
    then split l r (fresh ts r.input)
    else fails r.task kinds.Runtime (codes "strand limit")

-- another node in place of the branch of a number
abbrev pub put : Nodes → ℕ → Node → Nodes
put no_nodes b m = no_nodes
put (branch n ns) zero m = branch m ns
put (branch n ns) (suc b) m = branch n (put ns b m)

-- the output of a branch that is done, before others
abbrev pub output_before : Node → Option (List Value) → Option (List Value)
output_before (Fresh t v) ws = None
output_before (Live r k) ws = None
output_before (Done w f) ws = option_map (λ ws. w ∷ ws) ws
output_before (Fault p) ws = None

-- the outputs of all branches in their order, once all are done
abbrev pub outputs : Nodes → Option (List Value)
outputs no_nodes = Some []
outputs (branch n ns) = output_before n (outputs ns)

-- the branches go on until the last one is done
abbrev pub joined : Line → Running → Nodes → Option (List Value) → Result Stepped Problem
joined l r ns None = Ok (becomes l (Live r (Forked ns)))
joined l r ns (Some ws) = complete l r (list (items_of ws))

-- Settle: what becomes of a `fork` that has these branches, one of which came to that node. An error ends it, and so does `end`;
-- the first branch that is done wins where they compete
abbrev pub settled : Line → Running → Bool → Nodes → Node → Result Stepped Problem
settled l r compete ns (Fresh t v) = Ok (becomes l (Live r (Forked ns)))
settled l r compete ns (Live q k) = Ok (becomes l (Live r (Forked ns)))
settled l r compete ns (Done w flows.End) = Ok (becomes l (Done w flows.End))
settled l r compete ns (Done w f) = if compete then complete l r w else joined l r ns (outputs ns)
settled l r compete ns (Fault p) = Err p

-- what the `fork` comes to. A branch leaves the context as it was
abbrev pub settling : Line → Running → Nodes → ℕ → Stepped → Stepped
settling l r ns b m = step_of l (settled l r (competes r.task) (put ns b m.node) m.node)

-- a branch took its step
abbrev pub after_branch : Line → Running → Nodes → ℕ → Stepped → Stepped
after_branch l r ns b m = record (settling l r ns b m) { used = m.used; emitted = m.emitted }
