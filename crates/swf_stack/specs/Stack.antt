-- The tree that a stack stands for.
use Rattle.std.specs.Prelude.{ℕ, List, [], ◌∷◌, Option, Some, None, option_to_list}
use Rattle.swf_value.specs.Value.{Value}
use Rattle.swf_meaning.specs.Node.{Node, Fresh, Live, Done, Fault, Inside, At, Later, Sleep, Hear, Await, Forked, Nodes, no_nodes}
use Rattle.swf_meaning.specs.Around.{seen}
use Rattle.swf_meaning.specs.Complete.{Stepped}
use Rattle.swf_meaning.specs.Fork.{branches_of, fresh}
use Rattle.swf_meaning.specs.Line.{Line}
use Rattle.swf_stack.specs.declared.made.Frame.{Frame}
use Rattle.swf_stack.specs.declared.made.Made.{Made}
use Rattle.swf_catalog.specs.Rounds.{round_of}
use Rattle.swf_stack.specs.declared.made.Top.{Top}
use Rattle.swf_stack.specs.declared.made.Top.TheVariants as tops

-- a `wait`, or a `try` that waits to make that retry
abbrev pub waiting : Option ℕ → ℕ → Inside
waiting None until = Sleep until
waiting (Some n) until = Later n until

abbrev pub top_node : Top → Node
top_node (tops.Fresh t v) = Fresh t v
top_node (tops.Done w f) = Done w f
top_node (tops.Fault p) = Fault p
top_node (tops.Waiting r n until) = Live r (waiting n until)
top_node (tops.Hearing r bound hs) = Live r (Hear bound hs)
top_node (tops.Awaiting r a q o) = Live r (Await a q o)
top_node (tops.Forked r) = Live r (Forked no_nodes)

-- a `fork` with these branches below it; what is no `fork` has none
abbrev pub forked_inside : Inside → Nodes → Inside
forked_inside (At round i n) ns = At round i n
forked_inside (Later n m) ns = Later n m
forked_inside (Sleep m) ns = Sleep m
forked_inside (Hear bound hs) ns = Hear bound hs
forked_inside (Await a q o) ns = Await a q o
forked_inside (Forked ms) ns = Forked ns

abbrev pub forked : Node → Nodes → Node
forked (Fresh t v) ns = Fresh t v
forked (Live r k) ns = Live r (forked_inside k ns)
forked (Done w f) ns = Done w f
forked (Fault p) ns = Fault p

-- a `fork` that begins has all its branches
abbrev pub made_node : Top → Node
made_node (tops.Fresh t v) = Fresh t v
made_node (tops.Done w f) = Done w f
made_node (tops.Fault p) = Fault p
made_node (tops.Waiting r n until) = Live r (waiting n until)
made_node (tops.Hearing r bound hs) = Live r (Hear bound hs)
made_node (tops.Awaiting r a q o) = Live r (Await a q o)
made_node (tops.Forked r) = Live r (Forked (fresh (branches_of r.task) r.input))

-- a node inside running tasks, of which the first is outermost
abbrev pub plug : List Frame → Node → Node
plug [] n = n
plug (f ∷ fs) n = Live f.running (At (round_of f.round) f.place (plug fs n))

-- a context that changed, or the one before
abbrev pub context_or : Value → Option Value → Value
context_or c None = c
context_or c (Some d) = d

-- what a step is that was made of a task which goes by the line
abbrev pub stepped_of : Line → Made → Stepped
stepped_of l m = record { node = plug (option_to_list m.frame) (made_node m.top); context = context_or l.context m.context; used = m.used; emitted = m.emitted }

-- what a task inside these running tasks goes by
abbrev pub seen_in : Line → List Frame → Line
seen_in l [] = l
seen_in l (f ∷ fs) = seen_in (seen l f.running.task (round_of f.round)) fs
