-- The strands of an instance: its lines of control, each named by the numbers of its branches from the outside in (DSL reference,
-- "Fork").
use Rattle.std.specs.Prelude.{◌+◌, ◌-◌, ◌++◌, ℕ, zero, length, List, [], ◌∷◌, Bool, true, false, nat_le, map, is_some}
use Rattle.swf_meaning.specs.Listen.{is_heard}
use Rattle.swf_meaning.specs.Node.{Node, Fresh, Live, Done, Fault, Inside, At, Later, Sleep, Hear, Await, Forked, Nodes, no_nodes, branch, Running}
use Rattle.swf_meaning.specs.Top.{Top, Begins, Moves, Fails, Retries, Sleeps, Hears, Awaits, Splits, Ends, Breaks, top_at, top_is}

-- the name of a strand inside a branch of that number, as seen from the `fork`; its top is the same
abbrev pub in_branch : ℕ → List ℕ × Top → List ℕ × Top
in_branch b s = (b ∷ s.0, s.1)

-- all strands of a node, ascending, each with its top: first the outermost one, then those of the branches of a `fork` in order
abbrev mutual
  pub tops : Node → List (List ℕ × Top)
  tops (Fresh t v) = ([], Begins t v) ∷ []
  tops (Live r k) = tops_inside r k
  tops (Done w f) = ([], Ends w f) ∷ []
  tops (Fault p) = ([], Breaks p) ∷ []

  pub tops_inside : Running → Inside → List (List ℕ × Top)
  tops_inside r (At round i (Done w f)) = ([], Moves r round i w f) ∷ []
  tops_inside r (At round i (Fault p)) = ([], Fails r round i p) ∷ []
  tops_inside r (At round i n) = tops n
  tops_inside r (Later n until) = ([], Retries r n until) ∷ []
  tops_inside r (Sleep until) = ([], Sleeps r until) ∷ []
  tops_inside r (Hear bound hs) = ([], Hears r bound hs) ∷ []
  tops_inside r (Await a q o) = ([], Awaits r a q o) ∷ []
  tops_inside r (Forked ns) = ([], Splits r ns) ∷ tops_from zero ns

  pub tops_from : ℕ → Nodes → List (List ℕ × Top)
  tops_from b no_nodes = []
  tops_from b (branch n ns) = map (in_branch b) (tops n) ++ tops_from (b + 1) ns

-- their names
abbrev pub strands : Node → List (List ℕ)
strands n = map (λ s. s.0) (tops n)

-- how many there are besides the first: one for every branch of every `fork` that runs
abbrev pub branches_in : Node → ℕ
branches_in n = length (strands n) - 1

-- the top of a strand can take a step at a moment: it has not begun, has ended with something around it in its strand, waits no more,
-- heard all that it listens for, or was answered
abbrev pub can_top : ℕ → Top → Bool
can_top now (Begins t v) = true
can_top now (Moves r round i w f) = true
can_top now (Fails r round i p) = true
can_top now (Retries r n until) = nat_le until now
can_top now (Sleeps r until) = nat_le until now
can_top now (Hears r bound hs) = is_heard r.task hs
can_top now (Awaits r a q o) = is_some o
can_top now (Splits r ns) = false
can_top now (Ends w f) = false
can_top now (Breaks p) = false

-- a strand can where its top can
abbrev pub can_go : ℕ → List ℕ → Node → Bool
can_go now bs n = top_is (can_top now) (top_at bs n)
