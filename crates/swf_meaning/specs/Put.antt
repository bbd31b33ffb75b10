-- What becomes of a node by a step of the top of one of its strands.
use Rattle.std.specs.Prelude.{ℕ, zero, suc, List, [], ◌∷◌}
use Rattle.swf_value.specs.Value.{Value}
use Rattle.swf_meaning.specs.Around.{seen}
use Rattle.swf_meaning.specs.Complete.{Stepped}
use Rattle.swf_meaning.specs.Fork.{after_branch}
use Rattle.swf_meaning.specs.Line.{Line}
use Rattle.swf_meaning.specs.Node.{Node, Fresh, Live, Done, Fault, Inside, At, Later, Sleep, Hear, Await, Forked, Nodes, no_nodes, branch, Round, Seq, Each, Try, Catch, Fun, Sub, Running}

-- a sub-workflow keeps its context itself
abbrev pub keeping : Round → Value → Round
keeping Seq c = Seq
keeping (Each items j) c = Each items j
keeping (Try n) c = Try n
keeping (Catch p) c = Catch p
keeping Fun c = Fun
keeping (Sub d v old) c = Sub d v c

-- so that the context around it stays
abbrev pub context_around : Line → Round → Value → Value
context_around l Seq c = c
context_around l (Each items j) c = c
context_around l (Try n) c = c
context_around l (Catch p) c = c
context_around l Fun c = c
context_around l (Sub d v old) c = l.context

-- the step of what runs inside, put back in its place
abbrev pub put_back : Line → Running → Round → ℕ → Stepped → Stepped
put_back l r round i m = record m { node = Live r (At (keeping round m.context) i m.node); context = context_around l round m.context }

-- the step of the top of the strand of that name, put back into each round on the way; and each `fork` there sees what became of its
-- branch
abbrev mutual
  pub put_at : Line → List ℕ → Node → Stepped → Stepped
  put_at l bs (Fresh t v) m = m
  put_at l bs (Live r k) m = put_inside l bs r k m
  put_at l bs (Done w f) m = m
  put_at l bs (Fault p) m = m

  pub put_inside : Line → List ℕ → Running → Inside → Stepped → Stepped
  put_inside l bs r (At round i (Done w f)) m = m
  put_inside l bs r (At round i (Fault p)) m = m
  put_inside l bs r (At round i n) m = put_back l r round i (put_at (seen l r.task round) bs n m)
  put_inside l bs r (Later n until) m = m
  put_inside l bs r (Sleep until) m = m
  put_inside l bs r (Hear bound hs) m = m
  put_inside l bs r (Await a q o) m = m
  put_inside l [] r (Forked ns) m = m
  put_inside l (b ∷ bs) r (Forked ns) m = after_branch l r ns b (put_branch l b bs ns m)

  pub put_branch : Line → ℕ → List ℕ → Nodes → Stepped → Stepped
  put_branch l b bs no_nodes m = m
  put_branch l zero bs (branch n ns) m = put_at l bs n m
  put_branch l (suc b) bs (branch n ns) m = put_branch l b bs ns m
