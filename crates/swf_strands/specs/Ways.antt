-- The strand that branch numbers lead to in the tree of an instance.
use Rattle.std.specs.Prelude.{ℕ, zero, suc, List, [], ◌∷◌, Bool, Option, Some, None, is_some, option_and_then}
use Rattle.swf_meaning.specs.Node.{Node, Fresh, Live, Done, Fault, Inside, At, Later, Sleep, Hear, Await, Forked, Nodes, no_nodes, branch}
use Rattle.swf_meaning.specs.Pending.{is_listening}
use Rattle.swf_meaning.specs.Top.{top_at, top_is}
use Rattle.swf_meaning.specs.Wake.{until_top}

-- what stands on the strand
abbrev mutual
  pub at : List ℕ → Node → Option Node
  at [] n = Some n
  at (b ∷ bs) (Fresh t v) = None
  at (b ∷ bs) (Live r k) = at_inside b bs k
  at (b ∷ bs) (Done w f) = None
  at (b ∷ bs) (Fault p) = None

  pub at_inside : ℕ → List ℕ → Inside → Option Node
  at_inside b bs (At round i n) = at (b ∷ bs) n
  at_inside b bs (Later n m) = None
  at_inside b bs (Sleep m) = None
  at_inside b bs (Hear bound hs) = None
  at_inside b bs (Await a q o) = None
  at_inside b bs (Forked ns) = at_among b bs ns

  pub at_among : ℕ → List ℕ → Nodes → Option Node
  at_among b bs no_nodes = None
  at_among zero bs (branch n ns) = at bs n
  at_among (suc b) bs (branch n ns) = at_among b bs ns

abbrev pub has_strand : List ℕ → Node → Bool
has_strand bs n = is_some (at bs n)

-- another node in its place
abbrev mutual
  pub replaced : List ℕ → Node → Node → Node
  replaced [] m n = m
  replaced (b ∷ bs) m (Fresh t v) = Fresh t v
  replaced (b ∷ bs) m (Live r k) = Live r (replaced_inside b bs m k)
  replaced (b ∷ bs) m (Done w f) = Done w f
  replaced (b ∷ bs) m (Fault p) = Fault p

  pub replaced_inside : ℕ → List ℕ → Node → Inside → Inside
  replaced_inside b bs m (At round i n) = At round i (replaced (b ∷ bs) m n)
  replaced_inside b bs m (Later n l) = Later n l
  replaced_inside b bs m (Sleep l) = Sleep l
  replaced_inside b bs m (Hear bound hs) = Hear bound hs
  replaced_inside b bs m (Await a q o) = Await a q o
  replaced_inside b bs m (Forked ns) = Forked (replaced_among b bs m ns)

  pub replaced_among : ℕ → List ℕ → Node → Nodes → Nodes
  replaced_among b bs m no_nodes = no_nodes
  replaced_among zero bs m (branch n ns) = branch (replaced bs m n) ns
  replaced_among (suc b) bs m (branch n ns) = branch n (replaced_among b bs m ns)

-- the moment that the strand waits for
abbrev pub until_at : List ℕ → Node → Option ℕ
until_at bs n = option_and_then until_top (top_at bs n)

-- that of the outermost one
abbrev pub own_until : Node → Option ℕ
own_until n = until_at [] n

-- the strand listens, and has not heard all
abbrev pub listens_at : List ℕ → Node → Bool
listens_at bs n = top_is is_listening (top_at bs n)
