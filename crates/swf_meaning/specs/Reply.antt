-- What a call is answered, put where the call awaits it (DSL, "Runtime"; DSL reference, "HTTP Call").
use Rattle.std.specs.Prelude.{◌==◌, ◌&&◌, ℕ, List, [], ◌∷◌, Bool, false, not, is_some, Option, Some, None, if◌then◌else◌}
use Rattle.std.specs.List.{list_any}
use Rattle.swf_text.specs.Same.{same}
use Rattle.swf_calls.specs.declared.reply.CallReply.{CallReply}
use Rattle.swf_meaning.specs.Node.{Node, Fresh, Live, Done, Fault, Inside, At, Later, Sleep, Hear, Await, Forked, Nodes, no_nodes, branch}
use Rattle.swf_meaning.specs.Strands.{tops}
use Rattle.swf_meaning.specs.Top.{Top, Awaits}

-- what stands before the last c of a text, with how the text goes on behind its first character
abbrev pub or_here : ℕ → ℕ → Option (List ℕ) → Option (List ℕ)
or_here c d None = if d == c then Some [] else None
or_here c d (Some t) = Some (d ∷ t)

abbrev pub before_last : ℕ → List ℕ → Option (List ℕ)
before_last c [] = None
before_last c (d ∷ ds) = or_here c d (before_last c ds)

-- the name of an activity begins with the id of its instance, which stands before its last `/`
abbrev pub is_named_by : List ℕ → Option (List ℕ) → Bool
is_named_by id None = false
is_named_by id (Some t) = same t id

abbrev pub is_of : List ℕ → List ℕ → Bool
is_of a id = is_named_by id (before_last 47 a)

-- the call of that activity has no answer yet
abbrev pub is_open_top : List ℕ → Top → Bool
is_open_top a (Awaits r b q o) = same a b && not (is_some o)
is_open_top a t = false

-- an activity is open while its call stands in the tree and has no answer
abbrev pub is_open : List ℕ → Node → Bool
is_open a n = list_any (λ s. is_open_top a s.1) (tops n)

abbrev pub or_answer : List ℕ → CallReply → List ℕ → Option CallReply → Option CallReply
or_answer a p b None = if same a b then Some p else None
or_answer a p b (Some q) = Some q

-- the answer of an activity, put into its call: of branches, into the first in which it is open
abbrev mutual
  pub with_reply : List ℕ → CallReply → Node → Node
  with_reply a p (Fresh t v) = Fresh t v
  with_reply a p (Live r k) = Live r (with_reply_inside a p k)
  with_reply a p (Done w f) = Done w f
  with_reply a p (Fault q) = Fault q

  pub with_reply_inside : List ℕ → CallReply → Inside → Inside
  with_reply_inside a p (At round i n) = At round i (with_reply a p n)
  with_reply_inside a p (Later n until) = Later n until
  with_reply_inside a p (Sleep until) = Sleep until
  with_reply_inside a p (Hear bound hs) = Hear bound hs
  with_reply_inside a p (Await b q o) = Await b q (or_answer a p b o)
  with_reply_inside a p (Forked ns) = Forked (with_reply_among a p ns)

  pub with_reply_among : List ℕ → CallReply → Nodes → Nodes
  with_reply_among a p no_nodes = no_nodes
  with_reply_among a p (branch n ns) = if is_open a n then branch (with_reply a p n) ns else branch n (with_reply_among a p ns)
