-- What every node that a run comes to keeps.
use Rattle.std.specs.Prelude.{◌≡◌, Bool, true, false, if◌then◌else◌}
use Rattle.std.specs.List.{AllByRecursion}
use Rattle.swf_document.specs.Task.{Task}
use Rattle.swf_meaning.specs.Fork.{competes}
use Rattle.swf_meaning.specs.Node.{Node, Fresh, Live, Done, Fault, Inside, At, Later, Sleep, Hear, Await, Forked, Nodes, no_nodes, branch}
use Rattle.swf_meaning.specs.World.{World}

-- done, or ended in an error: no rule applies to it
abbrev pub has_ended : Node → Bool
has_ended (Fresh t v) = false
has_ended (Live r k) = false
has_ended (Done w f) = true
has_ended (Fault p) = true

-- ended in an error
abbrev pub is_error : Node → Bool
is_error (Fresh t v) = false
is_error (Live r k) = false
is_error (Done w f) = false
is_error (Fault p) = true

-- a branch has not ended
abbrev pub some_goes_on : Nodes → Bool
some_goes_on no_nodes = false
some_goes_on (branch n ns) = if has_ended n then some_goes_on ns else true

-- no branch has ended
abbrev pub all_go_on : Nodes → Bool
all_go_on no_nodes = true
all_go_on (branch n ns) = if has_ended n then false else all_go_on ns

-- each `fork` at work in a node has a branch that has not ended, and none in an error; where its branches compete, none has ended
abbrev mutual
  pub IsAlive : Node → Type 0
  IsAlive (Fresh t v) = Unit {0}
  IsAlive (Live r k) = IsAliveInside r.task k
  IsAlive (Done w f) = Unit {0}
  IsAlive (Fault p) = Unit {0}

  pub IsAliveInside : Task → Inside → Type 0
  IsAliveInside t (At round i n) = IsAlive n
  IsAliveInside t (Later n m) = Unit {0}
  IsAliveInside t (Sleep m) = Unit {0}
  IsAliveInside t (Hear bound hs) = Unit {0}
  IsAliveInside t (Await a q o) = Unit {0}
  IsAliveInside t (Forked ns) = (some_goes_on ns ≡ true) × (competes t ≡ true → all_go_on ns ≡ true) × AreAlive ns

  pub AreAlive : Nodes → Type 0
  AreAlive no_nodes = Unit {0}
  AreAlive (branch n ns) = (is_error n ≡ false) × IsAlive n × AreAlive ns

-- all instances
abbrev pub IsAllAlive : World → Type 0
IsAllAlive w = AllByRecursion (λ i. IsAlive i.node) w.instances
