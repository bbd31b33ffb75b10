-- What an answer leaves as it is.
use Rattle.std.proofs.Common.{◌≡◌, ◌∙◌, refl, ap, if◌then◌else◌, ℕ, List, true, false}
use Rattle.swf_calls.specs.declared.reply.CallReply.{CallReply}
use Rattle.swf_document.specs.Task.{Task}
use Rattle.swf_meaning.specs.Node.{Node, Fresh, Live, Done, Fault, Inside, At, Later, Sleep, Hear, Await, Forked, Nodes, no_nodes, branch}
use Rattle.swf_meaning.specs.Reply.{with_reply, with_reply_inside, with_reply_among}
use Rattle.swf_meaning.specs.World.{Instance}
use Rattle.swf_meaning.proofs.ReplyLemmas.{either_branch}
use Rattle.swf_runs.specs.After.{replied_one}
use Rattle.swf_runs.specs.Alive.{has_ended, is_error, some_goes_on, all_go_on, IsAlive, IsAliveInside, AreAlive}
use Rattle.swf_runs.proofs.WorldLemmas.{one_keeps}

-- what has ended is as it was
ended_node : (a : List ℕ) (p : CallReply) (n : Node) → has_ended n ≡ true → with_reply a p n ≡ n
ended_node a p (Fresh t v) h = refl
ended_node a p (Live r k) h = cc
ended_node a p (Done w f) h = refl
ended_node a p (Fault q) h = refl

pub ended_replied : (a : List ℕ) (p : CallReply) (i : Instance) → has_ended i.node ≡ true → replied_one a p i ≡ i
ended_replied a p i h = one_keeps (λ j. j ≡ i) a p i (ap (λ n. record i { node = n }) (ended_node a p i.node h)) refl

-- a branch that has not ended goes on, and one that is in no error comes to none
still_ended : (a : List ℕ) (p : CallReply) (n : Node) → has_ended (with_reply a p n) ≡ has_ended n
still_ended a p (Fresh t v) = refl
still_ended a p (Live r k) = refl
still_ended a p (Done w f) = refl
still_ended a p (Fault q) = refl

still_sound : (a : List ℕ) (p : CallReply) (n : Node) → is_error (with_reply a p n) ≡ is_error n
still_sound a p (Fresh t v) = refl
still_sound a p (Live r k) = refl
still_sound a p (Done w f) = refl
still_sound a p (Fault q) = refl

still_goes_on : (a : List ℕ) (p : CallReply) (ns : Nodes) → some_goes_on (with_reply_among a p ns) ≡ some_goes_on ns
still_goes_on a p no_nodes = refl
still_goes_on a p (branch n ns) =
    either_branch (λ ms. some_goes_on ms ≡ some_goes_on (branch n ns)) a p n ns (ap (λ b. if b then some_goes_on ns else true) (still_ended a p n)) (ap (λ b. if has_ended n then b else true) (still_goes_on a p ns))

still_all_go_on : (a : List ℕ) (p : CallReply) (ns : Nodes) → all_go_on (with_reply_among a p ns) ≡ all_go_on ns
still_all_go_on a p no_nodes = refl
still_all_go_on a p (branch n ns) =
    either_branch (λ ms. all_go_on ms ≡ all_go_on (branch n ns)) a p n ns (ap (λ b. if b then false else all_go_on ns) (still_ended a p n)) (ap (λ b. if has_ended n then false else b) (still_all_go_on a p ns))

mutual
  pub alive_replied : (a : List ℕ) (p : CallReply) (n : Node) → IsAlive n → IsAlive (with_reply a p n)
  alive_replied a p (Fresh t v) h = tt
  alive_replied a p (Live r k) h = alive_inside_replied a p r.task k h
  alive_replied a p (Done w f) h = tt
  alive_replied a p (Fault q) h = tt

  alive_inside_replied : (a : List ℕ) (p : CallReply) (t : Task) (k : Inside) → IsAliveInside t k → IsAliveInside t (with_reply_inside a p k)
  alive_inside_replied a p t (At r i n) h = alive_replied a p n h
  alive_inside_replied a p t (Later n m) h = tt
  alive_inside_replied a p t (Sleep m) h = tt
  alive_inside_replied a p t (Hear bound hs) h = tt
  alive_inside_replied a p t (Await b q o) h = tt
  alive_inside_replied a p t (Forked ns) h = (still_goes_on a p ns ∙ h.0, λ c. still_all_go_on a p ns ∙ h.1 c, are_alive_replied a p ns h.2)

  are_alive_replied : (a : List ℕ) (p : CallReply) (ns : Nodes) → AreAlive ns → AreAlive (with_reply_among a p ns)
  are_alive_replied a p no_nodes h = tt
  are_alive_replied a p (branch n ns) h =
      either_branch AreAlive a p n ns (still_sound a p n ∙ h.0, alive_replied a p n h.1, h.2) (h.0, h.1, are_alive_replied a p ns h.2)
