-- What an offer leaves as it is.
use Rattle.std.proofs.Common.{false, ◌≡◌, ◌∙◌, refl, ap, if◌then◌else◌, List, true, Option, Some, None, arith}
use Rattle.swf_value.specs.Value.{Members}
use Rattle.swf_cloudevents.specs.declared.event.Event.{Event}
use Rattle.swf_document.specs.Task.{Task}
use Rattle.swf_meaning.specs.Node.{Node, Fresh, Live, Done, Fault, Inside, At, Later, Sleep, Hear, Await, Forked, Nodes, no_nodes, branch}
use Rattle.swf_meaning.specs.Offer.{or_same, takes_by, offered, offered_inside, offered_among, offered_one, takers_in}
use Rattle.swf_meaning.specs.Parts.{kind_of, listen_in}
use Rattle.swf_meaning.specs.World.{Instance}
use Rattle.swf_meaning.specs.declared.heard.Heard.{Heard}
use Rattle.swf_runs.specs.Alive.{has_ended, is_error, some_goes_on, all_go_on, IsAlive, IsAliveInside, AreAlive}

-- a strand that takes no event stays
or_same_none : (bound : Members) (hs : List Heard) (o : Option (Members × List Heard)) → (or_same bound hs o).1 ≡ 0 → (or_same bound hs o).0 ≡ Hear bound hs
or_same_none bound hs None e = refl
or_same_none bound hs (Some p) e = absurd (omega (arith, e))

mutual
  pub same_untaken : (e : Event) (n : Node) → (offered e n).1 ≡ 0 → (offered e n).0 ≡ n
  same_untaken e (Fresh t v) h = refl
  same_untaken e (Live r k) h = ap (Live r) (same_inside_untaken e r.task k h)
  same_untaken e (Done w f) h = refl
  same_untaken e (Fault p) h = refl

  same_inside_untaken : (e : Event) (t : Task) (k : Inside) → (offered_inside e t k).1 ≡ 0 → (offered_inside e t k).0 ≡ k
  same_inside_untaken e t (At r i n) h = ap (At r i) (same_untaken e n h)
  same_inside_untaken e t (Later n m) h = refl
  same_inside_untaken e t (Sleep m) h = refl
  same_inside_untaken e t (Hear bound hs) h = or_same_none bound hs (takes_by (listen_in (kind_of t)) bound hs e) h
  same_inside_untaken e t (Await a q o) h = refl
  same_inside_untaken e t (Forked ns) h = ap Forked (same_among_untaken e ns h)

  same_among_untaken : (e : Event) (ns : Nodes) → (offered_among e ns).1 ≡ 0 → (offered_among e ns).0 ≡ ns
  same_among_untaken e no_nodes h = refl
  same_among_untaken e (branch n ns) h = λ i. branch (same_untaken e n (omega (arith, h)) i) (same_among_untaken e ns (omega (arith, h)) i)

pub one_untaken : (e : Event) (i : Instance) → takers_in e i ≡ 0 → offered_one e i ≡ i
one_untaken e i h = ap (λ n. record i { node = n }) (same_untaken e i.node h)

-- what has ended is as it was
ended_node : (e : Event) (n : Node) → has_ended n ≡ true → (offered e n).0 ≡ n
ended_node e (Fresh t v) h = cc
ended_node e (Live r k) h = cc
ended_node e (Done w f) h = refl
ended_node e (Fault p) h = refl

pub ended_offered : (e : Event) (i : Instance) → has_ended i.node ≡ true → offered_one e i ≡ i
ended_offered e i h = ap (λ n. record i { node = n }) (ended_node e i.node h)

-- a branch that has not ended goes on, and one that is in no error comes to none
still_ended : (e : Event) (n : Node) → has_ended (offered e n).0 ≡ has_ended n
still_ended e (Fresh t v) = refl
still_ended e (Live r k) = refl
still_ended e (Done w f) = refl
still_ended e (Fault p) = refl

still_sound : (e : Event) (n : Node) → is_error (offered e n).0 ≡ is_error n
still_sound e (Fresh t v) = refl
still_sound e (Live r k) = refl
still_sound e (Done w f) = refl
still_sound e (Fault p) = refl

still_goes_on : (e : Event) (ns : Nodes) → some_goes_on (offered_among e ns).0 ≡ some_goes_on ns
still_goes_on e no_nodes = refl
still_goes_on e (branch n ns) = λ i. if still_ended e n i then still_goes_on e ns i else true

still_all_go_on : (e : Event) (ns : Nodes) → all_go_on (offered_among e ns).0 ≡ all_go_on ns
still_all_go_on e no_nodes = refl
still_all_go_on e (branch n ns) = λ i. if still_ended e n i then false else still_all_go_on e ns i

alive_same : (t : Task) (bound : Members) (hs : List Heard) (o : Option (Members × List Heard)) → IsAliveInside t (or_same bound hs o).0
alive_same t bound hs None = tt
alive_same t bound hs (Some p) = tt

mutual
  pub alive_offered : (e : Event) (n : Node) → IsAlive n → IsAlive (offered e n).0
  alive_offered e (Fresh t v) a = tt
  alive_offered e (Live r k) a = alive_inside_offered e r.task k a
  alive_offered e (Done w f) a = tt
  alive_offered e (Fault p) a = tt

  alive_inside_offered : (e : Event) (t : Task) (k : Inside) → IsAliveInside t k → IsAliveInside t (offered_inside e t k).0
  alive_inside_offered e t (At r i n) a = alive_offered e n a
  alive_inside_offered e t (Later n m) a = tt
  alive_inside_offered e t (Sleep m) a = tt
  alive_inside_offered e t (Hear bound hs) a = alive_same t bound hs (takes_by (listen_in (kind_of t)) bound hs e)
  alive_inside_offered e t (Await b q o) a = tt
  alive_inside_offered e t (Forked ns) a = (still_goes_on e ns ∙ a.0, λ c. still_all_go_on e ns ∙ a.1 c, are_alive_offered e ns a.2)

  are_alive_offered : (e : Event) (ns : Nodes) → AreAlive ns → AreAlive (offered_among e ns).0
  are_alive_offered e no_nodes a = tt
  are_alive_offered e (branch n ns) a = (still_sound e n ∙ a.0, alive_offered e n a.1, are_alive_offered e ns a.2)
