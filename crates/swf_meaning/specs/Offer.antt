-- An event is offered to all that listen (DSL, "Events"; DSL reference, "Event Consumption Strategy").
use Rattle.std.specs.Prelude.{◌+◌, ℕ, zero, List, map, fold, Option, Some, None}
use Rattle.swf_value.specs.Value.{Members}
use Rattle.swf_cloudevents.specs.declared.event.Event.{Event}
use Rattle.swf_document.specs.Task.{Task}
use Rattle.swf_document.specs.declared.event.ListenSpec.{ListenSpec}
use Rattle.swf_meaning.specs.Listen.{takes}
use Rattle.swf_meaning.specs.Node.{Node, Fresh, Live, Done, Fault, Inside, At, Later, Sleep, Hear, Await, Forked, Nodes, no_nodes, branch, Running}
use Rattle.swf_meaning.specs.Parts.{kind_of, listen_in}
use Rattle.swf_meaning.specs.World.{Instance}
use Rattle.swf_meaning.specs.declared.heard.Heard.{Heard}

abbrev pub takes_by : Option ListenSpec → Members → List Heard → Event → Option (Members × List Heard)
takes_by None bound hs e = None
takes_by (Some l) bound hs e = takes l bound hs e

-- what an offer leaves, and how many took the event
abbrev pub or_same : Members → List Heard → Option (Members × List Heard) → Inside × ℕ
or_same bound hs None = (Hear bound hs, 0)
or_same bound hs (Some p) = (Hear p.0 p.1, 1)

abbrev pub around : Running → Inside × ℕ → Node × ℕ
around r o = (Live r o.0, o.1)

abbrev mutual
  pub offered : Event → Node → Node × ℕ
  offered e (Fresh t v) = (Fresh t v, 0)
  offered e (Live r k) = around r (offered_inside e r.task k)
  offered e (Done w f) = (Done w f, 0)
  offered e (Fault p) = (Fault p, 0)

  pub offered_inside : Event → Task → Inside → Inside × ℕ
  offered_inside e t (At round i n) = let o = offered e n in (At round i o.0, o.1)
  offered_inside e t (Later n m) = (Later n m, 0)
  offered_inside e t (Sleep m) = (Sleep m, 0)
  offered_inside e t (Hear bound hs) = or_same bound hs (takes_by (listen_in (kind_of t)) bound hs e)
  offered_inside e t (Await a q o) = (Await a q o, 0)
  offered_inside e t (Forked ns) = let o = offered_among e ns in (Forked o.0, o.1)

  pub offered_among : Event → Nodes → Nodes × ℕ
  offered_among e no_nodes = (no_nodes, 0)
  offered_among e (branch n ns) = let o = offered e n in let os = offered_among e ns in (branch o.0 os.0, o.1 + os.1)

-- an instance after an event was offered to it
abbrev pub offered_one : Event → Instance → Instance
offered_one e i = record i { node = (offered e i.node).0 }

-- how many of its tasks took the event
abbrev pub takers_in : Event → Instance → ℕ
takers_in e i = (offered e i.node).1

-- all of them at once
abbrev pub offered_all : Event → List Instance → List Instance
offered_all e is = map (offered_one e) is

abbrev pub takers : Event → List Instance → ℕ
takers e is = fold (λ n i. n + takers_in e i) zero is
