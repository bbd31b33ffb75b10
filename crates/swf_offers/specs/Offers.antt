-- What an offer leaves of the strands of an instance.
use Rattle.std.specs.Prelude.{◌≡◌, ℕ, zero, suc, List, map, Option, Some, None}
use Rattle.swf_value.specs.Value.{Members}
use Rattle.swf_cloudevents.specs.declared.event.Event.{Event}
use Rattle.swf_frames.specs.Paths.{edit, AreDistinct}
use Rattle.swf_frames.specs.Tree.{Tree, Branch, Strands, no_strands, strand}
use Rattle.swf_meaning.specs.Node.{Running}
use Rattle.swf_meaning.specs.Offer.{offered, takes_by}
use Rattle.swf_meaning.specs.Parts.{kind_of, listen_in}
use Rattle.swf_meaning.specs.declared.heard.Heard.{Heard}
use Rattle.swf_stack.specs.Stands.{top_of}
use Rattle.swf_stack.specs.Stack.{top_node}
use Rattle.swf_stack.specs.declared.made.Stand.{Stand}
use Rattle.swf_stack.specs.declared.made.Top.{Top}
use Rattle.swf_stack.specs.declared.made.Top.TheVariants as tops
use Rattle.swf_strands.specs.Strands.{node_of}

-- what stands innermost after the offer
abbrev pub heard_by : Running → Members → List Heard → Option (Members × List Heard) → Top
heard_by r bound hs None = tops.Hearing r bound hs
heard_by r bound hs (Some p) = tops.Hearing r p.0 p.1

abbrev pub offered_top : Event → Top → Top
offered_top e (tops.Hearing r bound hs) = heard_by r bound hs (takes_by (listen_in (kind_of r.task)) bound hs e)
offered_top e (tops.Fresh t v) = tops.Fresh t v
offered_top e (tops.Done w f) = tops.Done w f
offered_top e (tops.Fault p) = tops.Fault p
offered_top e (tops.Waiting r n m) = tops.Waiting r n m
offered_top e (tops.Awaiting r a q o) = tops.Awaiting r a q o
offered_top e (tops.Forked r) = tops.Forked r

-- what stands innermost after an event that it takes, where it takes it
abbrev pub IsOffered : Top → Event → Option Top → Type 0
IsOffered t e None = offered e (top_node t) ≡ (top_node t, 0)
IsOffered t e (Some x) = offered e (top_node t) ≡ (top_node x, 1)

abbrev pub offered_stand : Event → Stand → Stand
offered_stand e h = record h { top = offered_top e h.top }

abbrev pub offered_stands : Event → List Stand → List Stand
offered_stands e hs = map (offered_stand e) hs

abbrev pub offered_strands : Event → Strands Stand → Strands Stand
offered_strands e no_strands = no_strands
offered_strands e (strand m ls below after) = strand m (offered_stands e ls) (offered_strands e below) (offered_strands e after)

-- the first ones only
abbrev pub offered_first : Event → ℕ → Strands Stand → Strands Stand
offered_first e zero ss = ss
offered_first e (suc i) no_strands = no_strands
offered_first e (suc i) (strand m ls below after) = strand m (offered_stands e ls) (offered_strands e below) (offered_first e i after)

-- a strand alone, and with the first of its branches
abbrev pub offered_here : Event → Branch Stand → Branch Stand
offered_here e b = record b { frames = offered_stands e b.frames }

abbrev pub offered_to : Event → ℕ → Branch Stand → Branch Stand
offered_to e i b = record { frames = offered_stands e b.frames; below = offered_first e i b.below }

abbrev pub offered_held : Event → Branch Stand → Branch Stand
offered_held e b = record { frames = offered_stands e b.frames; below = offered_strands e b.below }

-- the event was offered to that strand alone
abbrev pub IsOfferHere : Event → ℕ → Branch Stand → Tree Stand → Tree Stand → ℕ → Type 0
IsOfferHere e n b old new taken = (new.strands ≡ edit (offered_here e) old.strands n) × ((taken ≡ (offered e (top_node (top_of b.frames))).1) × AreDistinct new.strands)

-- and to those below it as well
abbrev pub IsOfferIn : Event → ℕ → Branch Stand → Tree Stand → Tree Stand → ℕ → Type 0
IsOfferIn e n b old new taken = (new.strands ≡ edit (offered_held e) old.strands n) × ((taken ≡ (offered e (node_of b)).1) × AreDistinct new.strands)
