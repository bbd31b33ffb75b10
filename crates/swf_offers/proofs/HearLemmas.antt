-- An event that is offered to what stands innermost.
use Rattle.std.proofs.Common.{◌≡◌, refl, sym, ap, ℕ, List, [], ◌∷◌, Option, Some, None}
use Rattle.swf_value.specs.Value.{Members}
use Rattle.swf_cloudevents.specs.declared.event.Event.{Event}
use Rattle.swf_meaning.specs.Node.{Node, Live, Hear, Running}
use Rattle.swf_meaning.specs.Offer.{offered, or_same, takes_by}
use Rattle.swf_meaning.specs.Parts.{kind_of, listen_in}
use Rattle.swf_meaning.specs.declared.heard.Heard.{Heard}
use Rattle.swf_stack.specs.Stack.{plug, top_node}
use Rattle.swf_stack.specs.declared.made.Frame.{Frame}
use Rattle.swf_stack.specs.declared.made.Top.{Top}
use Rattle.swf_stack.specs.declared.made.Top.TheVariants as tops
use Rattle.swf_offers.specs.Offers.{heard_by, offered_top}
use Rattle.swf_offers.specs.Offers.{IsOffered}

-- inside running tasks the number is that of what stands innermost
pub takers-plug : (e : Event) (fs : List Frame) (n : Node) → (offered e (plug fs n)).1 ≡ (offered e n).1
takers-plug e [] n = refl
takers-plug e (f ∷ fs) n = takers-plug e fs n

one-zero : ◌≡◌ {A = ℕ} 0 1 → ⊥
one-zero e = cc

-- only what listens stands for a task that does
hearing-top : (x : Top) (q : Running) (bound : Members) (hs : List Heard) → Live q (Hear bound hs) ≡ top_node x → tops.Hearing q bound hs ≡ x
hearing-top (tops.Fresh r a) q bound hs e = cc
hearing-top (tops.Done w d) q bound hs e = cc
hearing-top (tops.Fault p) q bound hs e = cc
hearing-top (tops.Waiting r None m) q bound hs e = cc
hearing-top (tops.Waiting r (Some n) m) q bound hs e = cc
hearing-top (tops.Hearing r c gs) q bound hs e = cc
hearing-top (tops.Awaiting r a y o) q bound hs e = cc
hearing-top (tops.Forked r) q bound hs e = cc

-- what took nothing stands as it was
none-taken : (r : Running) (bound : Members) (hs : List Heard) (o : Option (Members × List Heard)) → (or_same bound hs o).1 ≡ 0 → heard_by r bound hs o ≡ tops.Hearing r bound hs
none-taken r bound hs None z = refl
none-taken r bound hs (Some p) z = absurd (one-zero (sym z))

pub offered-none : (e : Event) (t : Top) → IsOffered t e None → offered_top e t ≡ t
offered-none e (tops.Fresh r v) h = refl
offered-none e (tops.Done w d) h = refl
offered-none e (tops.Fault p) h = refl
offered-none e (tops.Waiting r n m) h = refl
offered-none e (tops.Hearing r bound hs) h = none-taken r bound hs (takes_by (listen_in (kind_of r.task)) bound hs e) (ap (λ (o : Node × ℕ). o.1) h)
offered-none e (tops.Awaiting r a q o) h = refl
offered-none e (tops.Forked r) h = refl

-- what took the event is what listens after it
one-taken : (x : Top) (r : Running) (bound : Members) (hs : List Heard) (o : Option (Members × List Heard)) → (Live r (or_same bound hs o).0) ≡ top_node x → (or_same bound hs o).1 ≡ 1 → heard_by r bound hs o ≡ x
one-taken x r bound hs None e z = absurd (one-zero z)
one-taken x r bound hs (Some p) e z = hearing-top x r p.0 p.1 e

pub offered-some : (e : Event) (t x : Top) → IsOffered t e (Some x) → offered_top e t ≡ x
offered-some e (tops.Fresh r v) x h = absurd (one-zero (ap (λ (o : Node × ℕ). o.1) h))
offered-some e (tops.Done w d) x h = absurd (one-zero (ap (λ (o : Node × ℕ). o.1) h))
offered-some e (tops.Fault p) x h = absurd (one-zero (ap (λ (o : Node × ℕ). o.1) h))
offered-some e (tops.Waiting r None m) x h = absurd (one-zero (ap (λ (o : Node × ℕ). o.1) h))
offered-some e (tops.Waiting r (Some n) m) x h = absurd (one-zero (ap (λ (o : Node × ℕ). o.1) h))
offered-some e (tops.Hearing r bound hs) x h =
    one-taken x r bound hs (takes_by (listen_in (kind_of r.task)) bound hs e) (ap (λ (o : Node × ℕ). o.0) h) (ap (λ (o : Node × ℕ). o.1) h)
offered-some e (tops.Awaiting r a q o) x h = absurd (one-zero (ap (λ (o : Node × ℕ). o.1) h))
offered-some e (tops.Forked r) x h = absurd (one-zero (ap (λ (o : Node × ℕ). o.1) h))
