-- An instance that listens for nothing goes on to after a step that puts nothing anew that listens.
use Rattle.std.proofs.Common.{◌≡◌, ◌∙◌, refl, ℕ, false, List, [], take, Some, None}
use Rattle.swf_meaning.specs.Node.{Node, no_nodes}
use Rattle.swf_meaning.specs.World.{Instance}
use Rattle.swf_stack.specs.Stack.{forked, top_node}
use Rattle.swf_stack.specs.Stands.{inward}
use Rattle.swf_stack.specs.declared.made.Top.{Top}
use Rattle.swf_stack.specs.declared.made.Top.TheVariants as tops
use Rattle.swf_strands.specs.Forks.{stand_node}
use Rattle.swf_offers.specs.EventTypes.{event_types}
use Rattle.swf_offers.proofs.EventTypeLemmas.{none-replaced, types-plug}
use Rattle.swf_tasks.specs.Prepares.{applied, listens, may_listen, node_after}
use Rattle.swf_tasks.specs.declared.prepared.Prepared.{Prepared}
use Rattle.swf_tasks.specs.declared.prepared.Strands.{Strands}
use Rattle.swf_tasks.specs.declared.prepared.Strands.TheVariants as strands

none-on-top : (t : Top) → listens t ≡ false → event_types (forked (top_node t) no_nodes) ≡ []
none-on-top (tops.Fresh t v) e = refl
none-on-top (tops.Done w f) e = refl
none-on-top (tops.Fault p) e = refl
none-on-top (tops.Waiting r None until) e = refl
none-on-top (tops.Waiting r (Some n) until) e = refl
none-on-top (tops.Hearing r bound hs) e = cc
none-on-top (tops.Awaiting r a q o) e = refl
none-on-top (tops.Forked r) e = refl

none-after : (s : Strands) (bs : List ℕ) (n : Node) → may_listen s ≡ false → event_types n ≡ [] → event_types (node_after s bs n) ≡ []
none-after (strands.One d h) bs n e all = none-replaced (take d bs) (stand_node h) n (types-plug (inward h.around) (forked (top_node h.top) no_nodes) ∙ none-on-top h.top e) all
none-after (strands.All f) bs n e all = cc

pub none-applied : (p : Prepared) (i : Instance) → may_listen p.strands ≡ false → event_types i.node ≡ [] → event_types (applied p i).node ≡ []
none-applied p i e all = none-after p.strands p.strand i.node e all
