use Rattle.std.proofs.Common.{◌≡◌, ◌∙◌, ◌++◌, ap}
use Rattle.swf_strands.specs.Strands.{node_of}
use Rattle.swf_strands.proofs.TreeLemmas.{root-held}
use Rattle.swf_offers.specs.EventTypes.{event_types}
use Rattle.swf_tasks.proofs.WayLemmas.{of-root}
use Rattle.swf_tasks.proofs.machine.Machine.event_types.Goals as goal

pub list_types-requires : goal.list_types-requires
list_types-requires c = root-held c.self.inside.forest c.root.result c.root.ensures.root c.root.ensures.distinct c.self.invariant.0

pub returns : goal.returns
returns c =
    of-root (λ n. c.list_types.new.types.items ≡ event_types n) c.self.inside.setting c.self.inside.forest c.root.result c.args.self.now c.self.view_is c.root.ensures.root c.self.invariant.0 (λ b f.
    c.in_ok-list_types.ensures b f ∙ ap (λ xs. xs ++ event_types (node_of b)) c.new-types.ensures.items)
