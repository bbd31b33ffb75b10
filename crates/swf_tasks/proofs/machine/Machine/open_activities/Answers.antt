use Rattle.std.proofs.Common.{◌≡◌, ◌∙◌, ◌++◌, ap}
use Rattle.swf_meaning.specs.Pending.{open_calls}
use Rattle.swf_strands.specs.Strands.{node_of}
use Rattle.swf_strands.proofs.TreeLemmas.{root-held}
use Rattle.swf_tasks.proofs.WayLemmas.{of-root}
use Rattle.swf_tasks.proofs.machine.Machine.open_activities.Goals as goal

pub list_calls-requires : goal.list_calls-requires
list_calls-requires c = root-held c.self.inside.forest c.root.result c.root.ensures.root c.root.ensures.distinct c.self.invariant.0

pub returns : goal.returns
returns c =
    of-root (λ n. c.list_calls.new.calls.items ≡ open_calls n) c.self.inside.setting c.self.inside.forest c.root.result c.args.self.now c.self.view_is c.root.ensures.root c.self.invariant.0 (λ b f.
    c.in_ok-list_calls.ensures b f ∙ ap (λ xs. xs ++ open_calls (node_of b)) c.new-calls.ensures.items)
