use Rattle.std.proofs.Common.{◌≡◌}
use Rattle.swf_meaning.specs.Strands.{strands}
use Rattle.swf_strands.specs.Strands.{node_of}
use Rattle.swf_strands.proofs.NameLemmas.{listed-alone}
use Rattle.swf_strands.proofs.TreeLemmas.{root-held}
use Rattle.swf_tasks.proofs.WayLemmas.{of-root}
use Rattle.swf_tasks.proofs.machine.Machine.strands.Goals as goal

pub list_strands-requires : goal.list_strands-requires
list_strands-requires c = root-held c.self.inside.forest c.root.result c.root.ensures.root c.root.ensures.distinct c.self.invariant.0

pub returns : goal.returns
returns c =
    of-root (λ n. c.list_strands.new.list.items ≡ strands n) c.self.inside.setting c.self.inside.forest c.root.result c.args.self.now c.self.view_is c.root.ensures.root c.self.invariant.0 (λ b f.
    listed-alone c.new-path.result.items c.new-strands.result.items c.list_strands.new.list.items (strands (node_of b)) c.new-path.ensures.items c.new-strands.ensures.items (c.in_ok-list_strands.ensures.list b f))
