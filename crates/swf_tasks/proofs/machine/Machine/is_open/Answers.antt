use Rattle.std.proofs.Common.{◌≡◌}
use Rattle.swf_meaning.specs.Reply.{is_open}
use Rattle.swf_strands.proofs.TreeLemmas.{root-held}
use Rattle.swf_tasks.proofs.WayLemmas.{of-root}
use Rattle.swf_tasks.proofs.machine.Machine.is_open.Goals as goal

pub is_open_in-requires : goal.is_open_in-requires
is_open_in-requires c = root-held c.self.inside.forest c.root.result c.root.ensures.root c.root.ensures.distinct c.self.invariant.0

pub returns : goal.returns
returns c = of-root (λ n. c.is_open_in.result ≡ is_open c.args.activity.now n) c.self.inside.setting c.self.inside.forest c.root.result c.args.self.now c.self.view_is c.root.ensures.root c.self.invariant.0 c.is_open_in.ensures
