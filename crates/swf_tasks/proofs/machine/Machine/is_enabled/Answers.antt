use Rattle.std.proofs.Common.{◌≡◌}
use Rattle.swf_meaning.specs.Local.{is_enabled}
use Rattle.swf_strands.proofs.TreeLemmas.{root-held}
use Rattle.swf_tasks.proofs.WayLemmas.{of-root}
use Rattle.swf_tasks.proofs.machine.Machine.is_enabled.Goals as goal

pub enabled_in-requires : goal.enabled_in-requires
enabled_in-requires c = root-held c.self.inside.forest c.root.result c.root.ensures.root c.root.ensures.distinct c.self.invariant.0

pub returns : goal.returns
returns c = of-root (λ n. c.enabled_in.result ≡ is_enabled c.args.now n) c.self.inside.setting c.self.inside.forest c.root.result c.args.self.now c.self.view_is c.root.ensures.root c.self.invariant.0 c.enabled_in.ensures
