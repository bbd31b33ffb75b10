use Rattle.std.proofs.Common.{refl}
use Rattle.swf_host.specs.HostedView.{hosted_view}
use Rattle.swf_host.specs.Script.{play}
use Rattle.swf_host.proofs.HostedLemmas.{host_says, host_told}
use Rattle.swf_host.proofs.memory_host.MemoryHostHost.say.Goals as goal

pub returns-clause-time : goal.returns-clause-time
returns-clause-time g c = host_says c.args.conn c.args.bytes.now (hosted_view c.self.inside) c.args.self.now _ c.calls.result.now (play c.say.new.self) c.say.result c.self.view_is c.calls.ensures refl c.say.ensures.play

pub returns-clause-said : goal.returns-clause-said
returns-clause-said g c = host_told c.args.conn c.args.bytes.now (hosted_view c.self.inside) c.args.self.now _ (play c.say.new.self) c.say.result c.self.view_is c.say.ensures.play
