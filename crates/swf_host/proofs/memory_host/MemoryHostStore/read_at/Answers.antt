use Rattle.std.proofs.Common.{ap, Some, refl, length}
use Rattle.swf_store.specs.declared.call.Call.TheVariants.{Read}
use Rattle.swf_store.specs.declared.image.Image.{Image}
use Rattle.swf_store.proofs.Clauses.{takes_listed, takes_cause, takes_reads, takes_nothing_new}
use Rattle.swf_host.specs.HostedView.{hosted_view}
use Rattle.swf_host.proofs.HostedLemmas.{host_takes, host_elapses}
use Rattle.swf_host.proofs.memory_host.MemoryHostStore.read_at.Goals as goal

pub returns-clause-seen : goal.returns-clause-seen
returns-clause-seen g c = ap (λ (i : Image). Some i) (takes_reads (Read c.args.file c.args.at (length c.args.into.now)) _ _ _ (host_takes (Read c.args.file c.args.at (length c.args.into.now)) (hosted_view c.self.inside) c.args.self.now c.read.new.self c.read.result c.self.view_is c.read.ensures.takes) (λ fails w. refl))

pub returns-clause-stop : goal.returns-clause-stop
returns-clause-stop g c = takes_nothing_new (Read c.args.file c.args.at (length c.args.into.now)) _ _ _ (host_takes (Read c.args.file c.args.at (length c.args.into.now)) (hosted_view c.self.inside) c.args.self.now c.read.new.self c.read.result c.self.view_is c.read.ensures.takes) (λ fails w image left. left)

pub returns-clause-time : goal.returns-clause-time
returns-clause-time g c = host_elapses (Read c.args.file c.args.at (length c.args.into.now)) (hosted_view c.self.inside) c.args.self.now c.read.new.self c.read.result c.self.view_is c.read.ensures.takes c.self.invariant

pub returns-clause-listed : goal.returns-clause-listed
returns-clause-listed g c = takes_listed (Read c.args.file c.args.at (length c.args.into.now)) _ _ _ (host_takes (Read c.args.file c.args.at (length c.args.into.now)) (hosted_view c.self.inside) c.args.self.now c.read.new.self c.read.result c.self.view_is c.read.ensures.takes)

pub returns-clause-cause : goal.returns-clause-cause
returns-clause-cause g c = takes_cause (Read c.args.file c.args.at (length c.args.into.now)) _ _ _ (host_takes (Read c.args.file c.args.at (length c.args.into.now)) (hosted_view c.self.inside) c.args.self.now c.read.new.self c.read.result c.self.view_is c.read.ensures.takes)
