use Rattle.std.proofs.Common.{ap, Some, refl}
use Rattle.swf_store.specs.declared.call.Call.TheVariants.{Size}
use Rattle.swf_store.specs.declared.image.Image.{Image}
use Rattle.swf_store.proofs.Clauses.{takes_listed, takes_cause, takes_reads, takes_nothing_new}
use Rattle.swf_host.specs.HostedView.{hosted_view}
use Rattle.swf_host.proofs.HostedLemmas.{host_takes, host_elapses}
use Rattle.swf_host.proofs.memory_host.MemoryHostStore.size.Goals as goal

pub returns-clause-seen : goal.returns-clause-seen
returns-clause-seen g c = ap (λ (i : Image). Some i) (takes_reads (Size c.args.file) _ _ _ (host_takes (Size c.args.file) (hosted_view c.self.inside) c.args.self.now c.measure.new.self c.measure.result c.self.view_is c.measure.ensures.takes) (λ fails w. refl))

pub returns-clause-stop : goal.returns-clause-stop
returns-clause-stop g c = takes_nothing_new (Size c.args.file) _ _ _ (host_takes (Size c.args.file) (hosted_view c.self.inside) c.args.self.now c.measure.new.self c.measure.result c.self.view_is c.measure.ensures.takes) (λ fails w image left. left)

pub returns-clause-time : goal.returns-clause-time
returns-clause-time g c = host_elapses (Size c.args.file) (hosted_view c.self.inside) c.args.self.now c.measure.new.self c.measure.result c.self.view_is c.measure.ensures.takes c.self.invariant

pub returns-clause-listed : goal.returns-clause-listed
returns-clause-listed g c = takes_listed (Size c.args.file) _ _ _ (host_takes (Size c.args.file) (hosted_view c.self.inside) c.args.self.now c.measure.new.self c.measure.result c.self.view_is c.measure.ensures.takes)

pub returns-clause-cause : goal.returns-clause-cause
returns-clause-cause g c = takes_cause (Size c.args.file) _ _ _ (host_takes (Size c.args.file) (hosted_view c.self.inside) c.args.self.now c.measure.new.self c.measure.result c.self.view_is c.measure.ensures.takes)
