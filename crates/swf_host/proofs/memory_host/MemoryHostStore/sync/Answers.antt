use Rattle.std.proofs.Common.{ap, Some}
use Rattle.swf_store.specs.declared.call.Call.TheVariants.{Sync}
use Rattle.swf_store.specs.declared.image.Image.{Image}
use Rattle.swf_store.proofs.Clauses.{takes_listed, takes_cause, takes_reads, takes_nothing_new, takes_durable, sync_is_look, sync_is_calm}
use Rattle.swf_host.specs.HostedView.{hosted_view}
use Rattle.swf_host.proofs.HostedLemmas.{host_takes, host_elapses}
use Rattle.swf_host.proofs.memory_host.MemoryHostStore.sync.Goals as goal

pub returns-clause-seen : goal.returns-clause-seen
returns-clause-seen g c = ap (λ (i : Image). Some i) (takes_reads Sync _ _ _ (host_takes Sync (hosted_view c.self.inside) c.args.self.now c.list.new.self c.list.result c.self.view_is c.list.ensures.takes) sync_is_look)

pub returns-clause-stop : goal.returns-clause-stop
returns-clause-stop g c = takes_nothing_new Sync _ _ _ (host_takes Sync (hosted_view c.self.inside) c.args.self.now c.list.new.self c.list.result c.self.view_is c.list.ensures.takes) sync_is_calm

pub returns-clause-durable : goal.returns-clause-durable
returns-clause-durable g c = takes_durable _ _ _ (host_takes Sync (hosted_view c.self.inside) c.args.self.now c.list.new.self c.list.result c.self.view_is c.list.ensures.takes)

pub returns-clause-time : goal.returns-clause-time
returns-clause-time g c = host_elapses Sync (hosted_view c.self.inside) c.args.self.now c.list.new.self c.list.result c.self.view_is c.list.ensures.takes c.self.invariant

pub returns-clause-listed : goal.returns-clause-listed
returns-clause-listed g c = takes_listed Sync _ _ _ (host_takes Sync (hosted_view c.self.inside) c.args.self.now c.list.new.self c.list.result c.self.view_is c.list.ensures.takes)

pub returns-clause-cause : goal.returns-clause-cause
returns-clause-cause g c = takes_cause Sync _ _ _ (host_takes Sync (hosted_view c.self.inside) c.args.self.now c.list.new.self c.list.result c.self.view_is c.list.ensures.takes)
