use Rattle.swf_store.specs.declared.call.Call.TheVariants.{Write}
use Rattle.swf_store.proofs.Clauses.{takes_listed, takes_cause, takes_follows, takes_written}
use Rattle.swf_host.specs.HostedView.{hosted_view}
use Rattle.swf_host.proofs.HostedLemmas.{host_takes, host_elapses}
use Rattle.swf_host.proofs.memory_host.MemoryHostStore.write_at.Goals as goal

pub returns-clause-written : goal.returns-clause-written
returns-clause-written g c = takes_written c.args.file c.args.at c.args.bytes.now _ _ _ (host_takes (Write c.args.file c.args.at c.args.bytes.now) (hosted_view c.self.inside) c.args.self.now c.write.new.self c.write.result c.self.view_is c.write.ensures)

pub returns-clause-stop : goal.returns-clause-stop
returns-clause-stop g c = takes_follows c.args.file c.args.at c.args.bytes.now _ _ _ (host_takes (Write c.args.file c.args.at c.args.bytes.now) (hosted_view c.self.inside) c.args.self.now c.write.new.self c.write.result c.self.view_is c.write.ensures)

pub returns-clause-time : goal.returns-clause-time
returns-clause-time g c = host_elapses (Write c.args.file c.args.at c.args.bytes.now) (hosted_view c.self.inside) c.args.self.now c.write.new.self c.write.result c.self.view_is c.write.ensures c.self.invariant

pub returns-clause-listed : goal.returns-clause-listed
returns-clause-listed g c = takes_listed (Write c.args.file c.args.at c.args.bytes.now) _ _ _ (host_takes (Write c.args.file c.args.at c.args.bytes.now) (hosted_view c.self.inside) c.args.self.now c.write.new.self c.write.result c.self.view_is c.write.ensures)

pub returns-clause-cause : goal.returns-clause-cause
returns-clause-cause g c = takes_cause (Write c.args.file c.args.at c.args.bytes.now) _ _ _ (host_takes (Write c.args.file c.args.at c.args.bytes.now) (hosted_view c.self.inside) c.args.self.now c.write.new.self c.write.result c.self.view_is c.write.ensures)
