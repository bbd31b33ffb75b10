use Rattle.swf_store.specs.declared.call.Call.TheVariants.{Write}
use Rattle.swf_store.proofs.Clauses.{takes_goes, takes_listed, takes_cause, takes_follows, takes_written}
use Rattle.swf_store.proofs.memory.MemoryStoreStore.write_at.Goals as goal

pub returns-clause-written : goal.returns-clause-written
returns-clause-written c = takes_written c.args.file c.args.at c.args.bytes.now _ _ _ c.write.ensures

pub returns-clause-stop : goal.returns-clause-stop
returns-clause-stop c = takes_follows c.args.file c.args.at c.args.bytes.now _ _ _ c.write.ensures

pub returns-clause-time : goal.returns-clause-time
returns-clause-time c = takes_goes (Write c.args.file c.args.at c.args.bytes.now) _ _ _ c.write.ensures

pub returns-clause-listed : goal.returns-clause-listed
returns-clause-listed c = takes_listed (Write c.args.file c.args.at c.args.bytes.now) _ _ _ c.write.ensures

pub returns-clause-cause : goal.returns-clause-cause
returns-clause-cause c = takes_cause (Write c.args.file c.args.at c.args.bytes.now) _ _ _ c.write.ensures
