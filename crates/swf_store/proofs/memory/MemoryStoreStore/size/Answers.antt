use Rattle.std.proofs.Common.{ap, Some, refl}
use Rattle.swf_store.specs.declared.call.Call.TheVariants.{Size}
use Rattle.swf_store.specs.declared.image.Image.{Image}
use Rattle.swf_store.proofs.Clauses.{takes_goes, takes_listed, takes_cause, takes_reads, takes_nothing_new}
use Rattle.swf_store.proofs.memory.MemoryStoreStore.size.Goals as goal

pub returns-clause-seen : goal.returns-clause-seen
returns-clause-seen c = ap (λ (i : Image). Some i) (takes_reads (Size c.args.file) _ _ _ c.measure.ensures.takes (λ fails w. refl))

pub returns-clause-stop : goal.returns-clause-stop
returns-clause-stop c = takes_nothing_new (Size c.args.file) _ _ _ c.measure.ensures.takes (λ fails w image left. left)

pub returns-clause-time : goal.returns-clause-time
returns-clause-time c = takes_goes (Size c.args.file) _ _ _ c.measure.ensures.takes

pub returns-clause-listed : goal.returns-clause-listed
returns-clause-listed c = takes_listed (Size c.args.file) _ _ _ c.measure.ensures.takes

pub returns-clause-cause : goal.returns-clause-cause
returns-clause-cause c = takes_cause (Size c.args.file) _ _ _ c.measure.ensures.takes
