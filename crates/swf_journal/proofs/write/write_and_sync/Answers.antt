use Rattle.std.proofs.Common.{[], ◌∷◌}
use Rattle.swf_store.specs.declared.call.Call.TheVariants.{Write, Sync}
use Rattle.swf_store.proofs.CallLemmas.{makes_last}
use Rattle.swf_journal.proofs.write.write_and_sync.Goals as goal

pub returns-clause-calls : goal.returns-clause-calls
returns-clause-calls g c =
    makes_last (Write c.args.file c.args.at c.args.bytes.now ∷ []) Sync _ _ _ c.sync.result c.in_ok-write_at.ensures.listed.done c.sync.ensures.listed
