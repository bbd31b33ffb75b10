use Rattle.std.proofs.Common.{rules, ◌≡◌, ◌++◌, [], ◌∷◌, unwrap_or, if◌then◌else◌}
use Rattle.swf_store.specs.declared.call.Call.TheVariants.{Write}
use Rattle.swf_store.specs.Files.{bytes_of, with_bytes}
use Rattle.swf_store.specs.Memory.{fails_next}
use Rattle.swf_store.specs.MemoryView.{memory_view}
use Rattle.swf_store.specs.Put.{put}
use Rattle.swf_store.proofs.Kept.{kept_by_write}
use Rattle.swf_store.proofs.memory.MemoryStore.try_write.Goals as goal

pub invariant_of-self-2 : goal.invariant_of-self-2
invariant_of-self-2 c =
    let memory = memory_view c.self.inside in
    let file = c.args.file in
    let at = c.args.at in
    let bytes = c.args.bytes.now in
    let old = unwrap_or c.self.inside.written c.self.inside.first in
    let new = unwrap_or c.write_into.new.written c.self.inside.first in
    let listed : c.push_reserved.new.self.items ≡ c.self.inside.calls.items ++ Write file at bytes ∷ [] = search rules in
    let is_new : new ≡ (if fails_next memory then old else with_bytes old file (put (bytes_of old file) at bytes)) = search rules in
    kept_by_write memory file at bytes old new _ c.self.invariant is_new listed
