-- What reads give is kept beside the calls that made it, through one call more.
use Rattle.std.proofs.Common.{◌≡◌, ℕ, Bool, if◌then◌else◌, true, false, List, [], ◌∷◌, ◌++◌, not, sym, ◌∙◌, ap}
use Rattle.swf_store.specs.declared.call.Call.{Call}
use Rattle.swf_store.specs.declared.call.Call.TheVariants.{Write}
use Rattle.swf_store.specs.declared.image.File.{File}
use Rattle.swf_store.specs.declared.image.Image.{Image}
use Rattle.swf_store.specs.Files.{bytes_of, with_bytes}
use Rattle.swf_store.specs.Memory.{Memory, state_of, fails_next}
use Rattle.swf_store.specs.Put.{put}
use Rattle.swf_store.specs.Replay.{reads, step, and_write}
use Rattle.swf_store.proofs.Chain.{state_of_listed}
use Rattle.swf_store.proofs.Clauses.{IsLook, written_reads}

same_calls : (memory : Memory) (calls : List Call) (call : Call) → calls ≡ memory.calls ++ call ∷ [] → state_of (record memory { calls = calls }) ≡ step (fails_next memory) call (state_of memory)
same_calls memory calls call is = ap (λ (cs : List Call). state_of (record memory { calls = cs })) is ∙ state_of_listed memory call

pub kept_by_look : (memory : Memory) (call : Call) (image : Image) (calls : List Call) → image ≡ reads (state_of memory) → IsLook call → calls ≡ memory.calls ++ call ∷ [] → image ≡ reads (state_of (record memory { calls = calls }))
kept_by_look memory call image calls kept look is =
    kept ∙ sym (ap reads (same_calls memory calls call is) ∙ look (fails_next memory) (state_of memory))

pub kept_by_write : (memory : Memory) (file : File) (at : ℕ) (bytes : List ℕ) (old new : Image) (calls : List Call) → old ≡ reads (state_of memory)
    → new ≡ (if fails_next memory then old else with_bytes old file (put (bytes_of old file) at bytes)) → calls ≡ memory.calls ++ Write file at bytes ∷ [] → new ≡ reads (state_of (record memory { calls = calls }))
kept_by_write memory file at bytes old new calls kept is_new is =
    is_new ∙ either (fails_next memory) ∙ sym (ap reads (same_calls memory calls (Write file at bytes) is) ∙ written_reads (fails_next memory) (state_of memory) file at bytes)
  where
    either : (fails : Bool) → (if fails then old else with_bytes old file (put (bytes_of old file) at bytes)) ≡ and_write (reads (state_of memory)) (record { file = file; at = at; bytes = bytes; done = not fails })
    either true = kept
    either false = ap (λ (i : Image). with_bytes i file (put (bytes_of i file) at bytes)) kept
