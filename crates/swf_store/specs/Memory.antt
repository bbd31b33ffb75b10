-- A store in memory: the files that it began with, the calls that fail, and the calls that were made.
use Rattle.std.specs.Prelude.{◌≡◌, ◌⊎◌, ℕ, zero, suc, ◌+◌, ◌-◌, ◌^◌, ◌≤◌, min, max, Bool, true, false, List, [], ◌∷◌, ◌++◌, length, take, Result, OnOk, OnErr, if◌then◌else◌}
use Rattle.swf_store.specs.declared.call.Call.{Call}
use Rattle.swf_store.specs.declared.image.Image.{Image}
use Rattle.swf_store.specs.Replay.{Writing, IsLeft, replay, is_in}
use Rattle.swf_store.specs.declared.said.Piece.{Piece}

pub record Memory : Type 0 where
  pub first : Image
  -- the numbers of the calls that fail
  pub failing : List ℕ
  pub calls : List Call
  -- how many calls found no memory
  pub lacks : ℕ

-- the files after so many calls
abbrev pub state_after : Memory → ℕ → Writing
state_after memory number = replay memory.failing 0 (take number memory.calls) (record { synced = memory.first; unsynced = [] })

-- the files now
abbrev pub state_of : Memory → Writing
state_of memory = state_after memory (length memory.calls)

-- the next call is one that fails
abbrev pub fails_next : Memory → Bool
fails_next memory = is_in memory.failing (length memory.calls)

-- how many of the first so many calls have failed
abbrev pub failed_before : List ℕ → ℕ → ℕ
failed_before failing zero = 0
failed_before failing (suc number) = failed_before failing number + (if is_in failing number then 1 else 0)

-- the calls that have failed: those on the list, and those that found no memory
abbrev pub faults_of : Memory → ℕ
faults_of memory = memory.lacks + failed_before memory.failing (length memory.calls)

-- one call more
abbrev pub and_listed : Call → Memory → Memory
and_listed call memory = record memory { calls = memory.calls ++ call ∷ [] }

-- one lack of memory more: the count stands still at the end of its type
abbrev pub and_lack : Memory → Memory
and_lack memory = record memory { lacks = max memory.lacks (min (memory.lacks + 1) (2 ^ 64 - 1)) }

-- A call is listed, and fails exactly where its number is on the list; or it finds no memory, and fails.
pub record Takes {T E : Type 0} (call : Call) (old new : Memory) (result : Result T E) : Type 0 where
  pub done : OnOk result ((new ≡ and_listed call old) × (fails_next old ≡ false))
  pub failed : OnErr result (((new ≡ and_listed call old) × (fails_next old ≡ true)) ⊎ (new ≡ and_lack old))

-- a stop after at least so many calls may leave this image
pub record LeftSince (memory : Memory) (since : ℕ) (image : Image) (pieces : List Piece) : Type 0 where
  pub number : ℕ
  pub not_before : since ≤ number
  pub made : number ≤ length memory.calls
  pub left : IsLeft (state_after memory number) image
  pub silent : pieces ≡ []
