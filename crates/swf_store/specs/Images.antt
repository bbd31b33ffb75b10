-- The images that a test tries at a stop.
use Rattle.std.specs.Prelude.{◌/◌, not, true, List, [], ◌∷◌, ◌++◌, length, take, replicate}
use Rattle.swf_store.specs.declared.image.Image.{Image}
use Rattle.swf_store.specs.declared.replay.Change.{Change}
use Rattle.swf_store.specs.declared.replay.Harm.{Harm}
use Rattle.swf_store.specs.declared.replay.Harm.TheVariants.{Turned, Cut, Filled}
use Rattle.swf_store.specs.Replay.{Writing, whole, reads}

-- A write that is turned, which is absent where it was done and whole where it failed; cut in its middle; or the byte
-- 0xA5 all over.
abbrev pub harmed_by : Harm → Change → Change
harmed_by Turned change = record change { done = not change.done }
harmed_by Cut change = record change { bytes = take (length change.bytes / 2) change.bytes; done = true }
harmed_by Filled change = record change { bytes = replicate (length change.bytes) 0xA5; done = true }

-- the files with one write harmed, and the writes before and after it as reads give them
abbrev pub with_harm : Image → List Change → Change → List Change → Harm → Image
with_harm synced before change after harm = whole synced (before ++ harmed_by harm change ∷ after)

-- the files with it turned, cut and filled
abbrev pub harms : Image → List Change → Change → List Change → List Image
harms synced before change after = with_harm synced before change after Turned ∷ with_harm synced before change after Cut ∷ with_harm synced before change after Filled ∷ []

-- for each of the writes, the files with it turned, cut and filled, and all others as reads give them
abbrev pub harmed : Image → List Change → List Change → List Image
harmed synced before [] = []
harmed synced before (change ∷ after) = harms synced before change after ++ harmed synced (before ++ change ∷ []) after

-- the files as reads give them, and those with one unsynced write harmed
abbrev pub images_of : Writing → List Image
images_of writing = reads writing ∷ harmed writing.synced [] writing.unsynced
