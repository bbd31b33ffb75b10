-- A store over files: which open file stands for which, how many calls have failed, and what a sync has made sure of.
use Rattle.std.specs.Prelude.{◌≡◌, ℕ, ◌+◌, false}
use Rattle.swf_store.specs.declared.files.Folder.{Folder}
use Rattle.swf_store.specs.declared.files.State.{State}
use Rattle.swf_store.specs.declared.files.State.TheVariants.{Open, Closed}
use Rattle.swf_store.specs.declared.image.File.{File}
use Rattle.swf_store.specs.declared.image.File.TheVariants.{Journal, Snap0, Snap1}
use Rattle.swf_store.specs.declared.image.Image.{Image}
use Rattle.swf_store.specs.declared.opened.Opened.{Opened}

-- the call that closed the files, and those since
abbrev pub faults_of : {F : Type 0} → State F → ℕ
faults_of (Open _) = 0
faults_of (Closed later) = later + 1

-- the open file that stands for a file of the store
abbrev pub opened_as : {F : Type 0} → Folder F → File → Opened F
opened_as folder Journal = folder.journal
opened_as folder Snap0 = folder.snap0
opened_as folder Snap1 = folder.snap1

-- no file holds what no sync has made sure of
abbrev pub AllSynced : {F : Type 0} → Folder F → Type 0
AllSynced folder = (folder.journal.unsynced ≡ false) × (folder.snap0.unsynced ≡ false) × (folder.snap1.unsynced ≡ false)

-- the same of files that are open
abbrev pub IsSynced : {F : Type 0} → State F → Type 0
IsSynced (Open folder) = AllSynced folder
IsSynced (Closed _) = Unit {0}

-- what a stop may leave, where nothing is told of it
abbrev pub AnyImage : Image → Type 0
AnyImage image = Unit {0}
