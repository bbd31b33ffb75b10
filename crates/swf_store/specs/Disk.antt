-- What a stop may leave of a file that is being written.
use Rattle.std.specs.Prelude.{◌≡◌, ℕ, ◌+◌, ◌≤◌, min, max, List, length, take, drop}
use Rattle.swf_store.specs.declared.image.File.{File}
use Rattle.swf_store.specs.declared.image.Image.{Image}
use Rattle.swf_store.specs.Files.{bytes_of, with_bytes}

-- A write of n bytes at a place, until a sync: the range may hold any bytes, and so may what lies past the old end;
-- other bytes below the old end stay; the size is anything from the old size to the end of the range.
pub record Torn (at n : ℕ) (old new : List ℕ) : Type 0 where
  pub before : take (min at (length old)) new ≡ take at old
  pub after : drop (at + n) new ≡ drop (at + n) old
  pub no_shorter : length old ≤ length new
  pub no_longer : length new ≤ max (length old) (at + n)

-- the same for one file of an image: the other files stay
pub record TornIn (file : File) (at n : ℕ) (old new : Image) : Type 0 where
  pub torn : Torn at n (bytes_of old file) (bytes_of new file)
  pub others : new ≡ with_bytes old file (bytes_of new file)

-- each image that a stop may leave now is one that it might have left before, after a step
abbrev pub Follows : (Image → Image → Type 0) → (Image → Type 0) → (Image → Type 0) → Type 0
Follows step old new = (image : Image) → new image → (before : Image) × old before × step before image

-- a stop now leaves nothing that it did not leave before
abbrev pub NothingNew : (Image → Type 0) → (Image → Type 0) → Type 0
NothingNew old new = (image : Image) → new image → old image

-- a stop leaves this image and no other
abbrev pub Only : Image → (Image → Type 0) → Type 0
Only image may_leave = (other : Image) → may_leave other → other ≡ image
