-- The files of an image.
use Rattle.std.specs.Prelude.{ℕ, List}
use Rattle.swf_store.specs.declared.image.File.{File}
use Rattle.swf_store.specs.declared.image.File.TheVariants.{Journal, Snap0, Snap1}
use Rattle.swf_store.specs.declared.image.Image.{Image}

-- the bytes of a file
abbrev pub bytes_of : Image → File → List ℕ
bytes_of image Journal = image.journal
bytes_of image Snap0 = image.snap0
bytes_of image Snap1 = image.snap1

-- the image with other bytes in one file
abbrev pub with_bytes : Image → File → List ℕ → Image
with_bytes image Journal bytes = record image { journal = bytes }
with_bytes image Snap0 bytes = record image { snap0 = bytes }
with_bytes image Snap1 bytes = record image { snap1 = bytes }
