-- One file of an image at a time.
use Rattle.std.proofs.Common.{◌≡◌, ℕ, List, refl}
use Rattle.swf_store.specs.declared.image.File.{File}
use Rattle.swf_store.specs.declared.image.File.TheVariants.{Journal, Snap0, Snap1}
use Rattle.swf_store.specs.declared.image.Image.{Image}
use Rattle.swf_store.specs.Files.{bytes_of, with_bytes}

pub bytes_with : (image : Image) (file : File) (bytes : List ℕ) → bytes_of (with_bytes image file bytes) file ≡ bytes
bytes_with image Journal bytes = refl
bytes_with image Snap0 bytes = refl
bytes_with image Snap1 bytes = refl

pub with_again : (image : Image) (file : File) (before bytes : List ℕ) → with_bytes (with_bytes image file before) file bytes ≡ with_bytes image file bytes
with_again image Journal before bytes = refl
with_again image Snap0 before bytes = refl
with_again image Snap1 before bytes = refl

pub with_same : (image : Image) (file : File) → with_bytes image file (bytes_of image file) ≡ image
with_same image Journal = refl
with_same image Snap0 = refl
with_same image Snap1 = refl
