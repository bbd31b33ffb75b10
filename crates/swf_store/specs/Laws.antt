-- That a store in memory leaves what its reads give, and that its moments are the numbers of its calls.
use Rattle.std.specs.Prelude.{◌≡◌, ℕ, ◌+◌, ◌-◌, ◌≤◌, min, max, Bool, true, false, List, [], ◌∷◌, ◌++◌, length, take, drop, replicate, if◌then◌else◌, refl, Some}
use Rattle.std.proofs.Common.{◌∙◌, ap, subst, arith, length-append}
use Rattle.std.proofs.lemmas.List.{append_assoc, take_at, take_min, drop_at, length-take, length-drop, length-replicate}
use Rattle.swf_store.specs.declared.image.File.{File}
use Rattle.swf_store.specs.declared.image.File.TheVariants.{Journal, Snap0, Snap1}
use Rattle.swf_store.specs.declared.image.Image.{Image}
use Rattle.swf_store.specs.declared.replay.Change.{Change}
use Rattle.swf_store.specs.declared.said.Piece.{Piece}
use Rattle.swf_store.specs.Disk.{Torn, TornIn}
use Rattle.swf_store.specs.Files.{bytes_of, with_bytes}
use Rattle.swf_store.specs.Memory.{Memory, LeftSince, state_of, state_after}
use Rattle.swf_store.specs.Put.{put}
use Rattle.swf_store.specs.Replay.{IsTornBy, IsLeft, and_write, whole, reads}
use Rattle.swf_store.specs.Said.{IsSaid}

pub length-front : (old : List ℕ) (at : ℕ) → length (take at old ++ replicate (at - length old) 0) ≡ at
length-front old at =
    let zeros : List ℕ = replicate (at - length old) 0 in
    let size : length zeros ≡ at - length old = length-replicate (at - length old) 0 in
    omega (arith, length-append (take at old) zeros, length-take at old, size)

pub length-put : (old bytes : List ℕ) (at : ℕ) → length (put old at bytes) ≡ max (length old) (at + length bytes)
length-put old bytes at =
    let front = take at old ++ replicate (at - length old) 0 in
    omega (arith, length-front old at, length-append front bytes, length-append (front ++ bytes) (drop (at + length bytes) old), length-drop (at + length bytes) old)

-- a whole write is one of the ways to tear it
pub put_is_torn : (old bytes : List ℕ) (at : ℕ) → Torn at (length bytes) old (put old at bytes)
put_is_torn old bytes at =
    let zeros : List ℕ = replicate (at - length old) 0 in
    let rest = drop (at + length bytes) old in
    let front = take at old ++ zeros in
    let split : put old at bytes ≡ take at old ++ (zeros ++ bytes ++ rest) =
    ap (λ (l : List ℕ). l ++ rest) (append_assoc (take at old) zeros bytes) ∙ append_assoc (take at old) (zeros ++ bytes) rest in
    let size : length (front ++ bytes) ≡ at + length bytes = omega (arith, length-front old at, length-append front bytes) in
    record {
      before = ap (λ (l : List ℕ). take (min at (length old)) l) split ∙ take_at (take at old) (zeros ++ bytes ++ rest) (min at (length old)) (length-take at old);
      after = drop_at (front ++ bytes) rest (at + length bytes) size;
      no_shorter = omega (arith, length-put old bytes at);
      no_longer = omega (arith, length-put old bytes at);
    }

pub put_in_is_torn : (image : Image) (file : File) (at : ℕ) (bytes : List ℕ) → TornIn file at (length bytes) image (with_bytes image file (put (bytes_of image file) at bytes))
put_in_is_torn image Journal at bytes = record { torn = put_is_torn image.journal bytes at; others = refl }
put_in_is_torn image Snap0 at bytes = record { torn = put_is_torn image.snap0 bytes at; others = refl }
put_in_is_torn image Snap1 at bytes = record { torn = put_is_torn image.snap1 bytes at; others = refl }

-- a write that changes nothing is torn too
pub same_is_torn : (bytes : List ℕ) (at n : ℕ) → Torn at n bytes bytes
same_is_torn bytes at n = record { before = take_min at bytes; after = refl; no_shorter = omega arith; no_longer = omega arith }

pub same_in_is_torn : (file : File) (at n : ℕ) (image : Image) → TornIn file at n image image
same_in_is_torn Journal at n image = record { torn = same_is_torn image.journal at n; others = refl }
same_in_is_torn Snap0 at n image = record { torn = same_is_torn image.snap0 at n; others = refl }
same_in_is_torn Snap1 at n image = record { torn = same_is_torn image.snap1 at n; others = refl }

-- and so is one that was done or failed
pub and_write_is_torn : (image : Image) (change : Change) → TornIn change.file change.at (length change.bytes) image (and_write image change)
and_write_is_torn image change = either change.done
  where
    either : (done : Bool) → TornIn change.file change.at (length change.bytes) image (if done then with_bytes image change.file (put (bytes_of image change.file) change.at change.bytes) else image)
    either true = put_in_is_torn image change.file change.at change.bytes
    either false = same_in_is_torn change.file change.at (length change.bytes) image

pub whole_is_torn : (image : Image) (changes : List Change) → IsTornBy image changes (whole image changes)
whole_is_torn image [] = refl
whole_is_torn image (change ∷ changes) = (and_write image change, and_write_is_torn image change, whole_is_torn (and_write image change) changes)

pub counts_now_lem : (memory : Memory) (t : ℕ) (image : Image) (pieces : List Piece) → t ≤ length memory.calls → IsLeft (state_of memory) image → IsSaid (Some []) pieces → LeftSince memory t image pieces
counts_now_lem memory t image pieces le left silent = record { number = length memory.calls; not_before = le; made = omega arith; left = left; silent = silent [] refl }

pub only_now_lem : (memory : Memory) (image : Image) (pieces : List Piece) → LeftSince memory (length memory.calls) image pieces → IsLeft (state_of memory) image × IsSaid (Some []) pieces
only_now_lem memory image pieces since =
    let now : since.number ≡ length memory.calls = omega (arith, since.not_before, since.made) in
    (subst (λ number. IsLeft (state_after memory number) image) now since.left, λ told is. let none : [] ≡ told = cc in since.silent ∙ none)

pub reads_may_be_left_lem : (memory : Memory) (image : Image) → Some (reads (state_of memory)) ≡ Some image → IsLeft (state_of memory) image
reads_may_be_left_lem memory image given =
    let is : reads (state_of memory) ≡ image = cc in
    subst (λ i. IsLeft (state_of memory) i) is (whole_is_torn (state_of memory).synced (state_of memory).unsynced)
