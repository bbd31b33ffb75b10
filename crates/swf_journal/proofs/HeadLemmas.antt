-- What is read at a gate.
use Rattle.std.proofs.Common.{◌≡◌, ℕ, ◌<◌, min, List, ◌++◌, length, take, drop, get_or, ◌∙◌, ap, arith, w64}
use Rattle.std.specs.Int.{from_be_bytes}
use Rattle.std.proofs.lemmas.List.{take_at, take_min, length-take}
use Rattle.std.proofs.lemmas.Nat.{be_bytes_8}
use Rattle.swf_journal.specs.Frames.{length_bytes}

-- the front of a buffer after a read
pub read_is : (behind old new : List ℕ) (count room : ℕ) → count ≡ min room (length behind) → new ≡ take count behind ++ drop count old → take count new ≡ take room behind
read_is behind old new count room counted is =
    ap (λ (l : List ℕ). take count l) is
    ∙ take_at (take count behind) (drop count old) count (omega (arith, counted, length-take count behind))
    ∙ ap (λ n. take n behind) counted ∙ take_min room behind

-- eight bytes are the length that they spell
pub spelled : (bytes : List ℕ) (n : ℕ) → length bytes ≡ 8 → ((i : ℕ) → get_or bytes i 0 < 256) → n ≡ from_be_bytes w64 bytes → length_bytes n ≡ bytes
unfolding length_bytes
spelled bytes n long small is = be_bytes_8 bytes n long small is
