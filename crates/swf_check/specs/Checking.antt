-- What checking a document does: one input is taken, and what is said of it goes to connection 0.
use Rattle.std.specs.Prelude.{◌≡◌, ◌≢◌, ◌⊎◌, ℕ, ◌+◌, List, [], ◌∷◌, ◌++◌, ◌≤◌, length, Option, Some}
use Rattle.std.specs.Option.{ForSome}
use Rattle.swf_store.specs.declared.image.Image.{Image}
use Rattle.swf_store.specs.declared.said.Piece.{Piece}
use Rattle.swf_store.specs.Faults.{RoseOnce}
use Rattle.swf_store.specs.Said.{SaidPart, and_piece}
use Rattle.swf_store.specs.Stops.{Leaves}
use Rattle.swf_host.specs.declared.host.Input.{Input}
use Rattle.swf_check.specs.Verdict.{judged, status_of}

-- the input was taken, and all that is said of it was said
pub record IsChecked {W : Type 0} (first : List (Input W)) (said : List Piece) (status : ℕ) (taken_now : Option (List (Input W))) (said_now : Option (List Piece)) : Type 0 where
  pub input : Input W
  pub status_is : status ≡ status_of (judged input)
  pub taken : taken_now ≡ Some (first ++ input ∷ [])
  pub told : said_now ≡ Some (and_piece 0 (judged input).lines (length first + 1) said)

-- nothing was said, or a part of what is said of the one input that was taken
abbrev pub IsSaying : {W : Type 0} → List (Input W) → List Piece → List (Input W) → List Piece → Type 0
IsSaying {W = W} first said more pieces = (pieces ≡ said) ⊎ ((input : Input W) × (more ≡ input ∷ []) × SaidPart 0 (judged input).lines (length first + 1) said pieces)

-- at 4 the host's count of faults has risen by one, and else it stays
pub record IsHostFault (status host host_now : ℕ) : Type 0 where
  pub failed : status ≡ 4 → RoseOnce host host_now
  pub done : status ≢ 4 → host_now ≡ host

module _ {W S : Type 0} (moment : S → ℕ) (left_since : S → ℕ → Image → List Piece → Type 0) (said : S → Option (List Piece)) (may_leave : S → Image → Type 0) (taken : S → Option (List (Input W))) where
  -- these bytes were said to connection 0 and the status is this, or the host failed while they were said
  pub record Spoken (old new : S) (bytes : List ℕ) (done status : ℕ) : Type 0 where
    pub taken_same : taken new ≡ taken old
    pub which : (status ≡ done) ⊎ (status ≡ 4)
    pub whole : ForSome (taken old) (λ inputs. ForSome (said old) (λ pieces. status ≡ done → said new ≡ Some (and_piece 0 bytes (length inputs) pieces)))
    pub leaves : ForSome (taken old) (λ inputs. ForSome (said old) (λ pieces. Leaves moment left_since old new (λ image now. may_leave old image × SaidPart 0 bytes (length inputs) pieces now)))

  pub record CheckRun (old new : S) (status : ℕ) : Type 0 where
    -- A stop at any moment leaves what a stop at entry may have left; nothing was said, or a part of what is said of the input.
    pub moments : ForSome (taken old) (λ inputs. ForSome (said old) (λ pieces.
        (more : List (Input W)) × (length more ≤ 1) × (taken new ≡ Some (inputs ++ more)) × Leaves moment left_since old new (λ image now. may_leave old image × IsSaying inputs pieces more now)))
    -- At 0 and 1 all of it was said.
    pub finish : ForSome (taken old) (λ inputs. ForSome (said old) (λ pieces. (status ≡ 0) ⊎ (status ≡ 1) → IsChecked inputs pieces status (taken new) (said new)))
    -- For want of memory nothing is said.
    pub short : status ≡ 6 → said new ≡ said old
