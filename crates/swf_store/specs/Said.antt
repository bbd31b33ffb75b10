-- What was said to those who ask, where it is told.
use Rattle.std.specs.Prelude.{◌≡◌, ◌⊎◌, ℕ, List, [], ◌∷◌, ◌++◌, length, Option, Some, None, Result, Ok, Err}
use Rattle.std.specs.Option.{ForSome}
use Rattle.swf_store.specs.declared.said.Piece.{Piece}

abbrev pub and_piece : ℕ → List ℕ → ℕ → List Piece → List Piece
and_piece conn bytes inputs said = said ++ (record { conn = conn; bytes = bytes; inputs = inputs }) ∷ []

-- nothing more was said, or one piece that begins the bytes
pub record SaidPart (conn : ℕ) (bytes : List ℕ) (inputs : ℕ) (said pieces : List Piece) : Type 0 where
  pub part : List ℕ
  pub rest : List ℕ
  pub begins : bytes ≡ part ++ rest
  pub told : (pieces ≡ said) ⊎ (pieces ≡ and_piece conn part inputs said)

-- after a call that says the bytes: they were said, or a part of them after a failure
abbrev pub AfterSay : {T E : Type 0} → ℕ → List ℕ → ℕ → Result T E → List Piece → Option (List Piece) → Type 0
AfterSay conn bytes inputs (Ok u) old new = new ≡ Some (and_piece conn bytes inputs old)
AfterSay conn bytes inputs (Err e) old new = (now : List Piece) × (new ≡ Some now) × SaidPart conn bytes inputs old now

-- what was said, where it is told; else it may be anything
abbrev pub IsSaid : Option (List Piece) → List Piece → Type 0
IsSaid said pieces = ForSome said (λ told. pieces ≡ told)

-- what may have been said while the bytes are said
abbrev pub MayHaveSaid : {I : Type 0} → ℕ → List ℕ → Option (List I) → Option (List Piece) → List Piece → Type 0
MayHaveSaid conn bytes taken said pieces = ForSome taken (λ inputs. ForSome said (λ before. SaidPart conn bytes (length inputs) before pieces))

-- where nothing is told, anything may have been said
pub untold : (pieces : List Piece) → IsSaid None pieces
untold pieces told is = absurd (cc)
