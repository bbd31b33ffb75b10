-- What is said on a link: to whom, which bytes came or were left, and which were written.
use Rattle.std.specs.Prelude.{◌≡◌, ℕ, ◌+◌, ◌-◌, ◌^◌, min, max, List, [], ◌∷◌, ◌++◌, Option, Some}

-- whom a link reaches, and all bytes that it gave or has left
pub record About : Type 0 where
  pub host : List ℕ
  pub port : ℕ
  pub bytes : List ℕ

pub record Talk : Type 0 where
  pub about : About
  pub written : List ℕ

-- a link on which nothing was said yet
pub record IsFresh (host : List ℕ) (port : ℕ) (about : Option About) (left written : Option (List ℕ)) : Type 0 where
  pub bytes : List ℕ
  pub about_is : about ≡ Some (record { host = host; port = port; bytes = bytes })
  pub left_is : left ≡ Some bytes
  pub written_is : written ≡ Some []

-- one talk more
abbrev pub HungUp : Option About → Option (List ℕ) → Option (List Talk) → Option (List Talk) → Type 0
HungUp about written old new =
    (a : About) (w : List ℕ) (before : List Talk) → about ≡ Some a → written ≡ Some w → old ≡ Some before
    → new ≡ Some (before ++ (record { about = a; written = w }) ∷ [])

-- a count with the faults of a link: it never falls, and stands still at the end of its type
abbrev pub with_faults : ℕ → ℕ → ℕ → ℕ
with_faults before reads writes = max before (min (before + reads + writes) (2 ^ 64 - 1))
