-- The statuses of each mode.
use Rattle.std.specs.Prelude.{◌≡◌, ◌⊎◌, ℕ}
use Rattle.swf_words.specs.declared.words.Mode.{Mode}
use Rattle.swf_words.specs.declared.words.Mode.TheVariants.{Check, Session, Show}

-- In a session: read to the end, the store failed, the host failed, damage, want of memory, or a full journal. `show` fills no
-- journal. `check` has no store: the document is accepted or refused, the host failed, or want of memory.
abbrev pub IsStatus : Mode → ℕ → Type 0
IsStatus Check s = (s ≡ 0) ⊎ (s ≡ 1) ⊎ (s ≡ 4) ⊎ (s ≡ 6)
IsStatus Session s = (s ≡ 0) ⊎ (s ≡ 3) ⊎ (s ≡ 4) ⊎ (s ≡ 5) ⊎ (s ≡ 6) ⊎ (s ≡ 7)
IsStatus Show s = (s ≡ 0) ⊎ (s ≡ 3) ⊎ (s ≡ 4) ⊎ (s ≡ 5) ⊎ (s ≡ 6)
