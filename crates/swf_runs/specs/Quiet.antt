-- Quiet is that no step is left.
use Rattle.std.specs.Prelude.{◌≡◌, ◌↔◌, ℕ, List, true, None}
use Rattle.swf_meaning.specs.World.{World}
use Rattle.swf_meaning.specs.declared.label.Label.TheVariants.{Step}
use Rattle.swf_runs.specs.After.{after}
use Rattle.swf_runs.specs.Runs.{is_quiet}

-- no strand is enabled exactly where no step has a world after it
abbrev pub IsQuietStill : World → Type 0
IsQuietStill w = (is_quiet w ≡ true) ↔ ((id strand : List ℕ) → after w (Step id strand) ≡ None)
