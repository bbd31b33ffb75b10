-- How a world counts the labels of its history.
use Rattle.std.specs.Prelude.{◌≡◌, ◌+◌, ℕ, length, List, [], ◌∷◌, option_map}
use Rattle.std.specs.List.{cons_option}
use Rattle.swf_meaning.specs.World.{World}
use Rattle.swf_meaning.specs.declared.key.Key.{Key}
use Rattle.swf_meaning.specs.declared.label.Label.{Label}
use Rattle.swf_runs.specs.Keys.{key_of}

-- the keys of labels from a place on, each with its place
abbrev pub keyed : ℕ → List Label → List (Key × ℕ)
keyed n [] = []
keyed n (l ∷ ls) = cons_option (option_map (λ k. (k, n)) (key_of l)) (keyed (n + 1) ls)

-- a world counts the labels of its history, and has their keys with their places
abbrev pub IsCounted : List Label → World → Type 0
IsCounted h w = (w.count ≡ length h) × (w.keys ≡ keyed 0 h)
