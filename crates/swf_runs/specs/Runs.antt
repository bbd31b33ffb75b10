-- Runs: lists of labels, each of which holds at its place.
use Rattle.std.specs.Prelude.{◌≡◌, List, [], ◌∷◌, Bool, true, not, is_some, Option, Some, option_and_then, unwrap_or}
use Rattle.std.specs.List.{list_any}
use Rattle.swf_meaning.specs.declared.label.Label.{Label}
use Rattle.swf_meaning.specs.Local.{is_enabled}
use Rattle.swf_meaning.specs.World.{World, empty}
use Rattle.swf_runs.specs.After.{after}

-- the world after these labels, from that one on
abbrev pub run_from : World → List Label → Option World
run_from w [] = Some w
run_from w (l ∷ ls) = option_and_then (λ m. run_from m ls) (after w l)

-- the world after a list of labels, from the empty world
abbrev pub run : List Label → Option World
run h = run_from empty h

-- the condition of each label holds at its place
abbrev pub Legal : List Label → Type 0
Legal h = is_some (run h) ≡ true

-- the world after a legal list
abbrev pub world_at : List Label → World
world_at h = unwrap_or (run h) empty

-- no strand is enabled
abbrev pub is_quiet : World → Bool
is_quiet w = not (list_any (λ i. is_enabled w.now i.node) w.instances)
