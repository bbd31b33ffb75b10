-- Which numbered things come to call themselves, where a graph has for each the numbers of those that it calls.
use Rattle.std.specs.Prelude.{[], ◌&&◌, ◌||◌, ℕ, zero, suc, List, Bool, length, get_or, nat_eq}
use Rattle.std.specs.List.{list_any}

abbrev pub calls : List (List ℕ) → ℕ → ℕ → Bool
calls graph i j = list_any (nat_eq j) (get_or graph i [])

-- one comes to call another by way of the first k alone: without the last of them, or first to it and then on from it
abbrev pub reaches : List (List ℕ) → ℕ → ℕ → ℕ → Bool
reaches graph zero i j = calls graph i j
reaches graph (suc k) i j = reaches graph k i j || (reaches graph k i k && reaches graph k k j)

abbrev pub calls_itself : List (List ℕ) → ℕ → Bool
calls_itself graph i = reaches graph (length graph) i i
