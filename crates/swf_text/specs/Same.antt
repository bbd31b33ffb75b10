-- Whether two texts are one.
use Rattle.std.specs.Prelude.{◌==◌, ℕ, List, Bool, nat_lt}
use Rattle.std.specs.List.{list_all}
use Rattle.std.specs.Cmp.Lexicographic.{pointwise}

abbrev pub same : List ℕ → List ℕ → Bool
same a b = pointwise ◌==◌ a b

-- a text that is spelled by its own characters
abbrev pub is_ascii : List ℕ → Bool
is_ascii t = list_all (λ c. nat_lt c 128) t
