-- At which place each name of a list stands first.
use Rattle.std.specs.Prelude.{◌∷◌, [], ◌+◌, ℕ, List, Option, Some, None, is_some, map, cond}
use Rattle.std.specs.List.{position_from}
use Rattle.swf_text.specs.Same.{same}
use Rattle.swf_document.specs.Task.{Tasks, no_tasks, named}
use Rattle.swf_document.specs.declared.document.NamedError.{NamedError}
use Rattle.swf_document.specs.declared.document.NamedRetry.{NamedRetry}

abbrev pub Places : Type 0
Places = List ℕ → Option ℕ

abbrev pub nowhere : Places
nowhere n = None

abbrev pub places_of : List (List ℕ) → Places
places_of names n = position_from (same n) 0 names

-- one more name, at a place
abbrev pub added : Places → List ℕ → ℕ → Places
added f k i n = cond (is_some (f k)) (f n) (cond (same k n) (Some i) (f n))

-- more names, from a place on
abbrev pub added_from : Places → ℕ → List (List ℕ) → Places
added_from f i [] = f
added_from f i (n ∷ ns) = added_from (added f n i) (i + 1) ns

abbrev pub task_names : Tasks → List (List ℕ)
task_names no_tasks = []
task_names (named n t ts) = n ∷ task_names ts

abbrev pub error_names : List NamedError → List (List ℕ)
error_names es = map (λ e. e.name) es

abbrev pub retry_names : List NamedRetry → List (List ℕ)
retry_names rs = map (λ r. r.name) rs
