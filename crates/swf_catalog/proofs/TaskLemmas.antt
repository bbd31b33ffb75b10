-- The task of a place in a list.
use Rattle.std.proofs.Common.{◌≡◌, ℕ, zero, suc, ◌<◌, ◌≤◌, true, List, [], ◌∷◌, length, Option, Some, None, refl, arith}
use Rattle.std.specs.Prelude.{is_some, slice_index_or}
use Rattle.swf_document.specs.Task.{Task}
use Rattle.swf_document.specs.TaskNode.{task_of, tasks_of}
use Rattle.swf_document.specs.declared.tasks.Named.{Named}
use Rattle.swf_meaning.specs.Next.{task_at}
use Rattle.swf_catalog.specs.Numbers.{or_nothing}

pub task_at-length : (ns : List Named) (i : ℕ) → is_some (task_at (tasks_of ns) i) ≡ true → i < length ns
task_at-length [] i p = cc
task_at-length (n ∷ ns) zero p = omega arith
task_at-length (n ∷ ns) (suc i) p = omega (arith, task_at-length ns i p)

pub task_at-index : (ns : List Named) (i : ℕ) (d : Named) → i < length ns → task_at (tasks_of ns) i ≡ Some (task_of (slice_index_or ns i d).task)
task_at-index [] i d p = let no : ⊥ = omega (arith, p) in absurd no
task_at-index (n ∷ ns) zero d p = refl
task_at-index (n ∷ ns) (suc i) d p = task_at-index ns i d (omega arith)

pub task_at-past : (ns : List Named) (i : ℕ) → length ns ≤ i → task_at (tasks_of ns) i ≡ None
task_at-past [] i p = refl
task_at-past (n ∷ ns) zero p = let no : ⊥ = omega (arith, p) in absurd no
task_at-past (n ∷ ns) (suc i) p = task_at-past ns i (omega arith)

pub task_at-some : (ns : List Named) (i : ℕ) → i < length ns → is_some (task_at (tasks_of ns) i) ≡ true
task_at-some [] i p = let no : ⊥ = omega (arith, p) in absurd no
task_at-some (n ∷ ns) zero p = refl
task_at-some (n ∷ ns) (suc i) p = task_at-some ns i (omega arith)

pub or_nothing-some : (o : Option Task) → is_some o ≡ true → Some (or_nothing o) ≡ o
or_nothing-some None p = cc
or_nothing-some (Some t) p = refl
