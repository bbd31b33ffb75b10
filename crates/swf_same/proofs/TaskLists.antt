-- Lists of tasks that stand for the same are equally long.
use Rattle.std.proofs.Common.{◌≡◌, ap, refl, List, [], ◌∷◌, length, suc}
use Rattle.swf_document.specs.TaskNode.{tasks_of}
use Rattle.swf_document.specs.declared.tasks.Named.{Named}

pub tasks_long : (a b : List Named) → tasks_of a ≡ tasks_of b → length a ≡ length b
tasks_long [] [] p = refl
tasks_long (x ∷ xs) (y ∷ ys) p = ap suc (tasks_long xs ys cc)
tasks_long a b p = cc
