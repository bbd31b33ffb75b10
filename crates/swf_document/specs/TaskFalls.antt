-- Each list of tasks inside another weighs less than it.
use Rattle.std.specs.Prelude.{◌≡◌, ◌+◌, ◌≤◌, refl, max, List, [], ◌∷◌, Option, Some, None}
use Rattle.std.proofs.Common.{arith}
use denote.Param.Weighed.{most}
use Rattle.swf_document.specs.Task.{Tasks, weight, weight_tasks, weight_kind}
use Rattle.swf_document.specs.TaskNode.{kind_of, tasks_of}
use Rattle.swf_document.specs.declared.tasks.Kind.{Kind}
use Rattle.swf_document.specs.declared.tasks.Kind.TheVariants as kinds
use Rattle.swf_document.specs.declared.tasks.Named.{Named}
use Rattle.swf_document.specs.declared.tasks.TrySpec.{TrySpec}
use Rattle.swf_document.specs.declared.tasks.Tasks.TheDeep.{deep-Kind, deep-Named, deep-TrySpec}

-- no list of a `try` is heavier than all of it
try_falls : (s : TrySpec) (h : Option Tasks) → s.handler ≡ h → deep-TrySpec s ≤ weight_kind (kind_of (kinds.Try s))
try_falls s None e = grind (arith, e)
try_falls s (Some ts) e = grind (arith, e)

kind_falls : (k : Kind) → deep-Kind k ≤ weight_kind (kind_of k)
kind_falls (kinds.Call c) = omega arith
kind_falls (kinds.Do ts) = omega arith
kind_falls (kinds.Emit t) = omega arith
kind_falls (kinds.For s) = omega arith
kind_falls (kinds.Fork s) = omega arith
kind_falls (kinds.Listen s) = omega arith
kind_falls (kinds.Raise r) = omega arith
kind_falls (kinds.Run s) = omega arith
kind_falls (kinds.Set t) = omega arith
kind_falls (kinds.Switch cs) = omega arith
kind_falls (kinds.Try s) = omega (arith, try_falls s s.handler refl)
kind_falls (kinds.Wait n) = omega arith

-- no list in a named task is heavier than all tasks together
most_named : (ns : List Named) → most deep-Named ns ≤ weight_tasks (tasks_of ns) + 1
most_named [] = omega arith
most_named (n ∷ ns) = omega (arith, most_named ns, kind_falls n.task.kind)

pub falls : (ns : List Named) → max (most deep-Named ns) 0 ≤ weight (tasks_of ns)
falls ns = omega (arith, most_named ns)
