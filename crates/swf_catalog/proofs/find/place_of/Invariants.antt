use Rattle.std.proofs.Common.{◌≡◌, drop}
use Rattle.swf_document.specs.TaskNode.{tasks_of}
use Rattle.swf_meaning.specs.Next.{place_from}
use Rattle.swf_catalog.proofs.find.place_of.Given as goal

abbrev pub invariant-loop-place : goal.invariant-loop-place
invariant-loop-place l = place_from l.place l.name (tasks_of (drop l.place l.tasks)) ≡ place_from 0 l.name (tasks_of l.tasks)
