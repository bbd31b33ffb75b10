use Rattle.std.proofs.Common.{◌≡◌, ◌++◌, drop, map}
use Rattle.swf_document.specs.TaskNode.{tasks_of}
use Rattle.swf_validate.specs.Calls.{calls_of}
use Rattle.swf_scope.specs.NamesView.{places_in}
use Rattle.swf_validate.proofs.calls.calls_of.Given as goal

abbrev pub invariant-loop-one : goal.invariant-loop-one
invariant-loop-one l =
    map (λ row. row.items) l.rows.items ++ calls_of (places_in l.functions) (tasks_of (drop l.one-index l.given)) ≡ calls_of (places_in l.functions) (tasks_of l.given)
