use Rattle.std.proofs.Common.{◌∙◌, ap, sym, List}
use Rattle.std.proofs.lemmas.List.{drop_all}
use Rattle.swf_document.specs.TaskNode.{tasks_of}
use Rattle.swf_document.specs.declared.tasks.Named.{Named}
use Rattle.swf_scope.specs.Names.{added_from, task_names}
use Rattle.swf_scope.specs.NamesView.{places_in}
use Rattle.swf_scope.proofs.NamesLemmas.{all_found}
use Rattle.swf_scope.proofs.names.names_of_tasks.Goals as goal

pub returns : goal.returns
returns c =
    ap (λ (ns : List Named). added_from (places_in c.loop-place.names) c.loop-place.place (task_names (tasks_of ns))) (sym (drop_all c.loop-place.place c.args.tasks.now c.loop-place-test.false)) ∙ c.loop-place.invariant ∙ all_found (task_names (tasks_of c.args.tasks.now))
