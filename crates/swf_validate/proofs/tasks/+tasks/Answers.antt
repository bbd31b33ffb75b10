use Rattle.std.proofs.Common.{◌∙◌, ◌++◌, ap, sym, append-nil, arith}
use Rattle.std.proofs.lemmas.List.{drop_all}
use Rattle.swf_value.proofs.Writing.{first_of_rest}
use Rattle.swf_document.specs.TaskNode.{tasks_of}
use Rattle.swf_document.specs.declared.fault.FaultKind.TheVariants.{DuplicateName}
use Rattle.swf_scope.specs.NamesView.{places_in}
use Rattle.swf_scope.specs.Scope.{fault_unless}
use Rattle.swf_scope.specs.ScopeView.{scope_of}
use Rattle.swf_validate.specs.TaskFaults.{named_faults}
use Rattle.swf_document.proofs.Weights.{weight_named}
use Rattle.swf_validate.proofs.NamedLemmas.{named_step}
use Rattle.swf_validate.proofs.tasks.+tasks.Goals as goal

pub named-task-requires : goal.named-task-requires
named-task-requires t c =
    (omega (arith, weight_named c.args.given.now c.loop-position.position c.index-given-position.result c.loop-position-test.true c.index-given-position.is), tt)

pub named-loop-position-preserved : goal.named-loop-position-preserved
named-loop-position-preserved t c =
    let ns = c.args.given.now in
    let i = c.loop-position.position in
    let n = c.index-given-position.result in
    let out = c.loop-position.out in
    named_step (scope_of c.args.scope.now) (places_in c.args.places.now) ns i n out _ _ _ (first_of_rest ns i n c.loop-position-test.true c.index-given-position.is)
    (c.in_ok-tell_unless.ensures ∙ ap (λ b. out ++ fault_unless b n.task.common.place DuplicateName) c.stands_first-first.ensures) c.in_ok-task.ensures c.loop-position.invariant

pub named-returns : goal.named-returns
named-returns t c =
    let out = c.loop-position.out in
    let i = c.loop-position.position in
    sym (append-nil out)
    ∙ ap (λ l. out ++ named_faults (scope_of c.args.scope.now) (places_in c.args.places.now) i (tasks_of l)) (sym (drop_all i c.args.given.now c.loop-position-test.false)) ∙ c.loop-position.invariant
