use Rattle.std.proofs.Common.{◌≡◌, ◌∙◌, ◌+◌, ◌++◌, ◌∷◌, ap, sym, List, drop, append_assoc, append-nil, arith}
use Rattle.std.proofs.lemmas.List.{drop_all}
use Rattle.swf_value.proofs.Writing.{first_of_rest}
use Rattle.swf_document.specs.TaskNode.{task_of, tasks_of}
use Rattle.swf_document.specs.declared.tasks.Named.{Named}
use Rattle.swf_scope.specs.NamesView.{places_in}
use Rattle.swf_validate.specs.Calls.{called_in, called_in_tasks}
use Rattle.swf_document.proofs.Weights.{weight_named}
use Rattle.swf_validate.proofs.calls.+called.Goals as goal

pub called_in_named-called_in-requires : goal.called_in_named-called_in-requires
called_in_named-called_in-requires t c =
    (omega (arith, weight_named c.args.given.now c.loop-one.one-index c.one-item.result c.loop-one-test.true c.one-item.is), tt)

pub called_in_named-loop-one-preserved : goal.called_in_named-loop-one-preserved
called_in_named-loop-one-preserved t c =
    let ns = c.args.given.now in
    let i = c.loop-one.one-index in
    let n = c.one-item.result in
    let f = places_in c.args.functions.now in
    let out = c.loop-one.out.items in
    let rest = called_in_tasks f (tasks_of (drop (i + 1) ns)) in
    let first : drop i ns ≡ n ∷ drop (i + 1) ns = first_of_rest ns i n c.loop-one-test.true c.one-item.is in
    ap (λ l. l ++ rest) c.in_ok-called_in.ensures ∙ append_assoc out (called_in f (task_of n.task)) rest
    ∙ ap (λ (l : List Named). out ++ called_in_tasks f (tasks_of l)) (sym first) ∙ c.loop-one.invariant

pub called_in_named-returns : goal.called_in_named-returns
called_in_named-returns t c =
    let out = c.loop-one.out.items in
    sym (append-nil out)
    ∙ ap (λ (l : List Named). out ++ called_in_tasks (places_in c.args.functions.now) (tasks_of l)) (sym (drop_all c.loop-one.one-index c.args.given.now c.loop-one-test.false)) ∙ c.loop-one.invariant
