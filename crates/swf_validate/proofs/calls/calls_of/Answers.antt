use Rattle.std.proofs.Common.{◌≡◌, ◌∙◌, ◌+◌, ◌++◌, ◌∷◌, [], ap, sym, List, drop, map, append_assoc, append-nil}
use Rattle.std.proofs.lemmas.List.{drop_all, map-append}
use Rattle.swf_value.proofs.Writing.{first_of_rest}
use Rattle.swf_document.specs.TaskNode.{task_of, tasks_of}
use Rattle.swf_document.specs.declared.tasks.Named.{Named}
use Rattle.swf_scope.specs.NamesView.{places_in}
use Rattle.swf_validate.specs.Calls.{called_in, calls_of}
use Rattle.swf_validate.proofs.calls.calls_of.Goals as goal

pub loop-one-preserved : goal.loop-one-preserved
loop-one-preserved c =
    let ns = c.args.given.now in
    let i = c.loop-one.one-index in
    let n = c.one-item.result in
    let f = places_in c.args.functions.now in
    let rows = map (λ row. row.items) c.loop-one.rows.items in
    let rest = calls_of f (tasks_of (drop (i + 1) ns)) in
    let row : c.called_in.new.out.items ≡ called_in f (task_of n.task) = c.in_ok-called_in.ensures ∙ ap (λ l. l ++ called_in f (task_of n.task)) c.new-row.ensures.items in
    let first : drop i ns ≡ n ∷ drop (i + 1) ns = first_of_rest ns i n c.loop-one-test.true c.one-item.is in
    ap (λ l. map (λ row. row.items) l ++ rest) c.in_ok-push.ensures.items
    ∙ ap (λ l. l ++ rest) (map-append (λ row. row.items) c.loop-one.rows.items (c.called_in.new.out ∷ []))
    ∙ append_assoc rows (c.called_in.new.out.items ∷ []) rest ∙ ap (λ r. rows ++ (r ∷ rest)) row
    ∙ ap (λ (l : List Named). rows ++ calls_of f (tasks_of l)) (sym first) ∙ c.loop-one.invariant

pub returns : goal.returns
returns c =
    let rows = map (λ row. row.items) c.loop-one.rows.items in
    sym (append-nil rows)
    ∙ ap (λ (l : List Named). rows ++ calls_of (places_in c.args.functions.now) (tasks_of l)) (sym (drop_all c.loop-one.one-index c.args.given.now c.loop-one-test.false)) ∙ c.loop-one.invariant
