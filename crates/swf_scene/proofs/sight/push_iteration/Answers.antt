use Rattle.std.proofs.Common.{◌∙◌, ◌++◌, ◌≤◌, ap, sym, subst, length, append-nil}
use Rattle.swf_meaning.specs.Line.{variable}
use Rattle.swf_catalog.proofs.IterationLemmas.{iteration_past, pushed_iteration}
use Rattle.swf_scene.proofs.sight.push_iteration.Goals as goal

pub returns-then-place-items : goal.returns-then-place-items
returns-then-place-items c =
    let old = c.args.variables.now.items in
    let past = iteration_past c.args.spec.now c.args.iteration.now (subst (λ xs. length xs ≤ c.args.iteration.now.number) c.as_slice-items.ensures c.if-place-items.true) in
    sym (ap (λ xs. old ++ xs) past ∙ append-nil old)

pub returns : goal.returns
returns c =
    pushed_iteration c.args.spec.now c.args.iteration.now c.index-items-place.result c.as_slice-items.result.now c.args.variables.now.items c.push_variable.new.variables.items c.push_variable-2.new.variables.items _ _ c.in_ok-push_variable.ensures c.in_ok-push_variable-2.ensures
    (λ i. variable c.args.spec.now.each (c.in_ok-copy.ensures i)) (λ i. variable c.args.spec.now.at (c.position.ensures i)) c.as_slice-items.ensures c.if-place-items.false c.index-items-place.is
