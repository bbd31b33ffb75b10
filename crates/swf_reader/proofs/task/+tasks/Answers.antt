use Rattle.std.proofs.Common.{◌≡◌, ◌+◌, ap, sym, refl, ◌∙◌, List, ℕ, [], ◌∷◌, ◌++◌, Some, drop, arith}
use Rattle.std.proofs.lemmas.List.{drop_all}
use Rattle.swf_value.proofs.Writing.{first_of_rest}
use Rattle.swf_value.specs.Value.{Value, object}
use Rattle.swf_value.specs.Node.{items_of, members_of, weight_items}
use Rattle.swf_document.specs.TaskNode.{tasks_of}
use Rattle.swf_reader.specs.Reads.{items_in, item_in, tasks_at, tasks_under, tasks_inside}
use Rattle.swf_reader.proofs.TaskLemmas.{absent, before_tasks, items_step, one_item, tasks_all, told, tasks_at_none, tasks_under_none, under_there}
use Rattle.swf_reader.proofs.task.+tasks.Goals as goal

pub tasks_at-returns-in_default : goal.tasks_at-returns-in_default
tasks_at-returns-in_default t c =
    let p = c.args.place.now in
    let k = c.args.name.now in
    let ms = members_of c.args.members.now in
    let is : c.args.value.now ≡ object ms = cc in
    told c.of.result (tasks_of c.new.result.items) (tasks_at p k ms)
    (ap tasks_of c.new.ensures.items ∙ sym (tasks_at_none p k ms (absent k c.args.value.now ms is c.in_default.ensures))) c.of.ensures

pub tasks_under-returns-in_default : goal.tasks_under-returns-in_default
tasks_under-returns-in_default t c =
    let p = c.args.place.now in
    let k = c.args.name.now in
    let j = c.args.inner.now in
    let ms = members_of c.args.members.now in
    let is : c.args.value.now ≡ object ms = cc in
    told c.of.result (tasks_of c.new.result.items) (tasks_under p k j ms)
    (ap tasks_of c.new.ensures.items ∙ sym (tasks_under_none p k j ms (absent k c.args.value.now ms is c.in_default.ensures))) c.of.ensures

pub tasks_under-returns : goal.tasks_under-returns
tasks_under-returns t c =
    let p = c.args.place.now in
    let k = c.args.name.now in
    let j = c.args.inner.now in
    let ms = members_of c.args.members.now in
    let q = c.in_ok-place.place in
    let w = c.in-Some.holder.now in
    let is : c.args.value.now ≡ object ms = cc in
    let place : q ≡ p ++ k ∷ [] = c.in_ok-place.ensures ∙ ap (λ (x : List ℕ). p ++ x ∷ []) c.in_ok-word.ensures in
    told c.tasks_inside.result (tasks_inside q j w) (tasks_under p k j ms) (under_there p q k j c.args.value.now w ms is c.in-Some.ensures place) c.tasks_inside.ensures

pub items_in-loop-index-preserved : goal.items_in-loop-index-preserved
items_in-loop-index-preserved t c =
    let ds = c.args.items.now in
    let i = c.loop-index.index in
    let d = c.index-items-index.result in
    let p = c.args.place.now in
    let first : drop i ds ≡ d ∷ drop (i + 1) ds = first_of_rest ds i d c.loop-index-test.true c.index-items-index.is in
    record {
      tasks = items_step p _ ds i d c.loop-index.tasks.items c.add_task.new.tasks.items c.in_ok-item_at.field-0 _ first refl c.in_ok-item_at.ensures c.in_ok-add_task.ensures c.loop-index.invariant.tasks;
      weigh = omega (arith, c.loop-index.invariant.weigh, ap (λ (l : List Value). weight_items (items_of l)) first);
    }

pub items_in-returns : goal.items_in-returns
items_in-returns t c =
    let p = c.args.place.now in
    let ts = c.loop-index.tasks.items in
    let i = c.loop-index.index in
    sym (c.loop-index.invariant.tasks ∙ ap (λ (l : List Value). before_tasks ts (items_in p i (items_of l))) (drop_all i c.args.items.now c.loop-index-test.false) ∙ tasks_all ts)

pub item_in-returns : goal.item_in-returns
item_in-returns t c =
    let p = c.args.place.now in
    let m = c.member-item.result in
    let is : c.args.item.now ≡ object (members_of c.as_slice.result.now) = cc in
    (λ i. Some (c.in_ok-named_in.ensures.name i, c.in_ok-named_in.ensures.task i))
    ∙ sym (one_item p c.as_slice.result.now m (omega (arith, c.in-len1.len_at_least, c.in-len1.len_below)) c.member-item.is) ∙ ap (item_in p) (sym is)
