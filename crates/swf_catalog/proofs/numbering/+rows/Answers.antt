use Rattle.std.proofs.Common.{◌≡◌, ◌∙◌, ◌+◌, ◌++◌, ◌∷◌, [], ap, sym, length, drop, append_assoc, arith}
use Rattle.swf_value.proofs.Writing.{first_of_rest}
use Rattle.swf_document.specs.TaskNode.{handler_of, tasks_of}
use Rattle.swf_catalog.specs.Numbers.{all, begin, behind, count, handler_begin, inside_handler}
use Rattle.swf_catalog.specs.Rows.{entries_of}
use Rattle.swf_catalog.proofs.NumberLemmas.{length-begins_of, more-begins, more-inside, next-all, next-own}
use Rattle.swf_document.proofs.Weights.{weight_named}
use Rattle.swf_catalog.proofs.numbering.+rows.Goals as goal

pub add_inside-add_kind-requires : goal.add_inside-add_kind-requires
add_inside-add_kind-requires t c =
    (omega (arith, weight_named c.args.tasks.now c.loop-one.one-index c.one-item.result c.loop-one-test.true c.one-item.is), tt)

pub add_inside-loop-one-preserved : goal.add_inside-loop-one-preserved
add_inside-loop-one-preserved t c =
    let ns = c.args.tasks.now in
    let i = c.loop-one.one-index in
    let n = c.one-item.result in
    let rs = c.loop-one.rows.items in
    let ss = c.add_kind.new.rows.items in
    let first : drop i ns ≡ n ∷ drop (i + 1) ns = first_of_rest ns i n c.loop-one-test.true c.one-item.is in
    let added = c.in_ok-add_kind.ensures.rows in
    let pushed = c.in_ok-push.ensures.items ∙ ap (λ b. c.loop-one.begins.items ++ b ∷ []) c.in_ok-add_kind.ensures.begins in
    record {
      rows = more-inside ns i n rs ss _ first added c.loop-one.invariant.rows;
      begins = more-begins ns i n rs ss c.loop-one.begins.items c.push.new.self.items _ first added pushed c.loop-one.invariant.begins;
    }

pub add_tasks-add_own-requires : goal.add_tasks-add_own-requires
add_tasks-add_own-requires t c =
    ap length (c.deref.ensures.value ∙ c.in_ok-begins.ensures.begins) ∙ length-begins_of (length c.args.rows.now.items + 1) (tasks_of c.as_slice.result.now) ∙ ap count c.as_slice.ensures

pub add_tasks-returns-clause-begin : goal.add_tasks-returns-clause-begin
add_tasks-returns-clause-begin t c =
    c.next-begin.ensures ∙ next-own c.args.rows.now.items c.add_inside.new.rows.items (tasks_of c.as_slice.result.now) c.in_ok-begins.ensures.rows ∙ ap (λ ts. begin (length c.args.rows.now.items + 1) ts) c.as_slice.ensures

pub add_try-returns-in_ok-handler-in-Some-clause-rows : goal.add_try-returns-in_ok-handler-in-Some-clause-rows
add_try-returns-in_ok-handler-in-Some-clause-rows t c =
    let m = length c.args.rows.now.items + 1 in
    let ts = c.args.spec.now.tasks in
    let old = entries_of c.args.rows.now.items in
    let next = next-all c.args.rows.now.items c.add_tasks.new.rows.items ts c.in_ok-tasks.ensures.rows in
    c.in_ok-handler-in-Some.ensures.rows ∙ (λ i. c.in_ok-tasks.ensures.rows i ++ all (next i) c.in-Some.tasks)
    ∙ append_assoc old (all m ts) (all (behind m ts) c.in-Some.tasks)
    ∙ ap (λ h. old ++ (all m ts ++ inside_handler (behind m ts) (handler_of h))) (sym c.in-Some.is)

pub add_try-returns-in_ok-handler-in-Some-clause-begins : goal.add_try-returns-in_ok-handler-in-Some-clause-begins
add_try-returns-in_ok-handler-in-Some-clause-begins t c =
    let m = length c.args.rows.now.items + 1 in
    let ts = c.args.spec.now.tasks in
    let next = next-all c.args.rows.now.items c.add_tasks.new.rows.items ts c.in_ok-tasks.ensures.rows in
    let at = c.in_ok-handler-in-Some.ensures.begin ∙ ap (λ n. begin n c.in-Some.tasks) next ∙ ap (λ h. handler_begin (behind m ts) (handler_of h)) (sym c.in-Some.is) in
    λ i. record { tasks = c.in_ok-tasks.ensures.begin i; handler = at i }

pub add_try-returns-in-None-clause-begins : goal.add_try-returns-in-None-clause-begins
add_try-returns-in-None-clause-begins t c =
    let m = length c.args.rows.now.items + 1 in
    let ts = c.args.spec.now.tasks in
    let at = c.next-handler.ensures ∙ next-all c.args.rows.now.items c.add_tasks.new.rows.items ts c.in_ok-tasks.ensures.rows ∙ ap (λ h. handler_begin (behind m ts) (handler_of h)) (sym c.in-None.is) in
    λ i. record { tasks = c.in_ok-tasks.ensures.begin i; handler = at i }
