-- What each form does with each output.
use Rattle.std.proofs.Common.{◌≡◌, ◌∙◌, ◌∷◌, List, Err, not, ap, sym, subst, refl, rules, true, false, codes, arith, ◌+◌, ℕ, suc, drop}
use Rattle.std.proofs.lemmas.Result.{err_from_is_err_and}
use Rattle.swf_jq_eval.specs.declared.outputs.Stop.{Stop}
use Rattle.swf_value.specs.Node.{node_value, items_of}
use Rattle.swf_value.specs.Value.{Value, boolean, list}
use Rattle.swf_expr.specs.ExprNode.{node_tree, value_or_here}
use Rattle.swf_evaluation.specs.Operations.{is_true, index_of}
use Rattle.swf_jq_builtins.specs.Outcome.{several_of}
use Rattle.swf_evaluation.specs.Run.{clean, gave, turn, made, answered, over, spread, same_truth, until}
use Rattle.swf_evaluation.specs.Outputs.{run, node, with_argument, ranged, sorted_by, key_by}
use Rattle.swf_jq_eval.specs.Names.{names}
use Rattle.swf_jq_eval.specs.Goes.{Goes, Comes, ahead}
use Rattle.std.specs.List.{list_any}
use Rattle.swf_jq_eval.proofs.Runs.{over_one, goes_from}
use Rattle.swf_jq_eval.proofs.Calls.{until_on, until_out, until_stop, until_end, call_two, across_list, each_is_over, with_other, until_found, choose_goes, other_truth}
use Rattle.swf_jq_eval.specs.Inner.{inside}
use Rattle.swf_jq_eval.proofs.Weights.{positive}
use Rattle.swf_jq_eval.proofs.+eval.Goals as goal

pub call::all_of-returns-in-List : goal.call::all_of-returns-in-List
call::all_of-returns-in-List t c =
    let f = λ (x : Value). run c.args.of.now (names c.args.at.now) x in
    let v : list (items_of c.in-List.items) ≡ c.args.at.now.input.now = sym (ap node_value c.in-List.is) ∙ c.node.ensures.value in
    subst (λ s. Goes c.args.out.now s c.until.new.out c.until.result) (across_list (codes "cannot all") c.args.at.now.input.now c.in-List.items c.as_slice.result.now (until false f) v c.as_slice.ensures) c.until.ensures

pub call::any_of-returns-in-List : goal.call::any_of-returns-in-List
call::any_of-returns-in-List t c =
    let f = λ (x : Value). run c.args.of.now (names c.args.at.now) x in
    let v : list (items_of c.in-List.items) ≡ c.args.at.now.input.now = sym (ap node_value c.in-List.is) ∙ c.node.ensures.value in
    subst (λ s. Goes c.args.out.now s c.until.new.out c.until.result) (across_list (codes "cannot any") c.args.at.now.input.now c.in-List.items c.as_slice.result.now (until true f) v c.as_slice.ensures) c.until.ensures

pub call::sort_by-returns-in-List : goal.call::sort_by-returns-in-List
call::sort_by-returns-in-List t c =
    let f = λ (x : Value). run c.args.of.now (names c.args.at.now) x in
    let v : list (items_of c.in-List.items) ≡ c.args.at.now.input.now = sym (ap node_value c.in-List.is) ∙ c.node.ensures.value in
    subst (λ s. Goes c.args.out.now s c.sorted.new.out c.sorted.result) (across_list (codes "cannot sort_by") c.args.at.now.input.now c.in-List.items c.as_slice.result.now (sorted_by f) v c.as_slice.ensures) c.sorted.ensures

pub call::call-returns-in-len2-up : goal.call::call-returns-in-len2-up
call::call-returns-in-len2-up t c =
    subst (λ s. Goes c.args.out.now s c.each_inner.new.out c.each_inner.result)
    (call_two c.args.builtin c.args.arguments.now c.from-item.result c.to-item.result c.args.at.now.input.now (names c.args.at.now) (omega (arith, c.in-len2-up.len_at_least)) c.from-item.is c.to-item.is)
    c.each_inner.ensures

pub call::map-returns : goal.call::map-returns
call::map-returns t c = c.gather.ensures c.args.out.now _ (c.each_of-mapped.ensures _ c.parts.ensures)

pub call::with_entries-returns : goal.call::with_entries-returns
call::with_entries-returns t c = c.rebuild.ensures c.args.out.now _ (c.each_of-outer.ensures _ c.entries_of-entries.ensures)

pub call::with_argument-returns-in_default : goal.call::with_argument-returns-in_default
call::with_argument-returns-in_default t c =
    let d = c.in_default in
    let b = c.args.builtin in
    let v = c.args.at.now.input.now in
    subst (λ s. Goes c.args.out.now s c.each_step-in_default.new.out c.each_step-in_default.result)
    (with_other b (λ x. run c.args.of.now (names c.args.at.now) x) v d.not-AnyOf d.not-AllOf d.not-Map d.not-WithEntries d.not-SortBy d.not-Select d.not-ErrorWith d.not-RangeTo d.not-FirstOf) c.each_step-in_default.ensures

pub call::with_argument-returns-in-RangeTo : goal.call::with_argument-returns-in-RangeTo
call::with_argument-returns-in-RangeTo t c =
    let f = λ (x : Value). run c.args.of.now (names c.args.at.now) x in
    let v = c.args.at.now.input.now in
    subst (λ s. Goes c.args.out.now s c.each_step-in-RangeTo.new.out c.each_step-in-RangeTo.result)
    ((λ i. over (f v) (ranged (c.int.ensures i))) ∙ ap (λ b. with_argument b f v) (sym c.in-RangeTo.is)) c.each_step-in-RangeTo.ensures

pub forms::list_of-returns : goal.forms::list_of-returns
forms::list_of-returns t c = c.gather.ensures c.args.out.now _ c.all.ensures

pub object::values-returns-in-None : goal.object::values-returns-in-None
object::values-returns-in-None t c =
    let r = names c.args.at.now in
    let v = c.args.at.now.input.now in
    let k = c.args.key.now in
    subst (λ s. Comes c.args.out.now s c.members_of_input.new.out c.members_of_input.result)
    ((λ i. turn (over (run k r v) (λ y. over_one v (λ x. answered (index_of x y)) i))) ∙ ap (λ o. run (value_or_here k o) r v) (sym c.in-None.is)) c.members_of_input.ensures

pub search::each_part-returns-in-Values : goal.search::each_part-returns-in-Values
search::each_part-returns-in-Values t c =
    let g = λ (x : Value). run c.args.expr.now (names c.args.at.now) x in
    subst (λ s. Goes c.args.out.now s c.each.new.out c.each.result) (each_is_over c.in-Values.values.items g ∙ ap (λ a. over (spread (several_of a)) g) (sym c.in-Values.is))
    (c.each.ensures g (λ x o r o' h. h))

pub search::each_key-returns : goal.search::each_key-returns
search::each_key-returns t c =
    let g = key_by (λ (x : Value). run c.args.expr.now (names c.args.at.now) x) in
    subst (λ s. Goes c.args.out.now s c.each.new.out c.each.result) (each_is_over _ g ∙ ap (λ vs. over (gave vs clean) g) c.in_ok-copies.ensures)
    (c.each.ensures g (λ x o r o' h. h))

pub object::keyed-over-over-requires : goal.object::keyed-over-over-requires
object::keyed-over-over-requires t c = search (rules, positive)

pub search::until-returns-then-has_truth : goal.search::until-returns-then-has_truth
search::until-returns-then-has_truth t c =
    let f = λ (x : Value). run c.args.expr.now (names c.args.at.now) x in
    let o = c.in_ok-values.field-0 in
    let seen : list_any (λ v. same_truth (is_true v) c.args.want) o.values.items ≡ true =
    ap (λ (w : List Value). list_any (λ v. same_truth (is_true v) c.args.want) w) (sym c.deref.ensures.value) ∙ sym c.has_truth.ensures ∙ c.if-has_truth.true in
    goes_from c.args.out.now c.all.new.out c.make_truth.new.out (until c.args.want f c.args.values.now) (made (boolean c.args.want)) c.make_truth.result
    (until_found c.args.want f c.args.values.now c.loop-x.x-index c.x-item.result c.loop-x.out c.all.new.out o c.loop-x-test.true c.x-item.is c.in_ok-values.ensures seen ∙ c.loop-x.invariant)
    c.make_truth.ensures

pub search::until-returns-in-Raised : goal.search::until-returns-in-Raised
search::until-returns-in-Raised t c =
    let f = λ (x : Value). run c.args.expr.now (names c.args.at.now) x in
    let o = c.in_ok-values.field-0 in
    let none : list_any (λ v. same_truth (is_true v) c.args.want) o.values.items ≡ false =
    ap (λ (w : List Value). list_any (λ v. same_truth (is_true v) c.args.want) w) (sym c.deref.ensures.value) ∙ sym c.has_truth.ensures ∙ c.if-has_truth.false in
    until_out c.args.want f c.args.values.now c.loop-x.x-index c.x-item.result c.in-Raised.error c.loop-x.out c.all.new.out o c.loop-x-test.true c.x-item.is c.in_ok-values.ensures none c.in-Raised.is ∙ c.loop-x.invariant

pub search::until-returns-in_err-values : goal.search::until-returns-in_err-values
search::until-returns-in_err-values t c =
    let f = λ (x : Value). run c.args.expr.now (names c.args.at.now) x in
    let xs = c.args.values.now in
    let n : ℕ = c.loop-x.x-index in
    let e : Stop = c.in_err-values.field-0.0 in
    let same = err_from_is_err_and c.from_residual.result c.from_residual.ensures.1 in
    subst (λ r. Goes c.args.out.now (until c.args.want f xs) c.all.new.out r) (sym (same.1 ∙ ap Err same.2))
    (goes_from c.args.out.now c.loop-x.out c.all.new.out (until c.args.want f xs) (until c.args.want f (drop n xs)) (Err e) c.loop-x.invariant
    (until_stop c.args.want f xs n e c.x-item.result c.loop-x.out c.all.new.out c.loop-x-test.true c.x-item.is c.in_err-values.ensures))

pub search::until-returns : goal.search::until-returns
search::until-returns t c =
    let f = λ (x : Value). run c.args.expr.now (names c.args.at.now) x in
    goes_from c.args.out.now c.loop-x.out c.make_truth-2.new.out (until c.args.want f c.args.values.now) (made (boolean (not c.args.want))) c.make_truth-2.result
    (ap (ahead c.loop-x.out) (until_end c.args.want f c.args.values.now c.loop-x.x-index c.loop-x-test.false) ∙ c.loop-x.invariant)
    c.make_truth-2.ensures

pub forms::level-returns-in-Index : goal.forms::level-returns-in-Index
forms::level-returns-in-Index t c =
    let r = names c.args.at.now in
    let v = c.args.at.now.input.now in
    subst (λ s. Goes c.args.out.now s c.each_inner.new.out c.each_inner.result) (sym (ap (λ n. node (node_tree n) r v) c.in-Index.is)) c.each_inner.ensures

pub forms::level-returns-in-Pipe : goal.forms::level-returns-in-Pipe
forms::level-returns-in-Pipe t c =
    let r = names c.args.at.now in
    let v = c.args.at.now.input.now in
    subst (λ s. Goes c.args.out.now s c.each_inner-in-Pipe.new.out c.each_inner-in-Pipe.result) (sym (ap (λ n. node (node_tree n) r v) c.in-Pipe.is)) c.each_inner-in-Pipe.ensures

pub forms::level-returns-in-Or : goal.forms::level-returns-in-Or
forms::level-returns-in-Or t c =
    let r = names c.args.at.now in
    let v = c.args.at.now.input.now in
    subst (λ s. Goes c.args.out.now s c.each_inner-in-Or.new.out c.each_inner-in-Or.result) (sym (ap (λ n. node (node_tree n) r v) c.in-Or.is)) c.each_inner-in-Or.ensures

pub forms::level-returns-in-And : goal.forms::level-returns-in-And
forms::level-returns-in-And t c =
    let r = names c.args.at.now in
    let v = c.args.at.now.input.now in
    subst (λ s. Goes c.args.out.now s c.each_inner-in-And.new.out c.each_inner-in-And.result) (sym (ap (λ n. node (node_tree n) r v) c.in-And.is)) c.each_inner-in-And.ensures

pub forms::level-returns-in-Binary : goal.forms::level-returns-in-Binary
forms::level-returns-in-Binary t c =
    let r = names c.args.at.now in
    let v = c.args.at.now.input.now in
    subst (λ s. Goes c.args.out.now s c.each_inner-in-Binary.new.out c.each_inner-in-Binary.result) (sym (ap (λ n. node (node_tree n) r v) c.in-Binary.is)) c.each_inner-in-Binary.ensures

pub forms::level-returns-in-Bind : goal.forms::level-returns-in-Bind
forms::level-returns-in-Bind t c =
    let r = names c.args.at.now in
    let v = c.args.at.now.input.now in
    subst (λ s. Goes c.args.out.now s c.each_inner-in-Bind.new.out c.each_inner-in-Bind.result)
    ((λ i. over (run c.in-Bind.of r v) (λ y. run c.in-Bind.inside ((c.text-in-Bind.ensures.text i, y) ∷ r) v)) ∙ sym (ap (λ n. node (node_tree n) r v) c.in-Bind.is)) c.each_inner-in-Bind.ensures

pub forms::level-returns-in-If : goal.forms::level-returns-in-If
forms::level-returns-in-If t c =
    choose_goes c.args.out.now c.each_inner-in-If.new.out c.each_inner-in-If.result c.args.level.now c.in-If.condition c.in-If.first c.in-If.second _ _ _ _ c.in-If.is refl refl c.each_inner-in-If.ensures

pub inner::take-returns-else-is_true-want : goal.inner::take-returns-else-is_true-want
inner::take-returns-else-is_true-want t c =
    subst (λ s. Goes c.args.out.now s c.each_step-else-is_true-want.new.out c.each_step-else-is_true-want.result)
    (sym (ap (λ n. inside n c.args.at.now c.args.y.now) c.in-Decide.is ∙ other_truth c.in-Decide.want c.args.y.now c.is_true.result _ (sym c.is_true.ensures) c.if-is_true-want.false)) c.each_step-else-is_true-want.ensures

pub inner::take-returns-in-Operate : goal.inner::take-returns-in-Operate
inner::take-returns-in-Operate t c =
    subst (λ s. Goes c.args.out.now s c.each_step-in-Operate.new.out c.each_step-in-Operate.result) (sym (ap (λ n. inside n c.args.at.now c.args.y.now) c.in-Operate.is)) c.each_step-in-Operate.ensures

pub search::until-loop-x-preserved : goal.search::until-loop-x-preserved
search::until-loop-x-preserved t c =
    let f = λ (x : Value). run c.args.expr.now (names c.args.at.now) x in
    let n : ℕ = c.loop-x.x-index in
    let o = c.in_ok-values.field-0 in
    let m : n + 1 ≡ suc n = omega arith in
    let none : list_any (λ v. same_truth (is_true v) c.args.want) o.values.items ≡ false =
    ap (λ (w : List Value). list_any (λ v. same_truth (is_true v) c.args.want) w) (sym c.deref.ensures.value) ∙ sym c.has_truth.ensures ∙ c.if-has_truth.false in
    ap (λ d. ahead c.all.new.out (until c.args.want f (drop d c.args.values.now))) m
    ∙ until_on c.args.want f c.args.values.now n c.x-item.result c.loop-x.out c.all.new.out o c.loop-x-test.true c.x-item.is c.in_ok-values.ensures none c.in-Clean.is
    ∙ c.loop-x.invariant
