use Rattle.std.proofs.Common.{◌≡◌, ◌∙◌, ◌<◌, ◌≤◌, ◌+◌, ℕ, List, suc, drop, ap, sym, subst, Ok, Err, get_or, length, arith}
use Rattle.std.proofs.lemmas.Result.{err_from_is_err_and}
use Rattle.swf_value.specs.Value.{Value}
use Rattle.swf_jq_eval.specs.declared.outputs.Stop.{Stop}
use Rattle.swf_evaluation.specs.Run.{each}
use Rattle.swf_jq_eval.specs.Goes.{Goes, ending_of, ahead}
use Rattle.swf_jq_eval.proofs.Runs.{each_on, each_out, each_stop, each_end, goes_from}
use Rattle.swf_jq_eval.proofs.outputs.each.Goals as goal

pub loop-x-preserved : goal.loop-x-preserved
loop-x-preserved g c = λ k h.
    let n : ℕ = c.loop-x.x-index in
    let x : Value = c.x-item.result in
    let q : x ≡ get_or c.args.outer.values.items n x = c.x-item.is ∙ ap (λ (l : List Value). get_or l n x) c.deref-x-items.ensures.value in
    let l : n < length c.args.outer.values.items = subst (λ (vs : List Value). n < length vs) c.deref-x-items.ensures.value c.loop-x-test.true in
    let m : n + 1 ≡ suc n = omega arith in
    ap (λ d. ahead c.f.new.arg3 (each k (drop d c.args.outer.values.items) (ending_of c.args.outer.end))) m
    ∙ each_on k c.args.outer.values.items n (ending_of c.args.outer.end) c.loop-x.out c.f.new.arg3 x l q
    (subst (λ r. Goes c.loop-x.out (k x) c.f.new.arg3 r) (c.in_ok-f.was ∙ ap Ok c.in-Clean.is) (h _ _ _ _ c.f.ensures))
    ∙ c.loop-x.invariant k h

pub returns : goal.returns
returns g c = λ k h. ap (ahead c.loop-x.out) (each_end k c.args.outer.values.items c.loop-x.x-index (ending_of c.args.outer.end) (subst (λ (vs : List Value). length vs ≤ c.loop-x.x-index) c.deref-x-items.ensures.value c.loop-x-test.false)) ∙ c.loop-x.invariant k h

pub returns-in-Raised : goal.returns-in-Raised
returns-in-Raised g c = λ k h.
    let n : ℕ = c.loop-x.x-index in
    let x : Value = c.x-item.result in
    let q : x ≡ get_or c.args.outer.values.items n x = c.x-item.is ∙ ap (λ (l : List Value). get_or l n x) c.deref-x-items.ensures.value in
    let l : n < length c.args.outer.values.items = subst (λ (vs : List Value). n < length vs) c.deref-x-items.ensures.value c.loop-x-test.true in
    each_out k c.args.outer.values.items n (ending_of c.args.outer.end) c.loop-x.out c.f.new.arg3 x c.in-Raised.error l q
    (subst (λ r. Goes c.loop-x.out (k x) c.f.new.arg3 r) (c.in_ok-f.was ∙ ap Ok c.in-Raised.is) (h _ _ _ _ c.f.ensures))
    ∙ c.loop-x.invariant k h

pub returns-in_err-f : goal.returns-in_err-f
returns-in_err-f g c = λ k h.
    let n : ℕ = c.loop-x.x-index in
    let x : Value = c.x-item.result in
    let xs : List Value = c.args.outer.values.items in
    let e = ending_of c.args.outer.end in
    let q : x ≡ get_or xs n x = c.x-item.is ∙ ap (λ (l : List Value). get_or l n x) c.deref-x-items.ensures.value in
    let l : n < length xs = subst (λ (vs : List Value). n < length vs) c.deref-x-items.ensures.value c.loop-x-test.true in
    let s : Stop = c.in_err-f.field-0.0 in
    let same = err_from_is_err_and c.from_residual.result c.from_residual.ensures.1 in
    subst (λ r. Goes c.args.out.now (each k xs e) c.f.new.arg3 r) (sym (same.1 ∙ ap Err same.2))
    (goes_from c.args.out.now c.loop-x.out c.f.new.arg3 (each k xs e) (each k (drop n xs) e) (Err s) (c.loop-x.invariant k h)
    (each_stop k xs n e c.loop-x.out c.f.new.arg3 x s l q (subst (λ r. Goes c.loop-x.out (k x) c.f.new.arg3 r) c.in_err-f.was (h _ _ _ _ c.f.ensures))))
