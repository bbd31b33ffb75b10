use Rattle.std.proofs.Common.{◌∙◌, Err, List, ap, sym, subst}
use Rattle.swf_document.specs.declared.event.Correlation.{Correlation}
use Rattle.swf_meaning.specs.Listen.{bound_by}
use Rattle.swf_scene.specs.Halts.{Gives}
use Rattle.swf_rules.proofs.ListenLemmas.{bound_by-more, bound_by-ended}
use Rattle.swf_rules.proofs.listen.bound_of.Goals as goal

pub returns-in_err-bound-2 : goal.returns-in_err-bound-2
returns-in_err-bound-2 c =
    let r = c.args.rule.now.running.now in
    bound_by-ended r.task c.args.vars.now r.input c.args.filters.now c.loop-filter.filter-index c.filter-item.result c.loop-filter.bound _ c.in_err-bound-2.field-0.0 c.from_residual-in_err-bound-2.result
    c.loop-filter-test.true c.filter-item.is c.loop-filter.invariant
    (subst (λ (cs : List Correlation). Gives (bound_by r.task c.args.vars.now r.input cs c.loop-filter.bound) (Err c.in_err-bound-2.field-0.0)) c.as_slice.ensures c.in_err-bound-2.ensures)
    c.from_residual-in_err-bound-2.ensures.1

pub loop-filter-preserved : goal.loop-filter-preserved
loop-filter-preserved c =
    let r = c.args.rule.now.running.now in
    bound_by-more r.task c.args.vars.now r.input c.args.filters.now c.loop-filter.filter-index c.filter-item.result c.loop-filter.bound c.in_ok-bound-2.bound _
    c.loop-filter-test.true c.filter-item.is c.loop-filter.invariant
    (ap (λ (cs : List Correlation). bound_by r.task c.args.vars.now r.input cs c.loop-filter.bound) (sym c.as_slice.ensures) ∙ c.in_ok-bound-2.ensures)
