use Rattle.std.proofs.Common.{ap, sym, subst, Err, List, ◌++◌, take, append-nil, arith}
use Rattle.std.proofs.lemmas.List.{take_all}
use Rattle.swf_meaning.specs.declared.label.Label.{Label}
use Rattle.swf_record.specs.Encodes.{Encodes}
use Rattle.swf_engine.specs.Retelling.{IsTold}
use Rattle.swf_engine.proofs.ReplayLemmas.{bad_within}
use Rattle.swf_engine.proofs.RetellLemmas.{told_step}
use Rattle.swf_engine.proofs.retelling.tell_body.Goals as goal

pub overflow_add-result-in-Err-Bad : goal.overflow_add-result-in-Err-Bad
overflow_add-result-in-Err-Bad c = omega (arith, c.requires, bad_within c.args.body.now c.in-Err-Bad.at (c.in-Err-Bad.ensures.bad c.in-Err-Bad.at (ap Err c.in-Err-Bad.field-0-is)))

pub loop-label-init : goal.loop-label-init
loop-label-init c = λ place before t. subst (λ (ls : List Label). IsTold place ls c.args.told.now.pass c.args.told.now.values.items) (sym (append-nil before)) t

pub loop-label-preserved : goal.loop-label-preserved
loop-label-preserved c = λ place before t.
    let l = c.loop-label in
    told_step place before c.as_slice-label-items.result.now l.label-index c.label-item.result c.tell_label.new.told.pass c.tell_label.new.told.values.items (omega arith) c.label-item.is
    (c.in_ok-tell_label.ensures place (before ++ take l.label-index c.as_slice-label-items.result.now) (l.invariant place before t))

pub returns-clause-ok : goal.returns-clause-ok
returns-clause-ok c =
    let l = c.loop-label in
    let all = c.as_slice-label-items.result.now in
    let e : Encodes all c.args.body.now = subst (λ (ls : List Label). Encodes ls c.args.body.now) (sym c.as_slice-label-items.ensures.value) c.in-Ok.ensures.encodes in
    (all, e, λ place before t. subst (λ (ls : List Label). IsTold place (before ++ ls) l.told.pass l.told.values.items) (take_all l.label-index all (omega arith)) (l.invariant place before t))
