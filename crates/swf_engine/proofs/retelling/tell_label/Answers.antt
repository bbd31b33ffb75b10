use Rattle.std.proofs.Common.{sym, subst, refl, List, [], ◌∷◌, ◌++◌, arith}
use Rattle.swf_value.specs.Value.{Value}
use Rattle.swf_engine.specs.Retelling.{IsTold}
use Rattle.swf_engine.proofs.RetellLemmas.{told_more, told_enough}
use Rattle.swf_engine.proofs.retelling.tell_label.Goals as goal

pub returns-in_ok-push : goal.returns-in_ok-push
returns-in_ok-push c = λ place labels t.
    subst (λ (vs : List Value). IsTold place (labels ++ c.args.label.now ∷ []) c.args.told.now.pass vs) (sym c.in_ok-push.ensures.items)
    (told_more place labels c.args.label.now c.args.told.now.pass c.args.told.now.pass c.args.told.now.values.items _ t (omega arith) refl (omega arith) c.in_ok-print_label.ensures)

pub returns-else-len-lt-MOST_TOLD : goal.returns-else-len-lt-MOST_TOLD
returns-else-len-lt-MOST_TOLD c = λ place labels t.
    told_enough place labels c.args.label.now c.args.told.now.pass c.args.told.now.pass c.args.told.now.values.items t (omega arith) refl (omega arith)
