use Rattle.std.proofs.Common.{◌≡◌, ◌∙◌, ap, sym, subst, List, Ok, Err, arith}
use Rattle.swf_meaning.specs.declared.label.Label.{Label}
use Rattle.swf_record.specs.Decodes.{decoded}
use Rattle.swf_record.specs.Encodes.{Encodes}
use Rattle.swf_engine.specs.Reading.{IsTaken}
use Rattle.swf_engine.proofs.ReplayLemmas.{bad_within, nests_first, place_first, replayed_one, illegal_label}
use Rattle.swf_engine.proofs.replay.replay.Goals as goal

pub overflow_add-result-in-Err-Bad : goal.overflow_add-result-in-Err-Bad
overflow_add-result-in-Err-Bad c = omega (arith, c.requires, bad_within c.args.body.now c.in-Err-Bad.at (c.in-Err-Bad.ensures.bad c.in-Err-Bad.at (ap Err c.in-Err-Bad.field-0-is)))

pub illegal-requires-clause-nest : goal.illegal-requires-clause-nest
illegal-requires-clause-nest c =
    let e : Encodes c.as_slice-labels.result.now c.args.body.now = subst (λ (l : List Label). Encodes l c.args.body.now) (sym c.as_slice-labels.ensures.value) c.in-Ok.ensures.encodes in
    nests_first c.as_slice-labels.result.now c.loop-number.number e.fit

pub illegal-requires-clause-fits : goal.illegal-requires-clause-fits
illegal-requires-clause-fits c =
    let e : Encodes c.as_slice-labels.result.now c.args.body.now = subst (λ (l : List Label). Encodes l c.args.body.now) (sym c.as_slice-labels.ensures.value) c.in-Ok.ensures.encodes in
    omega (arith, c.requires, place_first c.as_slice-labels.result.now c.args.body.now c.loop-number.number e)

pub loop-number-preserved : goal.loop-number-preserved
loop-number-preserved c =
    let taken = subst (λ b. IsTaken b c.loop-number.world.world c.index-labels-number.result c.take_label.new.world.world) c.if-not-branch.false c.in_ok-take_label.ensures.taken in
    replayed_one c.args.world.now.world c.loop-number.world.world c.take_label.new.world.world c.as_slice-labels.result.now c.loop-number.number c.index-labels-number.result
    c.loop-number-test.true c.index-labels-number.is c.loop-number.invariant taken

pub returns-then-not-branch-clause-damaged : goal.returns-then-not-branch-clause-damaged
returns-then-not-branch-clause-damaged c = λ at is.
    let taken = subst (λ b. IsTaken b c.loop-number.world.world c.index-labels-number.result c.take_label.new.world.world) c.if-not-branch.true c.in_ok-take_label.ensures.taken in
    let spelled : decoded c.args.body.now ≡ Ok c.as_slice-labels.result.now = c.in-Ok.ensures.ok ∙ ap Ok (sym c.as_slice-labels.ensures.value) in
    illegal_label c.args.world.now.world c.loop-number.world.world c.args.gate c.args.body.now c.as_slice-labels.result.now c.loop-number.number c.index-labels-number.result at c.illegal.result
    c.loop-number-test.true c.index-labels-number.is spelled c.loop-number.invariant taken.0 c.illegal.ensures (cc)
