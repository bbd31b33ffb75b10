use Rattle.std.proofs.Common.{◌≡◌, ◌∙◌, ap, sym, arith, false, true, Some}
use Rattle.swf_meaning.specs.Shared.{is_shared}
use Rattle.swf_meaning.specs.Strands.{can_go}
use Rattle.swf_meaning.specs.World.{Instance}
use Rattle.swf_tasks.proofs.AdvanceLemmas.{so_far, goes_on, finished, used_up, on_err, step_some, shared_none, still_none}
use Rattle.swf_tasks.proofs.machine.Machine.advance.Goals as goal

pub returns-in_err-prepared-clause-err : goal.returns-in_err-prepared-clause-err
returns-in_err-prepared-clause-err c = on_err c.from_residual.result (c.loop-steps.steps, so_far c.args.site.now c.args.site.documents.now.documents c.args.strand.now c.loop-steps.steps c.args.self.now c.loop-steps.self c.loop-steps.invariant.1)

pub loop-steps-preserved : goal.loop-steps-preserved
loop-steps-preserved c =
    let now = c.args.site.now in
    let ds = c.args.site.documents.now.documents in
    let bs = c.args.strand.now in
    let i = c.loop-steps.self in
    let x = c.in_ok-prepared.prepared.emitted in
    let alone : is_shared bs i.node ≡ false = sym c.is_shared.ensures ∙ c.if-not-is_shared.true in
    let step = c.in_ok-prepared.ensures.step ∙ ap (λ (j : Instance). Some (j, x)) (sym c.take.ensures.changed) in (
      omega (arith, c.loop-steps-test.true),
      goes_on now ds bs c.loop-steps.steps c.args.self.now i c.take.new.self c.loop-steps.invariant.1 (step_some now ds bs i c.take.new.self x alone step),
    )

pub returns-else-enabled-clause-ok : goal.returns-else-enabled-clause-ok
returns-else-enabled-clause-ok c =
    let now = c.args.site.now in
    let ds = c.args.site.documents.now.documents in
    let bs = c.args.strand.now in
    let i = c.loop-steps.self in
    let alone : is_shared bs i.node ≡ false = sym c.is_shared.ensures ∙ c.if-not-is_shared.true in
    let still : can_go now bs i.node ≡ false = sym c.enabled.ensures ∙ c.if-enabled.false in
    sym (finished now ds bs c.loop-steps.steps c.args.fuel c.args.self.now i c.loop-steps.invariant.0 c.loop-steps.invariant.1 (still_none now ds bs i alone still))

pub returns-else-not-is_shared-clause-ok : goal.returns-else-not-is_shared-clause-ok
returns-else-not-is_shared-clause-ok c =
    let now = c.args.site.now in
    let ds = c.args.site.documents.now.documents in
    let bs = c.args.strand.now in
    let i = c.loop-steps.self in
    let shared : is_shared bs i.node ≡ true = sym c.is_shared.ensures ∙ c.if-not-is_shared.false in
    sym (finished now ds bs c.loop-steps.steps c.args.fuel c.args.self.now i c.loop-steps.invariant.0 c.loop-steps.invariant.1 (shared_none now ds bs i shared))

pub returns-after-loop-steps-clause-ok : goal.returns-after-loop-steps-clause-ok
returns-after-loop-steps-clause-ok c =
    sym (used_up c.args.site.now c.args.site.documents.now.documents c.args.strand.now c.loop-steps.steps c.args.fuel c.args.self.now c.loop-steps.self c.loop-steps.invariant.0 (omega (arith, c.loop-steps-test.false)) c.loop-steps.invariant.1)
