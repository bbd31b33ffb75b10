use Rattle.std.proofs.Common.{◌≡◌, ap, refl, sym, subst, Err, Result, IfOk}
use Rattle.swf_world.specs.Early.{IsEarlyRefusal}
use Rattle.swf_world.specs.declared.refusal.PrepareFault.{PrepareFault}
use Rattle.swf_world.specs.declared.refusal.PrepareFault.TheVariants as unready
use Rattle.swf_world.specs.declared.refusal.Refusal.{Refusal}
use Rattle.swf_engine.specs.declared.fault.EngineFault.{EngineFault}
use Rattle.swf_engine.specs.Answers.{IsSmall, unprepared}
use Rattle.swf_engine.specs.EngineCalls.{SubmitCalls}
use Rattle.swf_engine.proofs.EngineCallLemmas.{unprepared_calls}
use Rattle.swf_engine.specs.declared.engine.Submitted.{Submitted}
use Rattle.swf_engine.proofs.StepLemmas.{small_refusal}
use Rattle.swf_engine.proofs.add.append_label.Goals as goal

small_unprepared : (fault : PrepareFault) → ((r : Refusal) → fault ≡ unready.Refused r → IsEarlyRefusal r) → IfOk (unprepared fault) IsSmall
small_unprepared (unready.Refused r) early = small_refusal r (early r refl)
small_unprepared unready.OutOfMemory early = tt

pub returns-in-Err-clause-small : goal.returns-in-Err-clause-small
returns-in-Err-clause-small g c =
    subst (λ (r : Result Submitted EngineFault). IfOk r IsSmall) (sym c.not_prepared.ensures) (small_unprepared c.in-Err.fault (λ r e. c.in-Err.ensures.early r (ap Err e)))

pub returns-in-Err-clause-calls : goal.returns-in-Err-clause-calls
returns-in-Err-clause-calls g c =
    let old = g.S.Store.calls c.args.store.now in
    let at = c.args.journal.now.at in
    subst (λ (r : Result Submitted EngineFault). SubmitCalls old old at at c.args.label.now r) (sym c.not_prepared.ensures) (unprepared_calls old at at c.args.label.now c.in-Err.fault)
