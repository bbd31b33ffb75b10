use Rattle.std.proofs.Common.{◌≡◌, sym, subst, refl, ℕ, true, slice_get, Some}
use Rattle.std.proofs.lemmas.Option.{slice_get_within}
use Rattle.swf_meaning.specs.Strands.{can_go}
use Rattle.swf_tasks.specs.Prepares.{IsPrepared}
use Rattle.swf_world.specs.Changes.{IsReady}
use Rattle.swf_world.specs.Prepares.{IsSent, IsStepping}
use Rattle.swf_world.proofs.StepLemmas.{can_there, prepared_ready}
use Rattle.swf_world.proofs.step.step_change.Goals as goal

pub at-instance-requires : goal.at-instance-requires
at-instance-requires c = slice_get_within c.args.instances.now.instances c.args.number c.requires.0 c.requires.1

pub prepare-requires : goal.prepare-requires
prepare-requires c =
    subst (λ m. can_go m c.args.strand.now c.at-instance.result.now.node ≡ true) (sym c.moment-now.ensures)
    (can_there c.args.instances.now.moment c.args.instances.now.instances c.args.number c.args.strand.now c.at-instance.result.now c.requires c.at-instance.ensures.there)

pub returns : goal.returns
returns c =
    let is = c.args.instances.now.instances in
    let now = c.args.instances.now.moment in
    let ds = c.args.documents.now.documents in
    let n = c.args.number in
    let strand = c.args.strand.now in
    let i = c.at-instance.result.now in
    let p = c.in_ok-prepared.prepared in
    let q = c.in_ok-prepared-2.prepared in
    let prepared = subst (λ (m : ℕ). IsPrepared m ds strand i p) c.moment-now.ensures c.in_ok-prepared.ensures in
    let offered = c.in_ok-prepared-2.ensures in
    let there : slice_get is n ≡ Some i = c.at-instance.ensures.there in
    let ready : IsReady now ds n strand is q = prepared_ready now ds n strand is i p q there prepared offered.0 offered.1 offered.2 in
    let sent = subst (λ o. IsSent n o is c.in_ok-heard.heard.items) (sym offered.2) c.in_ok-heard.ensures in
    subst (IsStepping now ds n strand is) (sym c.untold.ensures) (record { steps = (refl, ready, sent); taken = refl })
