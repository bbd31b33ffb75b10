use Rattle.std.proofs.Common.{◌∙◌, ap, sym, subst, true, false}
use Rattle.swf_meaning.specs.Answer.{instance_at}
use Rattle.swf_meaning.specs.Strands.{can_go}
use Rattle.swf_instances.specs.Queued.{CanGoAt}
use Rattle.swf_instances.proofs.Lookups.{instance_unnumbered, number_within}
use Rattle.swf_world.specs.Parts.{world_of}
use Rattle.swf_world.specs.Prepares.{StepsFirst}
use Rattle.swf_world.specs.Refusals.{refusal_of_step}
use Rattle.swf_world.proofs.Checks.{step_refusal, steps_first}
use Rattle.swf_world.proofs.world.World.steppable.Goals as goal

pub returns-in_default-clause-refused : goal.returns-in_default-clause-refused
returns-in_default-clause-refused c =
    sym (ap (refusal_of_step c.self.inside.instances.moment c.args.strand.now) (instance_unnumbered c.args.id.now c.self.inside.instances.instances (sym c.number_of.ensures ∙ c.in_default.is)))
    ∙ ap (λ h. refusal_of_step h.world.now c.args.strand.now (instance_at c.args.id.now h.world.instances)) c.self.view_is

pub at-requires : goal.at-requires
at-requires c = number_within c.args.id.now c.self.inside.instances.instances c.in-Some.number (sym c.number_of.ensures ∙ c.in-Some.is)

pub returns-then-enabled-clause-refused : goal.returns-then-enabled-clause-refused
returns-then-enabled-clause-refused c =
    sym (step_refusal (world_of c.self.inside) c.args.id.now c.args.strand.now c.in-Some.number c.at.result.now true (sym c.number_of.ensures ∙ c.in-Some.is) c.at.ensures.there (sym c.if-enabled.true ∙ c.enabled.ensures ∙ ap (λ m. can_go m c.args.strand.now c.at.result.now.node) (c.now.ensures ∙ sym (ap (λ h. h.world.now) c.self.view_is))))
    ∙ ap (λ h. refusal_of_step h.world.now c.args.strand.now (instance_at c.args.id.now h.world.instances)) c.self.view_is

pub returns-then-enabled-clause-can : goal.returns-then-enabled-clause-can
returns-then-enabled-clause-can c =
    let i = c.at.result.now in
    let strand = c.args.strand.now in
    let can = sym c.enabled.ensures ∙ c.if-enabled.true in
    subst (λ h. CanGoAt h.world.now h.world.instances c.in-Some.number strand) c.self.view_is
    (i, c.at.ensures.there, ap (λ m. can_go m strand i.node) (ap (λ h. h.world.now) c.self.view_is ∙ sym c.now.ensures) ∙ can)

pub returns-then-enabled-clause-first : goal.returns-then-enabled-clause-first
returns-then-enabled-clause-first c =
    let w = world_of c.self.inside in
    let n = c.in-Some.number in
    let found = sym c.number_of.ensures ∙ c.in-Some.is in
    subst (λ h. StepsFirst h.world c.args.id.now c.args.strand.now n) c.self.view_is
    (steps_first w c.args.id.now c.args.strand.now n found (number_within c.args.id.now w.instances n found))

pub returns-else-enabled-clause-refused : goal.returns-else-enabled-clause-refused
returns-else-enabled-clause-refused c =
    sym (step_refusal (world_of c.self.inside) c.args.id.now c.args.strand.now c.in-Some.number c.at.result.now false (sym c.number_of.ensures ∙ c.in-Some.is) c.at.ensures.there (sym c.if-enabled.false ∙ c.enabled.ensures ∙ ap (λ m. can_go m c.args.strand.now c.at.result.now.node) (c.now.ensures ∙ sym (ap (λ h. h.world.now) c.self.view_is))))
    ∙ ap (λ h. refusal_of_step h.world.now c.args.strand.now (instance_at c.args.id.now h.world.instances)) c.self.view_is
