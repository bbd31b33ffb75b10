use Rattle.std.proofs.Common.{◌∙◌, sym, subst}
use Rattle.std.proofs.lemmas.Option.{slice_get_within}
use Rattle.swf_meaning.specs.declared.label.Label.TheVariants.{Step}
use Rattle.swf_instances.specs.Queued.{CanGoAt}
use Rattle.swf_world.specs.Parts.{world_of}
use Rattle.swf_world.specs.Prepares.{IsPreparedStep}
use Rattle.swf_world.proofs.NextLemmas.{prepared_there}
use Rattle.swf_world.proofs.world.World.step_at.Goals as goal

pub at-requires : goal.at-requires
at-requires c =
    let p = subst (λ h. CanGoAt h.world.now h.world.instances c.args.number c.args.strand) (sym c.self.view_is) c.requires in
    slice_get_within c.self.inside.instances.instances c.args.number p.0 p.1

pub step_change-requires : goal.step_change-requires
step_change-requires c = subst (λ h. CanGoAt h.world.now h.world.instances c.args.number c.args.strand) (sym c.self.view_is) c.requires

pub returns : goal.returns
returns c =
    let w = world_of c.self.inside in
    let n = c.args.number in
    let strand = c.args.strand in
    let p = subst (λ h. CanGoAt h.world.now h.world.instances n strand) (sym c.self.view_is) c.requires in
    subst (λ h. IsPreparedStep h.world (Step c.in_ok-id.id strand, c.in_ok-change.change)) c.self.view_is
    (prepared_there w c.in_ok-id.id strand n c.at.result.now c.in_ok-change.change p (c.in_ok-id.ensures ∙ c.id.ensures) c.at.ensures.alone c.at.ensures.there c.in_ok-change.ensures)
