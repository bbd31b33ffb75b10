use Rattle.std.proofs.Common.{◌∙◌, ◌++◌, ap, refl}
use Rattle.std.specs.Prelude.{option_to_list}
use Rattle.swf_stack.specs.Kept.{context_kept, kept}
use Rattle.swf_scene.specs.Setting.{line_of, site_of}
use Rattle.swf_tasks.proofs.ChangeLemmas.{own-change}
use Rattle.swf_tasks.proofs.step.own_step.Goals as goal

pub returns : goal.returns
returns c =
    own-change (site_of c.args.scene) (line_of c.args.scene) c.args.stand.now c.in_ok-made.made c.in_ok-stand.stand c.args.strand.now c.args.depth _ c.in_ok-made.ensures refl
    (c.in_ok-stand.ensures.around ∙ ap (λ fs. option_to_list c.in_ok-made.made.frame ++ fs) (c.in_ok-kept.ensures.around ∙ ap (λ fs. kept fs c.in_ok-made.made.context) c.outer_of.ensures)) c.in_ok-stand.ensures.top
    (c.in_ok-kept.ensures.context ∙ ap (λ fs. context_kept fs c.in_ok-made.made.context) c.outer_of.ensures) refl
    (c.in_ok-strand.ensures ∙ c.as_slice.ensures) c.in_ok-number.ensures
