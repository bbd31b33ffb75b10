use Rattle.std.proofs.Common.{◌≡◌, ◌∙◌, ap}
use Rattle.swf_store.specs.declared.image.Image.{Image}
use Rattle.swf_store.specs.Images.{harmed_by}
use Rattle.swf_store.specs.Replay.{and_write, whole}
use Rattle.swf_store.proofs.Harmed.{with_harm_is}
use Rattle.swf_store.proofs.replay.harmed_image.Goals as goal

pub returns : goal.returns
returns c =
    let before = c.args.before.now in
    let change = c.args.change.now in
    let after = c.args.after.now in
    let harm = c.args.harm in
    let first : c.write_all.new.image ≡ whole c.args.synced.now before =
    c.in_ok-write_all.ensures ∙ ap (λ (i : Image). whole i before) c.in_ok-image.ensures in
    c.in_ok-write_all-2.ensures
    ∙ ap (λ (i : Image). whole i after) (c.in_ok-write_harmed.ensures ∙ ap (λ (i : Image). and_write i (harmed_by harm change)) first)
    ∙ with_harm_is c.args.synced.now before change after harm
