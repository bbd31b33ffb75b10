use Rattle.std.proofs.Common.{◌≡◌, ◌∙◌, List, sym, subst, ap}
use Rattle.std.specs.Prelude.{All}
use Rattle.swf_store.specs.declared.image.Image.{Image}
use Rattle.swf_store.specs.Images.{images_of}
use Rattle.swf_store.specs.Memory.{state_after}
use Rattle.swf_store.specs.Replay.{IsLeft}
use Rattle.swf_store.proofs.Harmed.{images_are_left}
use Rattle.swf_store.proofs.memory.MemoryStore.images.Goals as goal

pub returns-clause-left : goal.returns-clause-left
returns-clause-left c =
    let state = state_after c.args.self.now c.args.after in
    let is : c.in_ok-images.field-0.items ≡ images_of state = c.in_ok-images.ensures ∙ ap images_of c.in_ok-files.ensures in
    subst (λ (l : List Image). All (IsLeft state) l) (sym is) (images_are_left state)
