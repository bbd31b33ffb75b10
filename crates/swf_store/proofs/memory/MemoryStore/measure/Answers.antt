use Rattle.std.proofs.Common.{◌∙◌, List, ℕ, length, ap}
use Rattle.swf_store.specs.declared.image.Image.{Image}
use Rattle.swf_store.specs.Files.{bytes_of}
use Rattle.swf_store.proofs.memory.MemoryStore.measure.Goals as goal

pub returns-clause-size : goal.returns-clause-size
returns-clause-size c =
    let file = c.args.file in
    ap (λ (l : List ℕ). length l) (c.file.ensures ∙ ap (λ (i : Image). bytes_of i file) (c.image.ensures ∙ c.list.ensures.same))
