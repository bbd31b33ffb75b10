use Rattle.std.proofs.Common.{◌∙◌, ◌-◌, ◌++◌, List, ℕ, length, take, drop, min, ap}
use Rattle.swf_store.specs.declared.image.Image.{Image}
use Rattle.swf_store.specs.Files.{bytes_of}
use Rattle.swf_store.proofs.memory.MemoryStore.read.Goals as goal

pub returns-clause-count : goal.returns-clause-count
returns-clause-count c =
    let file = c.args.file in
    c.copy_from.ensures.count
    ∙ ap (λ (l : List ℕ). min (length c.args.into.now) (length l - c.args.at)) (c.file.ensures ∙ ap (λ (i : Image). bytes_of i file) (c.image.ensures ∙ c.list.ensures.same))

pub returns-clause-bytes : goal.returns-clause-bytes
returns-clause-bytes c =
    let file = c.args.file in
    c.copy_from.ensures.bytes
    ∙ ap (λ (l : List ℕ). take c.copy_from.result (drop c.args.at l) ++ drop c.copy_from.result c.args.into.now) (c.file.ensures ∙ ap (λ (i : Image). bytes_of i file) (c.image.ensures ∙ c.list.ensures.same))
