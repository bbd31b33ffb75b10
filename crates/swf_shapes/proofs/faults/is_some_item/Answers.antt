use Rattle.std.proofs.Common.{◌≡◌, ◌≤◌, List, [], ◌∷◌, length, refl, true, arith}
use Rattle.swf_value.specs.Value.{Value}
use Rattle.swf_value.specs.Node.{items_of}
use Rattle.swf_shapes.specs.Faults.{is_some_item}
use Rattle.swf_shapes.proofs.faults.is_some_item.Goals as goal

some_item : (ds : List Value) → 1 ≤ length ds → true ≡ is_some_item (items_of ds)
some_item [] h = absurd (omega arith)
some_item (d ∷ ds) h = refl

pub returns-in-len1-up : goal.returns-in-len1-up
returns-in-len1-up c = some_item c.args.items.now (omega arith)
