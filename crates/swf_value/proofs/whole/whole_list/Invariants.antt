use Rattle.std.proofs.Common.{◌≡◌, length}
use Rattle.std.specs.Vec.Iter.{into_iter_items, into_iter_len}
use Rattle.serde_json.specs.Data as json
use Rattle.swf_value.specs.Found.{AreFound}
use Rattle.swf_value.proofs.Wholes.{ListLeft}
use Rattle.swf_value.proofs.whole.whole_list.Given as goal

abbrev pub invariant-loop-item : goal.invariant-loop-item
invariant-loop-item l =
    ((ds : json.Items) → AreFound ds l.fn.items.items → ListLeft ds l.values.items (into_iter_items l.item-iterator))
    × (into_iter_len l.item-iterator ≡ length (into_iter_items l.item-iterator))
