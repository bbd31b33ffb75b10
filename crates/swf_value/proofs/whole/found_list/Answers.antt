use Rattle.std.proofs.Common.{◌≡◌, ◌-◌, ◌^◌, min, arith}
use Rattle.serde_json.specs.Data.{items_depth}
use Rattle.swf_value.specs.Found.{deepest_item}
use Rattle.swf_value.proofs.Deepest.{items_found_depth}
use Rattle.swf_value.proofs.whole.found_list.Goals as goal

pub returns : goal.returns
returns c = λ ds h.
    let list = c.in_ok-value.ensures ds h in
    let deep : deepest_item c.deref.result.now ≡ min (items_depth ds) (2 ^ 32 - 1) = rw c.deref.ensures.value (items_found_depth ds c.args.items.items h) in
    record { value_is = list.0; depth_is = omega (arith, c.saturating_add-depth.ensures, c.depth_of_items.ensures, deep); valid = list.1 }
