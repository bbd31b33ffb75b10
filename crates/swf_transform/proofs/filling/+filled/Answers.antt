use Rattle.std.proofs.Common.{arith}
use Rattle.swf_transform.proofs.Steps.{weight_template, weight_field}
use Rattle.swf_transform.proofs.filling.+filled.Goals as goal

pub filled_list-filled-requires : goal.filled_list-filled-requires
filled_list-filled-requires t c =
    (omega (arith, weight_template c.args.items.now c.loop-item.item-index c.item-item.result c.loop-item-test.true c.item-item.is), tt)

pub filled_object-filled-requires : goal.filled_object-filled-requires
filled_object-filled-requires t c =
    (omega (arith, weight_field c.args.fields.now c.loop-field.field-index c.field-item.result c.loop-field-test.true c.field-item.is), tt)
