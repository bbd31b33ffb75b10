use Rattle.std.proofs.Common.{arith}
use Rattle.swf_scope.proofs.Lighter.{weight_item, weight_field}
use Rattle.swf_scope.proofs.expressions.+templates.Goals as goal

pub list_items-template-requires : goal.list_items-template-requires
list_items-template-requires t c =
    (omega (arith, weight_item c.args.items.now c.loop-position.position c.index-items-position.result c.loop-position-test.true c.index-items-position.is), tt)

pub fields-template-requires : goal.fields-template-requires
fields-template-requires t c =
    (omega (arith, weight_field c.args.given.now c.loop-field.field-index c.field-item.result c.loop-field-test.true c.field-item.is), tt)
