use Rattle.swf_value.proofs.OrderLaws.{order_laws}
use Rattle.swf_value.proofs.order.order_laws.Goals as goal

pub returns : goal.returns
returns c = order_laws
