use Rattle.std.proofs.Common.{arith}
use Rattle.swf_value.proofs.Deepest.{members_found_depth}
use Rattle.swf_value.proofs.whole.found_object.Goals as goal

pub returns : goal.returns
returns c = λ ms h.
    let object = c.in_ok-value.ensures ms h in
    record { value_is = object.0; depth_is = omega (arith, c.saturating_add-depth.ensures, c.depth_of_members.ensures, members_found_depth ms c.args.members.entries h); valid = object.1 }
