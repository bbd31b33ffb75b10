use Rattle.std.proofs.Common.{arith}
use Rattle.swf_scope.proofs.Lighter.{weight_argument, weight_member}
use Rattle.swf_scope.proofs.variables.+known.Goals as goal

pub arguments_known-all_known-requires : goal.arguments_known-all_known-requires
arguments_known-all_known-requires t c =
    (omega (arith, weight_argument c.args.arguments.now c.loop-argument.argument-index c.argument-item.result c.loop-argument-test.true c.argument-item.is), tt)

pub members_known-member_known-requires : goal.members_known-member_known-requires
members_known-member_known-requires t c =
    (omega (arith, weight_member c.args.members.now c.loop-member.member-index c.member-item.result c.loop-member-test.true c.member-item.is), tt)
