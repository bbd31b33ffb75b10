-- Which strands may go to another thread, and be lent to several: all where what stands on them may. A lemma for each type, by those of its
-- parts.
use denote.RattleType.{RattleType}
use denote.Param.Send.{IsSend, IsSync, sendable}
use Rattle.std.proofs.Crossing.{crosses}
use Rattle.std.proofs.option.Option.TheSendSync as option
use Rattle.swf_frames.specs.contracts.strand_id.StrandId as id
use Rattle.swf_frames.specs.contracts.stack.Children as children
use Rattle.swf_frames.specs.contracts.stack.Stack as stack
use Rattle.swf_frames.specs.contracts.forest.Forest as forest
use Rattle.swf_stack.specs.contracts.made.Stand as stand
use Rattle.swf_stack.proofs.Sends.{stand_send, stand_sync}

-- ---- whatever stands on them

pub id_send : IsSend id.the_row
id_send = search sendable depth 20

pub id_sync : IsSync id.the_row
id_sync = search sendable depth 20

pub children_inside_send : IsSend (children.the_field).row
children_inside_send = search sendable depth 20

pub children_inside_sync : IsSync (children.the_field).row
children_inside_sync = search sendable depth 20

pub stack_inside_send : (T : RattleType) → IsSend T → IsSend (stack.the_field T).row
stack_inside_send T s = search (sendable, crosses, id_send, children_inside_send, option.the_field_send) depth 20

pub stack_send : (T : RattleType) → IsSend T → IsSend (stack.the_row T)
stack_send T s = search (sendable, stack_inside_send) depth 20

pub stack_inside_sync : (T : RattleType) → IsSync T → IsSync (stack.the_field T).row
stack_inside_sync T y = search (sendable, crosses, id_sync, children_inside_sync, option.the_field_sync) depth 20

pub stack_sync : (T : RattleType) → IsSync T → IsSync (stack.the_row T)
stack_sync T y = search (sendable, stack_inside_sync) depth 20

pub forest_send : (T : RattleType) → IsSend T → IsSend (forest.the_row T)
forest_send T s = search (sendable, crosses, stack_send) depth 20

pub forest_sync : (T : RattleType) → IsSync T → IsSync (forest.the_row T)
forest_sync T y = search (sendable, crosses, stack_sync) depth 20

-- ---- those of an instance

pub strands_send : IsSend (forest.the_row stand.the_row)
strands_send = search (sendable, forest_send, stand_send) depth 20

pub strands_sync : IsSync (forest.the_row stand.the_row)
strands_sync = search (sendable, forest_sync, stand_sync) depth 20
