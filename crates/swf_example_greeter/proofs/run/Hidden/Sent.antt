-- The greeter may go to another thread.
use denote.Param.Send.{sendable}
use denote.Param.Sent.{Sends}
use Rattle.std.proofs.Crossing.{crosses}
use Rattle.swf_connect.proofs.Sends.{asked_send}
use Rattle.swf_example_greeter.proofs.run.OwnLists.{part-1-1}

pub sends-part-1-1 : Sends part-1-1
sends-part-1-1 = search (sendable, crosses, asked_send) depth 12
