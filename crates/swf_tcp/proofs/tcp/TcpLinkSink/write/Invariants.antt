use Rattle.std.proofs.Common.{◌≡◌}
use Rattle.swf_tcp.proofs.tcp.TcpLinkSink.write.Given as goal

abbrev pub invariant-loop : goal.invariant-loop
invariant-loop g l = (l.self.reads ≡ l.fn.self.reads) × (l.self.writes ≡ l.fn.self.writes)
