-- The counts of links over sockets, and of who makes them.
use Rattle.std.specs.Prelude.{ℕ}
use Rattle.swf_tcp.specs.declared.tcp.TcpLink.{TcpLink}
use Rattle.swf_tcp.specs.declared.tcp.TcpDial.{TcpDial}

abbrev pub reads_of : {S : Type 0} → TcpLink S → ℕ
reads_of link = link.reads

abbrev pub writes_of : {S : Type 0} → TcpLink S → ℕ
writes_of link = link.writes

abbrev pub faults_of : {R : Type 0} → TcpDial R → ℕ
faults_of dial = dial.faults
