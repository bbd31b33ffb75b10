-- The fields of a host in memory.
use Rattle.std.specs.Prelude.{length}
use Rattle.swf_host.specs.declared.memory_host.MemoryHost.TheInside.{Inside}
use Rattle.swf_host.specs.Hosted.{Hosted, SaidBy}
use Rattle.swf_host.specs.Script.{play}

abbrev pub hosted_view : {G W : Type 0} → Inside G W → Hosted G W
hosted_view host = record { play = play host.script; store = host.store }

-- no piece was said after more calls than were made
abbrev pub IsHosted : {G W : Type 0} → Inside G W → Type 0
IsHosted host = SaidBy (length host.store.calls) host.script.said.items
