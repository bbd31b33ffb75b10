-- How many calls of a host without a store have failed: its own, and those of a store.
use Rattle.std.specs.Prelude.{ℕ}
use Rattle.swf_check.specs.declared.host.WholeHost.{WholeHost}

abbrev pub own_faults : {R W : Type 0} → WholeHost R W → ℕ
own_faults host = host.faults

abbrev pub missed : {R W : Type 0} → WholeHost R W → ℕ
missed host = host.missed
