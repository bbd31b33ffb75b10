use Rattle.std.proofs.Common.{◌≡◌, ◌-◌, ◌≤◌, length, take, All, false}
use Rattle.swf_connect.proofs.switchboard.Switchboard.perform.Given as goal

abbrev pub invariant-connectors : goal.invariant-connectors
invariant-connectors g l = record {
  same : l.self.connectors.items ≡ l.fn.self.connectors.items;
  within : l.place ≤ length l.self.connectors.items;
  none : All (λ b. (goal.Connector-dyn g (b.vtable, b.value)).is_for b.value l.request ≡ false) (take l.place l.self.connectors.items);
}

abbrev pub decreases-connectors : goal.decreases-connectors
decreases-connectors g l = length l.self.connectors.items - l.place
