use Rattle.std.proofs.Common.{◌≡◌, ◌≤◌, ◌-◌, ◌++◌, take, length, List, ℕ, Some}
use Rattle.swf_http.proofs.sink.write_all.Given as goal

abbrev pub invariant-pieces : goal.invariant-pieces
invariant-pieces g l = record {
  within : l.at ≤ length l.bytes;
  told : (before : List ℕ) → g.W.Sink.written l.fn.to ≡ Some before
      → g.W.Sink.written l.to ≡ Some (before ++ take l.at l.bytes);
  faults : g.W.Sink.write_faults l.to ≡ g.W.Sink.write_faults l.fn.to;
  kept : g.W.Sink.kept l.to ≡ g.W.Sink.kept l.fn.to;
}

abbrev pub decreases-pieces : goal.decreases-pieces
decreases-pieces g l = length l.bytes - l.at
