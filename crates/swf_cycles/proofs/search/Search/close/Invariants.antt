use Rattle.std.proofs.Common.{◌≡◌, drop}
use Rattle.swf_cycles.specs.Search.{all_closed}
use Rattle.swf_cycles.proofs.search.Search.close.Given as goal

abbrev pub invariant-loop-place : goal.invariant-loop-place
invariant-loop-place l =
    (all_closed l.self.stages.items (drop l.place l.self.stack.items) l.itself ≡ all_closed l.fn.self.stages.items (drop l.start l.fn.self.stack.items) l.itself)
    × ((l.self.stack.items ≡ l.fn.self.stack.items) × ((l.self.starts.items ≡ l.fn.self.starts.items) × (l.self.waiting.items ≡ l.fn.self.waiting.items)))
