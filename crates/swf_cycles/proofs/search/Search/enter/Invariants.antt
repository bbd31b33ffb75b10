use Rattle.std.proofs.Common.{◌≡◌, drop, reverse}
use Rattle.swf_cycles.specs.Search.{with_calls}
use Rattle.swf_cycles.proofs.search.Search.enter.Given as goal

abbrev pub invariant-loop-to : goal.invariant-loop-to
invariant-loop-to l =
    (with_calls (reverse l.self.waiting.items) l.from (drop l.to-index l.called) ≡ with_calls (reverse l.fn.self.waiting.items) l.from l.called)
    × ((l.self.stages.items ≡ l.fn.self.stages.items) × ((l.self.stack.items ≡ l.fn.self.stack.items) × (l.self.starts.items ≡ l.fn.self.starts.items)))
