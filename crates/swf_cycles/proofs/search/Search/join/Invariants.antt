use Rattle.std.proofs.Common.{◌≡◌, reverse, length}
use Rattle.swf_cycles.specs.Search.{up_to}
use Rattle.swf_cycles.proofs.search.Search.join.Given as goal

abbrev pub invariant-loop-self : goal.invariant-loop-self
invariant-loop-self l =
    (up_to l.place (reverse l.self.starts.items) ≡ up_to l.place (reverse l.fn.self.starts.items))
    × ((l.self.stages.items ≡ l.fn.self.stages.items) × ((l.self.stack.items ≡ l.fn.self.stack.items) × (l.self.waiting.items ≡ l.fn.self.waiting.items)))

abbrev pub decreases-loop-self : goal.decreases-loop-self
decreases-loop-self l = length l.self.starts.items
