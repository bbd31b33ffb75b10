use Rattle.std.proofs.Common.{◌≡◌, ◌<◌, ◌≤◌, ℕ, [], map}
use Rattle.swf_cycles.specs.Search.{state_of}
use Rattle.swf_cycles.proofs.Running.{Sound, Passed, work}
use Rattle.swf_cycles.proofs.search.calling_themselves.Given as goal

abbrev pub invariant-loop-search : goal.invariant-loop-search
invariant-loop-search l = Sound (map (λ row. row.items) l.called) (state_of l.search) × ((i : ℕ) → i ≤ l.number → Passed (state_of l.search) i)

abbrev pub decreases-loop-search : goal.decreases-loop-search
decreases-loop-search l = work (map (λ row. row.items) l.called) (state_of l.search)

abbrev pub invariant-loop-number : goal.invariant-loop-number
invariant-loop-number l =
    Sound (map (λ row. row.items) l.called) (state_of l.search) × (((state_of l.search).starts ≡ []) × ((i : ℕ) → i < l.number → Passed (state_of l.search) i))
