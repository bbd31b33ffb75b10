use Rattle.std.proofs.Common.{◌≡◌, ℕ, List, cond, map}
use Rattle.std.proofs.Math.ListN.{set}
use Rattle.std.specs.List.{list_any}
use Rattle.std.specs.Map.Iter.{deref}
use Rattle.swf_text.specs.Same.{same}
use Rattle.swf_listeners.specs.Marks.{flags_of}
use Rattle.swf_listeners.proofs.marks.Marks.mark_all.Given as goal

abbrev pub invariant-loop-event_type : goal.invariant-loop-event_type
invariant-loop-event_type l = (t : List ℕ) → flags_of l.self t ≡ cond (list_any (same t) (map deref l.yielded)) (set (flags_of l.initial.self t) l.number l.wanted) (flags_of l.initial.self t)
