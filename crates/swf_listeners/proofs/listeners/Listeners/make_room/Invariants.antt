use Rattle.std.proofs.Common.{◌≡◌, ◌≤◌, ◌<◌, ℕ, List, length, true, false, get_or, map}
use Rattle.std.specs.List.{list_any}
use Rattle.std.specs.Map.Iter.{deref}
use Rattle.swf_text.specs.Same.{same}
use Rattle.swf_listeners.specs.Marks.{flags_of}
use Rattle.swf_listeners.proofs.listeners.Listeners.make_room.Given as goal

abbrev pub invariant-loop-event_type : goal.invariant-loop-event_type
invariant-loop-event_type l = record {
  wanted : l.self-inside.wanted ≡ l.initial.self-inside.wanted;
  any : l.self-inside.any ≡ l.initial.self-inside.any;
  kept : (t : List ℕ) (n : ℕ) → get_or (flags_of l.self-inside.marks t) n false ≡ get_or (flags_of l.initial.self-inside.marks t) n false;
  more : (t : List ℕ) → length (flags_of l.initial.self-inside.marks t) ≤ length (flags_of l.self-inside.marks t);
  fits : (t : List ℕ) → list_any (same t) (map deref l.yielded) ≡ true → l.number < length (flags_of l.self-inside.marks t);
}
