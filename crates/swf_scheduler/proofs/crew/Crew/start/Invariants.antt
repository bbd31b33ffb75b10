use Rattle.std.proofs.Common.{◌≡◌, ◌+◌, ◌≤◌, ◌++◌, [], length, map, All}
use Rattle.std.specs.Vec.Iter.{into_iter_items, into_iter_len}
use Rattle.swf_scheduler.specs.Rule.{most_seats}
use Rattle.swf_scheduler.proofs.crew.Crew.start.Given as goal

abbrev pub invariant-loop-seat : goal.invariant-loop-seat
invariant-loop-seat g l = record {
  order : l.yielded ++ into_iter_items l.seat-iterator ≡ into_iter_items l.initial.seat-iterator;
  rest : into_iter_len l.seat-iterator ≡ length (into_iter_items l.seat-iterator);
  nothing_offered : All (λ s. g.O.Outlet.offered s.outlet ≡ 0) (into_iter_items l.seat-iterator);
  few : length l.crew.tools + into_iter_len l.seat-iterator ≤ most_seats;
  given : l.crew.given ≡ [];
  tools : l.crew.tools ≡ map (λ s. s.tool) l.yielded;
}
