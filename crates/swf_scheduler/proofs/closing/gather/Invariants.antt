use Rattle.std.proofs.Common.{◌≡◌, ◌+◌, ◌≤◌, ◌++◌, length, map, All, vec_len, vec_capacity}
use Rattle.std.specs.Vec.Iter.{into_iter_items, into_iter_len}
use Rattle.crossbeam_channel.specs.Claims.{view, IsSeatAt}
use Rattle.crossbeam_channel.specs.Ends.{sends_on}
use Rattle.swf_scheduler.specs.Hired.{tool_of, IsOn}
use Rattle.swf_scheduler.specs.Gathering.{Gathered}
use Rattle.swf_scheduler.proofs.closing.gather.Given as goal

abbrev pub invariant-loop-one : goal.invariant-loop-one
invariant-loop-one g l = record {
  order : l.yielded ++ into_iter_items l.one-iterator ≡ into_iter_items l.initial.one-iterator;
  rest : into_iter_len l.one-iterator ≡ length (into_iter_items l.one-iterator);
  bound : All (IsOn g.W.Work.gives g.O.Outlet.offered (sends_on l.to)) (into_iter_items l.one-iterator);
  channel : IsSeatAt (sends_on l.to) l.pass;
  gathered : Gathered g.W.Work.gives g.O.Outlet.offered (map tool_of l.yielded) l.seats.items l.taken.items (view l.initial.pass) (view l.pass);
  room : (vec_len l.seats + into_iter_len l.one-iterator ≤ vec_capacity l.seats) × (vec_len l.taken + into_iter_len l.one-iterator ≤ vec_capacity l.taken);
}
