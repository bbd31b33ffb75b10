use Rattle.std.proofs.Common.{◌≡◌, ◌∷◌, [], ◌++◌, length, length-append, map, ap, sym, ◌∙◌, append_assoc, append-nil, arith}
use Rattle.std.specs.Vec.Iter.{into_iter_items}
use Rattle.std.proofs.lemmas.List.Elements.{All-rest}
use Rattle.swf_scheduler.specs.declared.work.Seat.{Seat}
use Rattle.swf_scheduler.proofs.Crews.{map_append, no_items}
use Rattle.swf_scheduler.proofs.crew.Crew.start.Goals as goal

pub loop-seat-preserved : goal.loop-seat-preserved
loop-seat-preserved g c =
    let at = c.loop-seat in
    let steps : into_iter_items at.seat-iterator ≡ c.in-Some.seat ∷ into_iter_items c.next.new.self = c.in-Some.ensures.steps.0 in
    let short = c.in-Some.ensures.steps.1 in
    let l = ap length steps in
    let r = at.invariant.rest in
    let few = at.invariant.few in
    let tools = c.in-Ok.ensures.tools in
    let longer = ap length tools in record {
      order = append_assoc at.yielded (c.in-Some.seat ∷ []) _ ∙ rw (← steps) at.invariant.order;
      rest = omega arith;
      nothing_offered = All-rest (λ (s : Seat g.row.W.Denot g.row.O.Denot g.row.W-Tool.Denot g.row.W-Done.Denot). g.O.Outlet.offered s.outlet ≡ 0) c.in-Some.seat _ _ steps at.invariant.nothing_offered;
      few = omega (arith, length-append at.crew.tools (c.in-Some.seat.tool ∷ []));
      given = c.in-Ok.ensures.given ∙ at.invariant.given;
      tools = tools ∙ ap (λ l. l ++ c.in-Some.seat.tool ∷ []) at.invariant.tools ∙ sym (map_append (λ (s : Seat g.row.W.Denot g.row.O.Denot g.row.W-Tool.Denot g.row.W-Done.Denot). s.tool) at.yielded (c.in-Some.seat ∷ []));
    }

pub returns-clause-tools : goal.returns-clause-tools
returns-clause-tools g c =
    let at = c.loop-seat in
    let none = c.in-None.ensures.steps in
    let empty : into_iter_items at.seat-iterator ≡ [] = no_items _ (sym at.invariant.rest ∙ none.0) in
    let all = sym (append-nil at.yielded) ∙ rw empty at at.invariant.order ∙ c.into_iter-seat-iterator.ensures.into_iter_gives.0 in
    at.invariant.tools ∙ ap (map (λ (s : Seat g.row.W.Denot g.row.O.Denot g.row.W-Tool.Denot g.row.W-Done.Denot). s.tool)) all
