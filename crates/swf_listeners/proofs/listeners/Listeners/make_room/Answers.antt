use Rattle.std.proofs.Common.{◌∙◌, ◌∷◌, [], ap, sym, map, arith}
use Rattle.std.proofs.lemmas.List.{map-append}
use Rattle.std.proofs.lemmas.Map.Iter.{iter_end}
use Rattle.std.specs.List.{list_any}
use Rattle.std.specs.Map.Iter.{deref}
use Rattle.swf_text.specs.Same.{same}
use Rattle.swf_listeners.specs.Listeners.{places_of}
use Rattle.swf_listeners.specs.Wanted.{has}
use Rattle.swf_listeners.proofs.MarkLemmas.{fits_more, places_are}
use Rattle.swf_listeners.proofs.listeners.Listeners.make_room.Goals as goal

pub loop-event_type-preserved : goal.loop-event_type-preserved
loop-event_type-preserved c =
    let invariant = c.loop-event_type.invariant in
    let x = c.in-Some.event_type in
    record {
      wanted = invariant.wanted;
      any = invariant.any;
      kept = λ t n. c.make_room.ensures.same t n ∙ invariant.kept t n;
      more = λ t. omega (arith, invariant.more t, c.make_room.ensures.more t);
      fits = λ t e. fits_more c.loop-event_type.self-inside.marks c.make_room.new.self (map deref c.loop-event_type.yielded) x.now c.args.number invariant.fits c.make_room.ensures.more
          (omega (arith, c.in_ok-make_room.ensures.room)) t (ap (list_any (same t)) (sym (map-append deref c.loop-event_type.yielded (x ∷ []))) ∙ e);
    }

pub returns-in_err-make_room-clause-more : goal.returns-in_err-make_room-clause-more
returns-in_err-make_room-clause-more c = λ t.
    omega (arith, c.loop-event_type.invariant.more t, c.make_room.ensures.more t, places_are c.self.inside.marks t, places_are c.make_room.new.self t, ap (λ l. places_of l.places t) c.self.view_is)

pub returns-clause-more : goal.returns-clause-more
returns-clause-more c = λ t.
    omega (arith, c.loop-event_type.invariant.more t, places_are c.self.inside.marks t, places_are c.loop-event_type.self-inside.marks t, ap (λ l. places_of l.places t) c.self.view_is)

pub returns-clause-fits : goal.returns-clause-fits
returns-clause-fits c =
    let all = iter_end deref c.wanted.inside.types.keys c.loop-event_type.yielded c.into_iter-event_type-iterator.result c.loop-event_type.event_type-iterator c.next.new.self c.next.result
    (c.into_iter-event_type-iterator.ensures.into_iter_gives ∙ c.iter-event_type-items.ensures.rest) c.loop-event_type.yielded_by c.in-None.is c.next.ensures.steps in
    record {
      at = λ t e. omega (arith, c.loop-event_type.invariant.fits t (ap (list_any (same t)) all.0 ∙ ap (has t) c.wanted.view_is ∙ e), places_are c.loop-event_type.self-inside.marks t);
    }
