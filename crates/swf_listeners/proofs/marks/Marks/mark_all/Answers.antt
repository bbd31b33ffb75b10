use Rattle.std.proofs.Common.{◌∙◌, ◌∷◌, [], ap, sym, cond, map}
use Rattle.std.proofs.Math.ListN.{set}
use Rattle.std.proofs.lemmas.List.{map-append}
use Rattle.std.proofs.lemmas.Map.Iter.{iter_end}
use Rattle.std.specs.List.{list_any}
use Rattle.std.specs.Map.Iter.{deref}
use Rattle.swf_text.specs.Same.{same}
use Rattle.swf_listeners.specs.Marks.{flags_of}
use Rattle.swf_listeners.proofs.MarkLemmas.{marked_more}
use Rattle.swf_listeners.proofs.marks.Marks.mark_all.Goals as goal

pub loop-event_type-preserved : goal.loop-event_type-preserved
loop-event_type-preserved c = λ t.
    let before = flags_of c.args.self.now t in
    marked_more (map deref c.loop-event_type.yielded) c.in-Some.event_type.now t c.args.number c.args.wanted before (flags_of c.loop-event_type.self t) (flags_of c.mark.new.self t) (c.loop-event_type.invariant t) (c.mark.ensures t)
    ∙ ap (λ done. cond (list_any (same t) done) (set before c.args.number c.args.wanted) before) (sym (map-append deref c.loop-event_type.yielded (c.in-Some.event_type ∷ [])))

pub returns : goal.returns
returns c = λ t.
    let before = flags_of c.args.self.now t in
    let all = iter_end deref c.args.types.now.keys c.loop-event_type.yielded c.into_iter-event_type-iterator.result c.loop-event_type.event_type-iterator c.next.new.self c.next.result (c.into_iter-event_type-iterator.ensures.into_iter_gives ∙ c.iter-event_type-items.ensures.rest) c.loop-event_type.yielded_by c.in-None.is c.next.ensures.steps in
    c.loop-event_type.invariant t ∙ ap (λ done. cond (list_any (same t) done) (set before c.args.number c.args.wanted) before) all.0
