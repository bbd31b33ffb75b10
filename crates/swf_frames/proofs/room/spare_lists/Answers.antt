use Rattle.std.proofs.Common.{◌∙◌, ◌+◌, sym, ap, subst, lit≤}
use Rattle.std.specs.Prelude.{All}
use Rattle.std.proofs.lemmas.List.Elements.{All-nil, All-push}
use Rattle.swf_frames.specs.Room.{IsSpare}
use Rattle.swf_frames.proofs.RoomLemmas.{spare_with}
use Rattle.swf_frames.proofs.room.spare_lists.Goals as goal

pub loop-place-init : goal.loop-place-init
loop-place-init g c = record {
  len = c.new-lists.ensures.len;
  spare = subst (All IsSpare) (sym c.new-lists.ensures.items) (All-nil IsSpare);
}

pub loop-place-preserved : goal.loop-place-preserved
loop-place-preserved g c =
    let made = c.in_ok-with_capacity.ensures in
    let list = c.in_ok-with_capacity.field-0 in
    record {
      len = c.in_ok-push.ensures.len ∙ ap (λ n. n + 1) c.loop-place.invariant.len;
      spare = subst (All IsSpare) (sym c.in_ok-push.ensures.items) (All-push IsSpare c.loop-place.lists.items list c.loop-place.invariant.spare (spare_with list 1 made.items made.exact (lit≤ tt)));
    }
