use Rattle.std.proofs.Common.{◌∙◌, ◌+◌, ◌++◌, ◌∷◌, [], drop, ap}
use Rattle.swf_frames.specs.Tree.{numbers, fresh}
use Rattle.swf_frames.proofs.RoomLemmas.{names_step}
use Rattle.swf_frames.proofs.room.name_all.Goals as goal

pub loop-place-preserved : goal.loop-place-preserved
loop-place-preserved g c =
    let fs = c.args.frames.now in
    let place = c.loop-place.place in
    let names = c.loop-place.names.items in
    ap (λ xs. xs ++ numbers (fresh (c.args.first + (place + 1)) (drop (place + 1) fs))) (c.in_ok-push.ensures.items ∙ ap (λ n. names ++ n ∷ []) c.new.ensures)
    ∙ names_step fs c.args.first place names (numbers (fresh c.args.first fs)) c.loop-place-test.true c.loop-place.invariant
