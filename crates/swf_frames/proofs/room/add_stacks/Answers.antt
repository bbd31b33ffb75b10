use Rattle.std.proofs.Common.{◌≡◌, ◌∙◌, ◌+◌, ◌^◌, ◌++◌, ◌∷◌, [], Some, reverse, refl, ap}
use Rattle.std.specs.Prelude.{vec_len, vec_capacity}
use Rattle.std.proofs.lemmas.List.Elements.{All-pop}
use Rattle.swf_frames.specs.Room.{IsSpare}
use Rattle.swf_frames.specs.Stacks.{rows, fresh_rows}
use Rattle.swf_frames.specs.declared.stack.Stack.{Stack}
use Rattle.swf_frames.proofs.RoomLemmas.{room_step, fits_step, len_step, rows_pushed, stack_step}
use Rattle.swf_frames.proofs.room.add_stacks.Goals as goal

pub loop-frame-preserved : goal.loop-frame-preserved
loop-frame-preserved g c =
    let was = c.loop-frame in
    let parent = c.args.parent in
    let frame = c.in-Some.frame in
    let list = c.in-Some-pop.list in
    let stacks = c.push_reserved-in-Some.new.self in
    let frames = c.pop.new.self in
    let lists = c.pop-in-Some.new.self in
    let spare = All-pop IsSpare was.lists.items lists.items (Some list) c.in-Some-pop.ensures.items was.invariant.spare in
    let filled : c.push_reserved.new.self.items ≡ frame ∷ [] = c.push_reserved.ensures.items ∙ ap (λ xs. xs ++ frame ∷ []) spare.1.0 in
    let s : Stack g.row.F.Denot = record { strand = c.new.result; parent = Some parent; children = c.none.result; frames = c.push_reserved.new.self } in
    let more = rows_pushed was.stacks.items stacks.items s parent was.next frame c.push_reserved-in-Some.ensures.items c.new.ensures refl c.none.ensures filled in
    let all = rows c.args.stacks.now.items ++ fresh_rows parent c.args.first c.args.frames.items in
    record {
      room = room_step (vec_len was.stacks) (vec_len was.frames) (vec_len stacks) (vec_len frames) (vec_capacity was.stacks) (vec_capacity stacks) was.invariant.room c.push_reserved-in-Some.ensures.len c.in-Some.ensures.cases c.push_reserved-in-Some.ensures.capacity;
      fits = fits_step was.next (vec_len was.frames) (vec_len frames) (2 ^ 64) was.invariant.fits c.in-Some.ensures.cases;
      len = len_step (vec_len was.lists) (vec_len was.frames) (vec_len lists) (vec_len frames) was.invariant.len c.in-Some-pop.ensures.cases c.in-Some.ensures.cases;
      spare = spare.0;
      same = ap (λ rs. rs ++ fresh_rows parent (was.next + 1) (reverse frames.items)) more
          ∙ stack_step (rows was.stacks.items) all parent was.next frame frames.items was.frames.items c.in-Some.ensures.items was.invariant.same;
    }
