use Rattle.std.proofs.Common.{◌-◌, refl, arith, rules}
use Rattle.std.specs.Vec.{vec_len}
use Rattle.std.proofs.lemmas.Option.{slice_get_read}
use Rattle.swf_frames.proofs.stack.Stack.top_mut.Goals as goal

pub returns : goal.returns
returns g c =
    let s = c.args.self.now in (
      (refl, λ w. rw c.len-last.ensures),
      record {
        lends = tt;
        value = slice_get_read s.frames.items (vec_len s.frames) (vec_len s.frames - 1) c.index_mut.result.now (search rules) (omega arith) (rw c.len-last.ensures at c.index_mut.ensures.value);
      },
    )
