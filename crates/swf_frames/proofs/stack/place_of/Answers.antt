use Rattle.std.proofs.Common.{◌<◌, ap, length, refl, sym, arith}
use Rattle.std.proofs.lemmas.Option.{slice_get_read}
use Rattle.swf_frames.specs.declared.stack.Stack.{Stack}
use Rattle.swf_frames.specs.Stacks.{row_of, rows}
use Rattle.swf_frames.proofs.FindLemmas.{has_at}
use Rattle.swf_frames.proofs.SearchLemmas.{at_rows}
use Rattle.swf_frames.proofs.stack.place_of.Goals as goal

pub returns-then-number-clause-told : goal.returns-then-number-clause-told
returns-then-number-clause-told g c =
    let ss = c.args.stacks.now in
    let t = c.index-stacks-place.result in
    let place = c.guess-place.result in
    let number = ap (λ (s : Stack g.row.F.Denot). s.strand) c.index-stacks-place.is in
    let within : place < length ss = omega arith in
    sym (has_at (rows ss) place c.args.strand (row_of t) (at_rows ss place t (slice_get_read ss (length ss) place t refl within c.index-stacks-place.is)) (omega arith))
