use Rattle.std.proofs.Common.{◌+◌, ◌-◌, ◌/◌, ◌<◌, length, refl, sym, ap, arith}
use Rattle.std.proofs.lemmas.Option.{slice_get_read}
use Rattle.swf_frames.specs.declared.stack.Stack.{Stack}
use Rattle.swf_frames.specs.Stacks.{row_of, rows}
use Rattle.swf_frames.proofs.FindLemmas.{gone, has_at, lacks_has}
use Rattle.swf_frames.proofs.SearchLemmas.{at_rows, goes_up, goes_down, not_there}
use Rattle.swf_frames.proofs.stack.searched.Goals as goal

pub loop-low-preserved-then-number-2 : goal.loop-low-preserved-then-number-2
loop-low-preserved-then-number-2 g c =
    let ss = c.args.stacks.now in
    let t = c.index-stacks-middle.result in
    let middle = c.loop-low.low + (c.loop-low.high - c.loop-low.low) / 2 in
    let number = ap (λ (s : Stack g.row.F.Denot). s.strand) c.index-stacks-middle.is in
    let within : middle < length ss = omega arith in
    goes_up ss c.args.strand c.loop-low.low c.loop-low.high c.requires.0 middle t c.requires.1 c.loop-low.invariant (slice_get_read ss (length ss) middle t refl within c.index-stacks-middle.is) (omega arith)

pub loop-low-preserved : goal.loop-low-preserved
loop-low-preserved g c =
    let ss = c.args.stacks.now in
    let t = c.index-stacks-middle.result in
    let middle = c.loop-low.low + (c.loop-low.high - c.loop-low.low) / 2 in
    let number = ap (λ (s : Stack g.row.F.Denot). s.strand) c.index-stacks-middle.is in
    let within : middle < length ss = omega arith in
    goes_down ss c.args.strand c.loop-low.low c.loop-low.high c.requires.0 middle t c.requires.1 c.loop-low.invariant (slice_get_read ss (length ss) middle t refl within c.index-stacks-middle.is) (omega arith)

pub returns-clause-none : goal.returns-clause-none
returns-clause-none g c =
    gone (rows c.args.stacks.now) c.args.strand (not_there c.args.stacks.now c.args.strand c.loop-low.low c.loop-low.high c.loop-low.invariant c.loop-low-test.false)

pub returns-then-number-clause-told : goal.returns-then-number-clause-told
returns-then-number-clause-told g c =
    let ss = c.args.stacks.now in
    let t = c.index-stacks-middle.result in
    let middle = c.loop-low.low + (c.loop-low.high - c.loop-low.low) / 2 in
    let number = ap (λ (s : Stack g.row.F.Denot). s.strand) c.index-stacks-middle.is in
    let within : middle < length ss = omega arith in
    sym (has_at (rows ss) middle c.args.strand (row_of t) (at_rows ss middle t (slice_get_read ss (length ss) middle t refl within c.index-stacks-middle.is)) (omega arith))

pub returns-clause-told : goal.returns-clause-told
returns-clause-told g c =
    sym (lacks_has (rows c.args.stacks.now) c.args.strand (not_there c.args.stacks.now c.args.strand c.loop-low.low c.loop-low.high c.loop-low.invariant c.loop-low-test.false))
