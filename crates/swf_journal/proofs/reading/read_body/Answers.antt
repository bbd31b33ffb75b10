use Rattle.std.proofs.Common.{◌≡◌, ◌+◌, ◌-◌, ◌<◌, length, min, arith}
use Rattle.swf_store.specs.Files.{bytes_of}
use Rattle.swf_journal.proofs.reading.read_body.Goals as goal

pub returns-then-count-len-clause-not_damaged : goal.returns-then-count-len-clause-not_damaged
returns-then-count-len-clause-not_damaged g c = λ image seen at damaged.
    let room : c.args.gate + 9 + c.args.len < length (bytes_of image c.args.file) = c.requires.within image seen in
    let counted : c.in_ok-count.count ≡ min (length c.as_mut_slice.result.now) (length (bytes_of image c.args.file) - (c.args.gate + 9)) = c.in_ok-count.ensures.count image seen in
    let size = c.as_mut_slice.ensures.len in
    let kept = c.read_at.auto.into in
    let made = c.in_ok-body.ensures.len in
    let few = c.if-count-len.true in
    let full = c.len.ensures in
    omega (arith, room, counted, size, made, few, full)
