use Rattle.std.proofs.Common.{◌≡◌, ◌-◌}
use Rattle.swf_record.specs.Decodes.{label_in, many_in}
use Rattle.swf_record.proofs.Read.{in_front}
use Rattle.swf_record.proofs.decode.read_labels.Given as goal

abbrev pub invariant-loop : goal.invariant-loop
invariant-loop l = many_in label_in l.count l.fn.reader.rest.now ≡ in_front l.labels.items (many_in label_in (l.count - l.counter) l.reader.rest.now)
