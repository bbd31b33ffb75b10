use Rattle.std.proofs.Common.{◌≡◌, ◌-◌, w16}
use Rattle.swf_record.specs.Decodes.{number_in, many_in}
use Rattle.swf_record.proofs.Read.{in_front}
use Rattle.swf_record.proofs.reader.Reader.numbers.Given as goal

abbrev pub invariant-loop : goal.invariant-loop
invariant-loop l = many_in (number_in w16) l.count l.fn.self.rest.now ≡ in_front l.numbers.items (many_in (number_in w16) (l.count - l.counter) l.self.rest.now)
