use Rattle.std.proofs.Common.{◌∙◌, ap, sym, inr, Ok, w64}
use Rattle.swf_record.proofs.Read.{number_cut, eight_there, rest_of}
use Rattle.swf_record.proofs.reader.Reader.eight_bytes.Goals as goal

pub returns-then-self-lt8 : goal.returns-then-self-lt8
returns-then-self-lt8 c = inr (sym (number_cut w64 c.args.self.now.rest.now c.if-self-lt8.true))

pub returns : goal.returns
returns c =
    let rest = c.args.self.now.rest.now in
    let number = c.from_be_bytes-number.result in
    inr (ap (λ more. Ok (number, more)) (rest_of 8 rest) ∙ sym (eight_there rest number c.if-self-lt8.false c.from_be_bytes-number.ensures))
