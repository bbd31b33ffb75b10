use Rattle.std.proofs.Common.{◌∙◌, ap, sym, inr, Ok, w32}
use Rattle.swf_record.proofs.Read.{number_cut, four_there, rest_of}
use Rattle.swf_record.proofs.reader.Reader.four_bytes.Goals as goal

pub returns-then-self-lt4 : goal.returns-then-self-lt4
returns-then-self-lt4 c = inr (sym (number_cut w32 c.args.self.now.rest.now c.if-self-lt4.true))

pub returns : goal.returns
returns c =
    let rest = c.args.self.now.rest.now in
    let number = c.from_be_bytes-number.result in
    inr (ap (λ more. Ok (number, more)) (rest_of 4 rest) ∙ sym (four_there rest number c.if-self-lt4.false c.from_be_bytes-number.ensures))
