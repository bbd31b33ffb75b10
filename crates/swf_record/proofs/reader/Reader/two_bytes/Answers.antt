use Rattle.std.proofs.Common.{◌∙◌, ap, sym, inr, Ok, w16}
use Rattle.swf_record.proofs.Read.{number_cut, two_there, rest_of}
use Rattle.swf_record.proofs.reader.Reader.two_bytes.Goals as goal

pub returns-then-self-lt2 : goal.returns-then-self-lt2
returns-then-self-lt2 c = inr (sym (number_cut w16 c.args.self.now.rest.now c.if-self-lt2.true))

pub returns : goal.returns
returns c =
    let rest = c.args.self.now.rest.now in
    let number = c.from_be_bytes-number.result in
    inr (ap (λ more. Ok (number, more)) (rest_of 2 rest) ∙ sym (two_there rest number c.if-self-lt2.false c.from_be_bytes-number.ensures))
