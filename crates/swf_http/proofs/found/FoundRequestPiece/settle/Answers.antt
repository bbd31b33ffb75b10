use Rattle.std.proofs.Common.{length, ap, subst, sym, arith, append-nil, inr, [], List, ℕ, Err}
use Rattle.httparse.specs.Grammar.{ReadsRequest}
use Rattle.swf_http.proofs.CountLemmas.{no_room}
use Rattle.swf_http.proofs.found.FoundRequestPiece.settle.Goals as goal

pub unreachable-requires : goal.unreachable-requires
unreachable-requires c =
    no_room c.args.bytes.now (length c.as_mut_slice.result.now)
    (omega (arith, c.as_mut_slice.ensures.len, c.in_ok-headers.ensures))
    (c.in-Err-TooManyHeaders.ensures.too_many (ap Err c.in-Err-TooManyHeaders.field-0-is))

pub returns-in-Err : goal.returns-in-Err
returns-in-Err c =
    let never = c.in-Err.ensures.invalid (λ many.
    no_room c.args.bytes.now (length c.as_mut_slice.result.now)
    (omega (arith, c.as_mut_slice.ensures.len, c.in_ok-headers.ensures))
    (c.in-Err.ensures.too_many (ap Err many))) in (
      λ h rest reads. never [] h rest (subst (λ (t : List ℕ). ReadsRequest t h rest) (sym (append-nil c.args.bytes.now)) reads),
      inr (c.ends_in_target.ensures.0 c.if-ends_in_target.true),
    )
