use Rattle.std.proofs.Common.{length, ap, arith, Err}
use Rattle.swf_http.proofs.CountLemmas.{no_room_response}
use Rattle.swf_http.proofs.found.FoundResponsePiece.settle.Goals as goal

pub unreachable-requires : goal.unreachable-requires
unreachable-requires c =
    no_room_response c.args.bytes.now (length c.as_mut_slice.result.now)
    (omega (arith, c.as_mut_slice.ensures.len, c.in_ok-headers.ensures))
    (c.in-Err-TooManyHeaders.ensures.too_many (ap Err c.in-Err-TooManyHeaders.field-0-is))
