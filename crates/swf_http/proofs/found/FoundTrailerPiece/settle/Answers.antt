use Rattle.std.proofs.Common.{length, ap, ◌∙◌, arith, Ok, Err}
use Rattle.swf_http.proofs.CountLemmas.{no_room_section}
use Rattle.swf_http.proofs.TrailerLemmas.{trailer_found}
use Rattle.swf_http.proofs.found.FoundTrailerPiece.settle.Goals as goal

pub returns-in-Ok-Complete : goal.returns-in-Ok-Complete
returns-in-Ok-Complete c =
    trailer_found c.args.bytes.now c.parse_headers.new.headers c.parse_headers.result c.in-Ok-Complete.found
    (c.in-Ok-Complete.is ∙ ap Ok c.in-Ok-Complete.field-0-is) c.parse_headers.ensures.within c.parse_headers.ensures.complete

pub unreachable-requires : goal.unreachable-requires
unreachable-requires c =
    no_room_section c.args.bytes.now (length c.as_mut_slice.result.now)
    (omega (arith, c.as_mut_slice.ensures.len, c.in_ok-headers.ensures))
    (c.in-Err-TooManyHeaders.ensures.too_many (ap Err c.in-Err-TooManyHeaders.field-0-is))
