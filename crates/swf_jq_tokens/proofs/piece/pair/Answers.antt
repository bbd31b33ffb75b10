use Rattle.std.proofs.Common.{◌∙◌, ap, arith}
use Rattle.std.proofs.lemmas.Grind.{common_steps}
use Rattle.std.proofs.lemmas.List.{take_rest}
use Rattle.json.specs.Text.{after_high}
use Rattle.swf_jq_tokens.specs.Piece.{piece}
use Rattle.swf_jq_tokens.proofs.Pieces.{six, low_unit}
use Rattle.swf_jq_tokens.proofs.piece.pair.Goals as goal

pub returns-in_ok-letter-in-92-clause-gives : goal.returns-in_ok-letter-in-92-clause-gives
returns-in_ok-letter-in-92-clause-gives c =
    rw (c.in_ok-letter-in-92.ensures.value.1, take_rest) (ap (piece (after_high c.args.high)) (six c.args.rest.now c.a-item.result c.b-item.result c.c-item.result c.d-item.result (grind (arith, common_steps)) (grind (arith, common_steps)) (grind (arith, common_steps)) c.a-item.is c.b-item.is c.c-item.is c.d-item.is)
    ∙ low_unit c.args.high c.a-item.result c.b-item.result c.c-item.result c.d-item.result c.in_ok-low-in-92.low _ c.in_ok-low-in-92.ensures.value c.if-low-lt56320.false c.if-low-ge57344.false)
