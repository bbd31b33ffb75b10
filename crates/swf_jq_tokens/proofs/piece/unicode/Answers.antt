use Rattle.std.proofs.Common.{◌∙◌, ap}
use Rattle.std.proofs.lemmas.List.{take_rest}
use Rattle.json.specs.Text.{after_u}
use Rattle.swf_jq_tokens.specs.Piece.{piece}
use Rattle.swf_jq_tokens.proofs.Pieces.{four, one_unit, high_unit}
use Rattle.swf_jq_tokens.proofs.piece.unicode.Goals as goal

pub returns-then-unit-lt56320-clause-gives : goal.returns-then-unit-lt56320-clause-gives
returns-then-unit-lt56320-clause-gives c =
    rw (ap (piece after_u) (four c.args.rest.now c.a-item.result c.b-item.result c.c-item.result c.d-item.result c.in-len4-up.len_at_least c.a-item.is c.b-item.is c.c-item.is c.d-item.is)
    ∙ high_unit c.a-item.result c.b-item.result c.c-item.result c.d-item.result c.in_ok-unit-in-len4-up.unit _ c.in_ok-unit-in-len4-up.ensures.value c.if-unit-ge55296.true c.if-unit-lt56320.true) (rw take_rest at c.pair.ensures.gives)

pub returns-in_ok-letter-in-len4-up-clause-gives : goal.returns-in_ok-letter-in-len4-up-clause-gives
returns-in_ok-letter-in-len4-up-clause-gives c =
    rw (c.in_ok-letter-in-len4-up.ensures.value.1, take_rest) (ap (piece after_u) (four c.args.rest.now c.a-item.result c.b-item.result c.c-item.result c.d-item.result c.in-len4-up.len_at_least c.a-item.is c.b-item.is c.c-item.is c.d-item.is)
    ∙ one_unit c.a-item.result c.b-item.result c.c-item.result c.d-item.result c.in_ok-unit-in-len4-up.unit _ c.in_ok-unit-in-len4-up.ensures.value c.in_ok-letter-in-len4-up.ensures.cases)
