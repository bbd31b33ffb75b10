use Rattle.std.proofs.Common.{◌≡◌, sym, subst, IsUtf8, arith}
use Rattle.std.proofs.lemmas.Grind.{common_steps}
use Rattle.swf_value.specs.Written.{written}
use Rattle.swf_value.proofs.ReadsBack.{IsUtf8-written}
use Rattle.swf_jq_print.proofs.printing.write_literal.Goals as goal

pub unreachable-requires : goal.unreachable-requires
unreachable-requires c =
    let e : c.as_slice.result.now ≡ written c.args.value.now = grind (arith, common_steps) in
    c.in-Err.ensures.cases.0 (subst IsUtf8 (sym e) (IsUtf8-written c.args.value.now c.in_ok-write_json.ensures.value))
