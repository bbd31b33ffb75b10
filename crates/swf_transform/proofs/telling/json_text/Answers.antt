use Rattle.std.proofs.Common.{◌≡◌, subst, sym, IsUtf8, arith}
use Rattle.std.proofs.lemmas.Bool.{false≢true}
use Rattle.std.proofs.lemmas.Grind.{common_steps}
use Rattle.swf_value.specs.Written.{written}
use Rattle.swf_value.proofs.ReadsBack.{IsUtf8-written}
use Rattle.swf_transform.proofs.telling.json_text.Goals as goal

pub unreachable-requires : goal.unreachable-requires
unreachable-requires c =
    let e : c.write_json.new.out.items ≡ written c.args.value.now = grind (arith, common_steps) in
    false≢true (rw c.in-Err.is at (c.from_utf8.ensures.succeeds (subst IsUtf8 (sym e) (IsUtf8-written c.args.value.now c.in_ok-write_json.ensures.value))))
