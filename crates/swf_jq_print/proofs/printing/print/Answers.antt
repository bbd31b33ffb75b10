use Rattle.std.proofs.Common.{◌≡◌, ◌≤◌, length, Ok, Err, IfOk, Result, subst, sym, rules, List, ℕ}
use Rattle.std.specs.Str.{encode_utf8_all}
use Rattle.swf_expr.specs.Expr.{Tree}
use Rattle.swf_jq_parse.specs.Parse.{parse_of}
use Rattle.swf_jq_print.specs.Print.{print_of}
use Rattle.swf_jq_print.specs.Printed.{nesting, IsExpression}
use Rattle.swf_jq_print.proofs.ReadBack.{read_back}
use Rattle.swf_jq_print.proofs.printing.print.Goals as goal

read_again : {E : Type 0} (e : Tree) (r : Result (List ℕ) E) → IfOk r (λ t. t ≡ print_of e) → IsExpression e
    → IfOk r (λ t. length (encode_utf8_all t) ≤ 4096 → nesting e ≤ 64 → parse_of t ≡ Ok e)
read_again e (Ok t) same kept = subst (λ (t : List ℕ). length (encode_utf8_all t) ≤ 4096 → nesting e ≤ 64 → parse_of t ≡ Ok e) (sym same) (read_back e kept)
read_again e (Err f) same kept = tt

pub returns-clause-read_back : goal.returns-clause-read_back
returns-clause-read_back c =
    let same : IfOk c.into_text.result (λ t. t ≡ print_of c.args.expr.now) = search rules in
    read_again c.args.expr.now c.into_text.result same c.in_ok-write.ensures.kept
