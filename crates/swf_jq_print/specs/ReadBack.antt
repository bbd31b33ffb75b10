-- The text of an expression is read as it.
use Rattle.std.specs.Prelude.{◌≡◌, ◌≤◌, Ok, length}
use Rattle.std.specs.Str.{encode_utf8_all}
use Rattle.swf_expr.specs.Expr.{Tree}
use Rattle.swf_jq_parse.specs.Parse.{parse_of}
use Rattle.swf_jq_print.specs.Print.{print_of}
use Rattle.swf_jq_print.specs.Printed.{nesting, IsExpression}

-- where the text is no longer than 4,096 bytes and its brackets nest no deeper than 64
abbrev pub IsReadBack : Type 0
IsReadBack = (e : Tree) → IsExpression e → length (encode_utf8_all (print_of e)) ≤ 4096 → nesting e ≤ 64 → parse_of (print_of e) ≡ Ok e
