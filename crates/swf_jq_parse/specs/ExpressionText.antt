-- Which text is which expression.
use Rattle.std.specs.Prelude.{◌≡◌, ◌≤◌, ◌⊎◌, ℕ, List, [], length}
use Rattle.std.specs.Str.{encode_utf8_all}
use Rattle.swf_expr.specs.Expr.{Tree}
use Rattle.swf_jq_parse.specs.Grammar.{Pipe}
use Rattle.swf_jq_parse.specs.GrammarLaws.{tokens}
use Rattle.swf_jq_tokens.specs.Lexer.{lex}
use Rattle.swf_jq_tokens.specs.declared.lexer.End.TheVariants as end
use Rattle.swf_jq_tokens.specs.declared.fault.ParseFault.{ParseFault}
use Rattle.swf_jq_tokens.specs.declared.fault.ParseFault.TheVariants as fault

-- a text of at most 4,096 bytes that is tokens to its end, which the grammar makes this expression of
pub record IsTextOf (cs : List ℕ) (e : Tree) : Type 0 where
  pub short : length (encode_utf8_all cs) ≤ 4096
  pub place : ℕ
  pub whole : (lex [] 0 cs).1 ≡ end.At place
  pub grammar : Pipe (tokens (lex [] 0 cs).0) e

-- memory ran out, or the text is no expression
abbrev pub IsRefused : List ℕ → ParseFault → Type 0
IsRefused cs f = (f ≡ fault.OutOfMemory) ⊎ ((e : Tree) → ¬ (IsTextOf cs e))
