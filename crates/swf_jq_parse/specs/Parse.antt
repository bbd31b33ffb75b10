-- The expression that a text is, from its tokens on.
use Rattle.std.specs.Prelude.{ℕ, List, [], Result, Err, length, nat_lt, if◌then◌else◌}
use Rattle.std.specs.Str.{encode_utf8_all}
use Rattle.swf_expr.specs.Expr.{Tree}
use Rattle.swf_jq_tokens.specs.Lexer.{Lexed, lex}
use Rattle.swf_jq_parse.specs.Machine.{run}
use Rattle.swf_jq_tokens.specs.declared.fault.ParseFault.{ParseFault}
use Rattle.swf_jq_tokens.specs.declared.fault.ParseFault.TheVariants as fault
use Rattle.swf_jq_parse.specs.declared.mode.Mode.TheVariants as mode

-- what tokens give
abbrev pub read_of : Lexed → Result Tree ParseFault
read_of r = run [] mode.Want r.0 r.1

-- the expression that the characters are, or the first fault in them
unfoldable pub parse_of : List ℕ → Result Tree ParseFault
parse_of cs = if nat_lt 4096 (length (encode_utf8_all cs)) then Err fault.TooLong else read_of (lex [] 0 cs)
