-- Texts that other grammars read: expressions, versions (SemVer 2.0.0) and durations.
use Rattle.std.specs.Prelude.{ℕ, List, Bool, Option, Some, None, is_some, Result, Ok, Err, is_ok}
use Rattle.std.specs.Str.{encode_utf8_all}
use Rattle.semver.specs.Parse.{version_parts}
use Rattle.swf_value.specs.Value.{Value}
use Rattle.swf_expr.specs.Expr.{Tree}
use Rattle.swf_jq_parse.specs.Parse.{parse_of}
use Rattle.swf_duration.specs.Duration.{duration_of}

-- the value of an answer that has one
abbrev pub given : {A E : Type 0} → Result A E → Option A
given (Ok x) = Some x
given (Err e) = None

-- the expression that characters are
unfoldable pub expression_of : List ℕ → Option Tree
expression_of t = given (parse_of t)

abbrev pub parses : List ℕ → Bool
parses t = is_some (expression_of t)

unfoldable pub is_version : List ℕ → Bool
is_version t = is_ok (version_parts (encode_utf8_all t))

unfoldable pub is_duration : Value → Bool
is_duration v = is_ok (duration_of v)
