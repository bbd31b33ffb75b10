-- What expressions are made of: members, texts with `\(` piece by piece, names and keys.
use Rattle.std.specs.Prelude.{◌||◌, ◌==◌, ℕ, Bool, List, [], ◌∷◌, Option, Some, None, length, if◌then◌else◌}
use Rattle.std.specs.Option.{is_some}
use Rattle.std.specs.Str.{encode_utf8_all}
use Rattle.swf_expr.specs.Builtin.{builtin_of}
use Rattle.swf_expr.specs.Expr.{Tree, no_trees, lit, pipe, binary, apply}
use Rattle.swf_value.specs.Value.{text}
use Rattle.swf_expr.specs.declared.builtin.Builtin.{Builtin}
use Rattle.swf_expr.specs.declared.expr.ExprMember.{ExprMember}
use Rattle.swf_expr.specs.declared.builtin.Builtin.TheVariants as builtins
use Rattle.swf_expr.specs.declared.op.Op.TheVariants as ops
use Rattle.swf_jq_tokens.specs.Words.{keyword_text}
use Rattle.swf_jq_tokens.specs.declared.token.Keyword.{Keyword}

-- a member with a value of its own
abbrev pub with_value : Tree → Tree → ExprMember
with_value k v = record { key = k; value = Some v }

-- a member whose value is the input's member of its key
abbrev pub key_alone : Tree → ExprMember
key_alone k = record { key = k; value = None }

-- the first, if any
abbrev pub innermost : {A : Type 0} → List A → Option A
innermost [] = None
innermost (x ∷ xs) = Some x

-- the sum so far, and one more piece
abbrev pub plus : Option Tree → Tree → Tree
plus None e = e
plus (Some a) e = binary ops.Add a e

-- the sum so far, and the text of what stood in a `\(` and its `)`
abbrev pub plus_piece : Option Tree → Tree → Tree
plus_piece a e = plus a (pipe e (apply builtins.ToString no_trees))

-- the first piece, where it is not empty
unfoldable pub first_text : List ℕ → Option Tree
first_text t = if length (encode_utf8_all t) == 0 then None else Some (lit (text t))

abbrev pub with_piece : Tree → Option Tree → Tree
with_piece a None = a
with_piece a (Some w) = binary ops.Add a w

-- the sum so far, and the text between, where it is not empty
unfoldable pub plus_text : Tree → List ℕ → Tree
plus_text a t = with_piece a (first_text t)

-- the sum so far, what stood in the brackets, and the text after it
abbrev pub text_sum : Option Tree → Tree → List ℕ → Tree
text_sum a e t = plus_text (plus_piece a e) t

-- the built-in of a name and a number of arguments
abbrev pub named : List ℕ → ℕ → Option Builtin
named x n = builtin_of (encode_utf8_all x) n

-- whether some built-in has this name
unfoldable pub is_called : List ℕ → Bool
is_called x = is_some (named x 0) || is_some (named x 1) || is_some (named x 2)

-- the key that a keyword is
abbrev pub key_lit : Keyword → Tree
key_lit k = lit (text (keyword_text k))
