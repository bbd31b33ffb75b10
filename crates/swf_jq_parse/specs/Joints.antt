-- What stands between two operands, and how tightly it binds: 0 `|` and `as`, 1 `,`, 2 the `|` in a member's value, 3 `//`, 4 `or`, 5 `and`,
-- 6 comparisons, 7 `+` and `-`, 8 `*`, `/` and `%`, 9 the `-` before an operand, 10 what follows a term.
use Rattle.std.specs.Prelude.{◌==◌, ◌+◌, ℕ, Bool, nat_le, Option, Some, None, if◌then◌else◌}
use Rattle.swf_expr.specs.Expr.{Tree, pipe, both, alt, or, and, binary}
use Rattle.swf_expr.specs.declared.op.Op.{Op}
use Rattle.swf_expr.specs.declared.op.Op.TheVariants as ops
use Rattle.swf_jq_parse.specs.declared.joint.Joint.{Joint}
use Rattle.swf_jq_parse.specs.declared.joint.Joint.TheVariants as joint
use Rattle.swf_jq_parse.specs.declared.joint.Follower.{Follower}
use Rattle.swf_jq_parse.specs.declared.joint.Follower.TheVariants as follower
use Rattle.swf_jq_tokens.specs.declared.token.Keyword.TheVariants as keyword
use Rattle.swf_jq_tokens.specs.declared.token.Sign.{Sign}
use Rattle.swf_jq_tokens.specs.declared.token.Sign.TheVariants as sign
use Rattle.swf_jq_tokens.specs.declared.token.Token.{Token}
use Rattle.swf_jq_tokens.specs.declared.token.Token.TheVariants as token

abbrev pub op_level : Op → ℕ
op_level ops.Equal = 6
op_level ops.NotEqual = 6
op_level ops.Less = 6
op_level ops.AtMost = 6
op_level ops.Greater = 6
op_level ops.AtLeast = 6
op_level ops.Add = 7
op_level ops.Subtract = 7
op_level ops.Multiply = 8
op_level ops.Divide = 8
op_level ops.Modulo = 8

-- how tightly it binds, and how tightly its left and its right operand have to: comparisons do not follow each other
abbrev pub binds : Joint → ℕ × ℕ × ℕ
binds joint.Pipe = (0, 1, 0)
binds joint.Comma = (1, 1, 3)
binds joint.ValuePipe = (2, 3, 2)
binds joint.Alt = (3, 4, 3)
binds joint.Or = (4, 4, 5)
binds joint.And = (5, 5, 6)
binds (joint.Op o) = (op_level o, if op_level o == 6 then 7 else op_level o, op_level o + 1)

abbrev pub level : Joint → ℕ
level j = (binds j).0

abbrev pub left : Joint → ℕ
left j = (binds j).1

abbrev pub right : Joint → ℕ
right j = (binds j).2

abbrev pub sign_of : Joint → Token
sign_of joint.Pipe = token.Sign sign.Pipe
sign_of joint.Comma = token.Sign sign.Comma
sign_of joint.ValuePipe = token.Sign sign.Pipe
sign_of joint.Alt = token.Sign sign.Alternative
sign_of joint.Or = token.Keyword keyword.Or
sign_of joint.And = token.Keyword keyword.And
sign_of (joint.Op o) = token.Sign (sign.Op o)

abbrev pub tree_of : Joint → Tree → Tree → Tree
tree_of joint.Pipe l r = pipe l r
tree_of joint.Comma l r = both l r
tree_of joint.ValuePipe l r = pipe l r
tree_of joint.Alt l r = alt l r
tree_of joint.Or l r = or l r
tree_of joint.And l r = and l r
tree_of (joint.Op o) l r = binary o l r

-- whether it may stand in what binds so tightly. In a member's value alone a `|` binds more tightly than a `,`
abbrev pub fits : ℕ → Joint → Bool
fits k joint.ValuePipe = k == 2
fits k j = nat_le k (level j)

-- ---- what may follow an operand

-- how tightly it binds, and how tightly the operand before it has to
abbrev pub follower_level : Follower → ℕ
follower_level follower.Suffix = 10
follower_level follower.As = 0
follower_level (follower.Joint j) = level j

abbrev pub follower_left : Follower → ℕ
follower_left follower.Suffix = 10
follower_left follower.As = 10
follower_left (follower.Joint j) = left j

abbrev pub sign_role : ℕ → Sign → Option Follower
sign_role k sign.LeftBracket = Some follower.Suffix
sign_role k sign.Question = Some follower.Suffix
sign_role k sign.Comma = Some (follower.Joint joint.Comma)
sign_role k sign.Pipe = Some (follower.Joint (if k == 2 then joint.ValuePipe else joint.Pipe))
sign_role k sign.Alternative = Some (follower.Joint joint.Alt)
sign_role k (sign.Op o) = Some (follower.Joint (joint.Op o))
sign_role k g = None

-- what a token is after an operand, in what binds so tightly
abbrev pub role : ℕ → Token → Option Follower
role k token.Dot = Some follower.Suffix
role k (token.Field x) = Some follower.Suffix
role k (token.Keyword keyword.As) = Some follower.As
role k (token.Keyword keyword.Or) = Some (follower.Joint joint.Or)
role k (token.Keyword keyword.And) = Some (follower.Joint joint.And)
role k (token.Sign g) = sign_role k g
role k t = None

abbrev pub kept : ℕ → Option Follower → Option Follower
kept k None = None
kept k (Some f) = if nat_le k (follower_level f) then Some f else None

-- what a token is after an operand, unless what binds so tightly ends before it
abbrev pub follows : ℕ → Token → Option Follower
follows k t = kept k (role k t)
