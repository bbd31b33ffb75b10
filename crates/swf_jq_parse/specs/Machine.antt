-- One token after another, with all that is open, the innermost first, and what may stand next (jq 1.7 manual).
use Rattle.std.specs.Prelude.{◌+◌, ◌-◌, ◌^◌, ◌++◌, min, ℕ, Bool, true, false, pos, nat_le, length, List, [], ◌∷◌, Option, Some, None, Result, Ok, Err, if◌then◌else◌}
use Rattle.swf_expr.specs.Expr.{Tree, here, lit, var, index, iterate, maybe, neg, bind, empty_list, list_of, object_of, if_then, if_else, apply}
use Rattle.swf_value.specs.Value.{null, boolean, int, text}
use Rattle.swf_expr.specs.declared.builtin.Builtin.{Builtin}
use Rattle.swf_expr.specs.ExprNode.{trees_of, pairs_of}
use Rattle.swf_expr.specs.declared.expr.ExprMember.{ExprMember}
use Rattle.swf_expr.specs.declared.op.Op.TheVariants as ops
use Rattle.swf_jq_tokens.specs.Gives.{◌>>=◌}
use Rattle.swf_jq_parse.specs.Joints.{level, right, tree_of, follower_left, follows}
use Rattle.swf_jq_parse.specs.Parts.{with_value, key_alone, first_text, text_sum, named, is_called, key_lit}
use Rattle.swf_jq_parse.specs.declared.joint.Follower.{Follower}
use Rattle.swf_jq_parse.specs.declared.joint.Follower.TheVariants as follower
use Rattle.swf_jq_parse.specs.declared.mode.Mode.{Mode}
use Rattle.swf_jq_parse.specs.declared.mode.Mode.TheVariants as mode
use Rattle.swf_jq_parse.specs.declared.stack.Item.{Item}
use Rattle.swf_jq_parse.specs.declared.stack.Item.TheVariants as items
use Rattle.swf_jq_parse.specs.declared.stack.Opening.{Opening}
use Rattle.swf_jq_parse.specs.declared.stack.Opening.TheVariants as opening
use Rattle.swf_jq_parse.specs.declared.stack.Pending.{Pending}
use Rattle.swf_jq_parse.specs.declared.stack.Pending.TheVariants as pending
use Rattle.swf_jq_parse.specs.declared.stack.Purpose.{Purpose}
use Rattle.swf_jq_parse.specs.declared.stack.Purpose.TheVariants as purpose
use Rattle.swf_jq_tokens.specs.declared.lexer.End.{End}
use Rattle.swf_jq_tokens.specs.declared.lexer.End.TheVariants as end
use Rattle.swf_jq_tokens.specs.declared.fault.ParseFault.{ParseFault}
use Rattle.swf_jq_tokens.specs.declared.fault.ParseFault.TheVariants as fault
use Rattle.swf_jq_tokens.specs.declared.token.Keyword.{Keyword}
use Rattle.swf_jq_tokens.specs.declared.token.Keyword.TheVariants as keyword
use Rattle.swf_jq_tokens.specs.declared.token.Sign.{Sign}
use Rattle.swf_jq_tokens.specs.declared.token.Sign.TheVariants as sign
use Rattle.swf_jq_tokens.specs.declared.token.Token.{Token}
use Rattle.swf_jq_tokens.specs.declared.token.Token.TheVariants as token

abbrev pub Step : Type 0
Step = Result (List Item × Mode) ParseFault

-- the fault of what cannot stand at a place
abbrev pub misplaced : ℕ → Step
misplaced at = Err (fault.Syntax at)

-- something is opened, and this may stand next
abbrev pub put : Item → Mode → List Item → Step
put x m s = Ok (x ∷ s, m)

-- something is opened, in which an operand is wanted, or which may end at once
abbrev pub opened : Opening → List Item → Step
opened o s = put (items.Open o) mode.Want s

abbrev pub begun : Opening → List Item → Step
begun o s = put (items.Open o) mode.First s

-- the same things stay open
abbrev pub unmoved : List Item → Result Mode ParseFault → Step
unmoved s r = r >>= λ m. Ok (s, m)

-- of two points the second is wrong
abbrev pub wrong_place : ℕ → Token → ℕ
wrong_place at token.Dots = min (at + 1) (2 ^ 64 - 1)
wrong_place at t = at

abbrev pub wrong : ℕ → Token → Step
wrong at t = misplaced (wrong_place at t)

-- ---- what is open

-- how tightly what waits binds once it has its right operand
abbrev pub pending_level : Pending → ℕ
pending_level pending.Negate = 9
pending_level (pending.Left j l) = level j
pending_level (pending.Bind l x) = 0
pending_level (pending.Branch c a) = 10

-- how tightly its right operand has to bind. Nothing follows the branches of an `elif` before they are joined
abbrev pub pending_right : Pending → ℕ
pending_right pending.Negate = 9
pending_right (pending.Left j l) = right j
pending_right (pending.Bind l x) = 0
pending_right (pending.Branch c a) = 11

-- what waited, with its right operand
abbrev pub joined : Pending → Tree → Tree
joined pending.Negate r = neg r
joined (pending.Left j l) r = tree_of j l r
joined (pending.Bind l x) r = bind l x r
joined (pending.Branch c a) r = if_else c a r

abbrev pub opening_level : Opening → ℕ
opening_level (opening.Value ms k) = 2
opening_level o = 0

-- how tightly what stands in the innermost has to bind
abbrev pub context : List Item → ℕ
context [] = 0
context (items.Pending p ∷ s) = pending_right p
context (items.Open o ∷ s) = opening_level o

-- ---- where an operand is wanted

-- a name, which some built-in has
unfoldable pub want_name : List ℕ → ℕ → Result Mode ParseFault
want_name x at = if is_called x then Ok (mode.Called x at) else Err (fault.UnknownName at)

unfoldable pub want_keyword : List Item → ℕ → Keyword → Step
want_keyword s at keyword.Null = Ok (s, mode.Have (lit null))
want_keyword s at keyword.True = Ok (s, mode.Have (lit (boolean true)))
want_keyword s at keyword.False = Ok (s, mode.Have (lit (boolean false)))
want_keyword s at keyword.If = opened opening.If s
want_keyword s at k = misplaced at

unfoldable pub want_sign : List Item → ℕ → Sign → Step
want_sign s at sign.LeftParen = opened opening.Paren s
want_sign s at sign.LeftBracket = begun opening.List s
want_sign s at sign.LeftBrace = Ok (s, mode.Member [] true)
want_sign s at (sign.Op ops.Subtract) = Ok (items.Pending pending.Negate ∷ s, mode.Want)
want_sign s at g = misplaced at

-- an operand, or its beginning
unfoldable pub want : List Item → ℕ → Token → Step
want s at token.Dot = Ok (s, mode.Dotted here true)
want s at (token.Field x) = Ok (s, mode.Have (index here (lit (text x))))
want s at (token.Var x) = Ok (s, mode.Have (var x))
want s at (token.Name x) = unmoved s (want_name x at)
want s at (token.Keyword k) = want_keyword s at k
want s at (token.Number n) = Ok (s, mode.Have (lit (int (pos n))))
want s at (token.Text t) = Ok (s, mode.Have (lit (text t)))
want s at (token.TextOpen t) = opened (opening.Text purpose.Operand (first_text t)) s
want s at (token.Sign g) = want_sign s at g
want s at t = wrong at t

-- a `]` right behind its `[`
unfoldable pub emptied : List Item → ℕ → Step
emptied (items.Open opening.List ∷ s) at = Ok (s, mode.Have empty_list)
emptied (items.Open (opening.Index e) ∷ s) at = Ok (s, mode.Have (iterate e))
emptied s at = misplaced at

-- what begins a list or an index: its end, or an operand
unfoldable pub first : List Item → ℕ → Token → Step
first s at (token.Sign sign.RightBracket) = emptied s at
first s at t = want s at t

-- ---- what follows an operand

unfoldable pub applied_to : Option Builtin → ℕ → List Tree → Result Tree ParseFault
applied_to None at es = Err (fault.UnknownName at)
applied_to (Some b) at es = Ok (apply b (trees_of es))

-- a name at a place with its arguments
unfoldable pub applied : List ℕ → ℕ → List Tree → Result Tree ParseFault
applied x at es = applied_to (named x (length es)) at es

-- a text for its purpose
unfoldable pub text_end : Purpose → Tree → Mode
text_end purpose.Operand w = mode.Have w
text_end (purpose.Index e) w = mode.Have (index e w)
text_end (purpose.Key ms) w = mode.AfterKey ms w true

-- what ends or goes on with a text or branches, after an operand in it
unfoldable pub go_on : Opening → List Item → Tree → ℕ → Token → Step
go_on (opening.Text p a) s e at (token.TextMid t) = opened (opening.Text p (Some (text_sum a e t))) s
go_on (opening.Text p a) s e at (token.TextClose t) = Ok (s, text_end p (text_sum a e t))
go_on opening.If s e at (token.Keyword keyword.Then) = opened (opening.Then e) s
go_on (opening.Then c) s e at (token.Keyword keyword.Elif) = Ok (items.Open opening.If ∷ items.Pending (pending.Branch c e) ∷ s, mode.Want)
go_on (opening.Then c) s e at (token.Keyword keyword.Else) = opened (opening.Else c e) s
go_on (opening.Then c) s e at (token.Keyword keyword.End) = Ok (s, mode.Have (if_then c e))
go_on (opening.Else c a) s e at (token.Keyword keyword.End) = Ok (s, mode.Have (if_else c a e))
go_on o s e at t = wrong at t

-- what ends or goes on with something open, after an operand in it
unfoldable pub close : Opening → List Item → Tree → ℕ → Token → Step
close opening.Paren s e at (token.Sign sign.RightParen) = Ok (s, mode.Have e)
close (opening.Key ms) s e at (token.Sign sign.RightParen) = Ok (s, mode.AfterKey ms e false)
close (opening.Arguments x p es) s e at (token.Sign sign.RightParen) = applied x p (es ++ e ∷ []) >>= λ a. Ok (s, mode.Have a)
close (opening.Arguments x p es) s e at (token.Sign sign.Semicolon) = opened (opening.Arguments x p (es ++ e ∷ [])) s
close opening.List s e at (token.Sign sign.RightBracket) = Ok (s, mode.Have (list_of e))
close (opening.Index a) s e at (token.Sign sign.RightBracket) = Ok (s, mode.Have (index a e))
close (opening.Value ms k) s e at (token.Sign sign.RightBrace) = Ok (s, mode.Have (object_of (pairs_of (ms ++ with_value k e ∷ []))))
close (opening.Value ms k) s e at (token.Sign sign.Comma) = Ok (s, mode.Member (ms ++ with_value k e ∷ []) false)
close o s e at t = go_on o s e at t

unfoldable pub suffix : List Item → Tree → ℕ → Token → Step
suffix s e at token.Dot = Ok (s, mode.Dotted e false)
suffix s e at (token.Field x) = Ok (s, mode.Have (index e (lit (text x))))
suffix s e at (token.Sign sign.LeftBracket) = begun (opening.Index e) s
suffix s e at (token.Sign sign.Question) = Ok (s, mode.Have (maybe e))
suffix s e at t = misplaced at

unfoldable pub followed : Follower → List Item → Tree → ℕ → Token → Step
followed follower.Suffix s e at t = suffix s e at t
followed follower.As s e at t = Ok (s, mode.WantVar e)
followed (follower.Joint j) s e at t = Ok (items.Pending (pending.Left j e) ∷ s, mode.Want)

-- what follows an operand that binds so tightly, unless something before it ends here
abbrev pub goes_on : Option Follower → ℕ → List Item → Tree → ℕ → Token → Step → Step
goes_on None l s e at t ended = ended
goes_on (Some f) l s e at t ended = if nat_le (follower_left f) l then followed f s e at t else misplaced at

-- whatever may follow an operand that binds so tightly
unfoldable pub have : List Item → ℕ → Tree → ℕ → Token → Step
have [] l e at t = goes_on (follows 0 t) l [] e at t (wrong at t)
have (items.Pending p ∷ s) l e at t = goes_on (follows (pending_right p) t) l (items.Pending p ∷ s) e at t (have s (pending_level p) (joined p e) at t)
have (items.Open o ∷ s) l e at t = goes_on (follows (opening_level o) t) l (items.Open o ∷ s) e at t (close o s e at t)

-- what may follow an operand and a `.`, or a `.` that is an operand
unfoldable pub dotted : List Item → Tree → Bool → ℕ → Token → Step
dotted s e alone at (token.Text t) = Ok (s, mode.Have (index e (lit (text t))))
dotted s e alone at (token.TextOpen t) = opened (opening.Text (purpose.Index e) (first_text t)) s
dotted s e true at t = have s 10 e at t
dotted s e false at (token.Sign sign.LeftBracket) = begun (opening.Index e) s
dotted s e false at t = misplaced at

-- what may follow the name of a built-in
unfoldable pub called_next : List Item → List ℕ → ℕ → ℕ → Token → Step
called_next s x p at (token.Sign sign.LeftParen) = opened (opening.Arguments x p []) s
called_next s x p at t = applied x p [] >>= λ e. have s 10 e at t

-- ---- members

-- a member after these, or the end where there is none yet
unfoldable pub member : List Item → List ExprMember → Bool → ℕ → Token → Step
member s ms first at (token.Name x) = Ok (s, mode.AfterKey ms (lit (text x)) true)
member s ms first at (token.Keyword k) = Ok (s, mode.AfterKey ms (key_lit k) false)
member s ms first at (token.Text t) = Ok (s, mode.AfterKey ms (lit (text t)) true)
member s ms first at (token.TextOpen t) = opened (opening.Text (purpose.Key ms) (first_text t)) s
member s ms first at (token.Var x) = Ok (s, mode.MemberEnd (ms ++ with_value (lit (text x)) (var x) ∷ []))
member s ms first at (token.Sign sign.LeftParen) = opened (opening.Key ms) s
member s ms true at (token.Sign sign.RightBrace) = Ok (s, mode.Have (object_of (pairs_of ms)))
member s ms first at t = misplaced at

-- what may follow a whole member
unfoldable pub member_end : List ExprMember → ℕ → Token → Result Mode ParseFault
member_end ms at (token.Sign sign.Comma) = Ok (mode.Member ms false)
member_end ms at (token.Sign sign.RightBrace) = Ok (mode.Have (object_of (pairs_of ms)))
member_end ms at t = Err (fault.Syntax at)

-- what may follow a member's key
unfoldable pub after_key : List Item → List ExprMember → Tree → Bool → ℕ → Token → Step
after_key s ms k alone at (token.Sign sign.Colon) = opened (opening.Value ms k) s
after_key s ms k true at t = unmoved s (member_end (ms ++ key_alone k ∷ []) at t)
after_key s ms k false at t = misplaced at

-- ---- all of it

-- the name after an `as`, and the `|` behind it
unfoldable pub bound : Tree → ℕ → Token → Result Mode ParseFault
bound e at (token.Var x) = Ok (mode.WantPipe e x)
bound e at t = Err (fault.Syntax at)

unfoldable pub piped : List Item → Tree → List ℕ → ℕ → Token → Step
piped s e x at (token.Sign sign.Pipe) = Ok (items.Pending (pending.Bind e x) ∷ s, mode.Want)
piped s e x at t = misplaced at

-- what may stand after a token
unfoldable pub step : List Item → Mode → ℕ → Token → Step
step s mode.Want at t = want s at t
step s mode.First at t = first s at t
step s (mode.Have e) at t = have s 10 e at t
step s (mode.Dotted e alone) at t = dotted s e alone at t
step s (mode.Called x p) at t = called_next s x p at t
step s (mode.Member ms first) at t = member s ms first at t
step s (mode.AfterKey ms k alone) at t = after_key s ms k alone at t
step s (mode.MemberEnd ms) at t = unmoved s (member_end ms at t)
step s (mode.WantVar e) at t = unmoved s (bound e at t)
step s (mode.WantPipe e x) at t = piped s e x at t

-- the operand that was read last, if it may be whole: a name with no arguments has to be known
unfoldable pub last_read : Mode → Result (Option Tree) ParseFault
last_read (mode.Have e) = Ok (Some e)
last_read (mode.Dotted e true) = Ok (Some e)
last_read (mode.Called x p) = applied x p [] >>= λ e. Ok (Some e)
last_read m = Ok None

-- the whole expression, where nothing but what waits for this operand is open
unfoldable pub whole : List Item → Tree → ℕ → Result Tree ParseFault
whole [] e at = Ok e
whole (items.Pending p ∷ s) e at = whole s (joined p e) at
whole (items.Open o ∷ s) e at = Err (fault.Syntax at)

abbrev pub whole_or : List Item → ℕ → Option Tree → Result Tree ParseFault
whole_or s at None = Err (fault.Syntax at)
whole_or s at (Some e) = whole s e at

-- the expression, where the text ends
unfoldable pub finish : List Item → Mode → ℕ → Result Tree ParseFault
finish s m at = last_read m >>= whole_or s at

-- what the tokens with their places give, from what is open and what may stand next
unfoldable pub run : List Item → Mode → List (ℕ × Token) → End → Result Tree ParseFault
run s m [] (end.At at) = finish s m at
run s m [] (end.Fault e) = last_read m >>= λ o. Err e
run s m (t ∷ ts) end = step s m t.0 t.1 >>= λ r. run r.0 r.1 ts end
