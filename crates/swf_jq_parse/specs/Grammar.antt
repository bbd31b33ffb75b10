-- The grammar of expressions, production by production, between token lists and trees (jq 1.7 manual). Each relation says that
-- a token list begins with such a tree, and what is left after it.
use Rattle.std.specs.Prelude.{◌≡◌, ◌++◌, ℕ, pos, true, false, nat_le, length, List, [], ◌∷◌, Some}
use Rattle.swf_expr.specs.Expr.{Tree, no_trees, no_pairs, here, lit, var, index, iterate, maybe, neg, empty_list, list_of, object_of, if_then, if_else, bind, apply}
use Rattle.swf_value.specs.Value.{null, boolean, int, text}
use Rattle.swf_expr.specs.declared.builtin.Builtin.{Builtin}
use Rattle.swf_expr.specs.ExprNode.{trees_of, pairs_of}
use Rattle.swf_expr.specs.declared.expr.ExprMember.{ExprMember}
use Rattle.swf_expr.specs.declared.op.Op.TheVariants as ops
pub use Rattle.swf_jq_tokens.specs.Lexer.{Tokens}
use Rattle.swf_jq_parse.specs.Joints.{left, right, sign_of, tree_of, fits}
use Rattle.swf_jq_parse.specs.Parts.{with_value, key_alone, plus_piece, plus_text, first_text, named, key_lit}
use Rattle.swf_jq_parse.specs.declared.joint.Joint.{Joint}
use Rattle.swf_jq_tokens.specs.declared.token.Keyword.{Keyword}
use Rattle.swf_jq_tokens.specs.declared.token.Keyword.TheVariants as keyword
use Rattle.swf_jq_tokens.specs.declared.token.Sign.TheVariants as sign
use Rattle.swf_jq_tokens.specs.declared.token.Token.TheVariants as token

mutual
  -- what binds at least so tightly: left joint right | "-" unary | post "as" "$" name "|" pipe | post
  pub data Level : ℕ → Tokens → Tree → Tokens → Type 0 where
    level_joint : (k : ℕ) (ts vs us : Tokens) (a b : Tree) (j : Joint) → fits k j ≡ true
        → Level (left j) ts a (sign_of j ∷ vs) → Level (right j) vs b us → Level k ts (tree_of j a b) us
    level_minus : (k : ℕ) (ts us : Tokens) (a : Tree) → nat_le k 9 ≡ true → Level 9 ts a us → Level k (token.Sign (sign.Op ops.Subtract) ∷ ts) (neg a) us
    level_bind : (ts vs us : Tokens) (a b : Tree) (x : List ℕ) → Post ts a (token.Keyword keyword.As ∷ token.Var x ∷ token.Sign sign.Pipe ∷ vs)
        → Level 0 vs b us → Level 0 ts (bind a x b) us
    level_post : (k : ℕ) (ts us : Tokens) (a : Tree) → Post ts a us → Level k ts a us

  -- post = term { "." name | "." text | ["."] "[" pipe "]" | ["."] "[" "]" | "?" }
  pub data Post : Tokens → Tree → Tokens → Type 0 where
    post_term : (ts us : Tokens) (a : Tree) → Term ts a us → Post ts a us
    post_field : (ts us : Tokens) (a : Tree) (x : List ℕ) → Post ts a (token.Field x ∷ us) → Post ts (index a (lit (text x))) us
    post_text : (ts vs us : Tokens) (a k : Tree) → Post ts a (token.Dot ∷ vs) → TextOf vs k us → Post ts (index a k) us
    post_index : (ts vs us : Tokens) (a k : Tree) → Post ts a (token.Sign sign.LeftBracket ∷ vs) → Level 0 vs k (token.Sign sign.RightBracket ∷ us) → Post ts (index a k) us
    post_dot_index : (ts vs us : Tokens) (a k : Tree) → Post ts a (token.Dot ∷ token.Sign sign.LeftBracket ∷ vs) → Level 0 vs k (token.Sign sign.RightBracket ∷ us) → Post ts (index a k) us
    post_iterate : (ts us : Tokens) (a : Tree) → Post ts a (token.Sign sign.LeftBracket ∷ token.Sign sign.RightBracket ∷ us) → Post ts (iterate a) us
    post_dot_iterate : (ts us : Tokens) (a : Tree) → Post ts a (token.Dot ∷ token.Sign sign.LeftBracket ∷ token.Sign sign.RightBracket ∷ us) → Post ts (iterate a) us
    post_maybe : (ts us : Tokens) (a : Tree) → Post ts a (token.Sign sign.Question ∷ us) → Post ts (maybe a) us

  -- term = "." | "." name | "." text | number | text | "$" name | "null" | "true" | "false" | "(" pipe ")"
  --      | "[" [pipe] "]" | "{" [ member { "," member } ] "}" | "if" branches | name [ "(" arguments ")" ]
  pub data Term : Tokens → Tree → Tokens → Type 0 where
    term_here : (us : Tokens) → Term (token.Dot ∷ us) here us
    term_field : (us : Tokens) (x : List ℕ) → Term (token.Field x ∷ us) (index here (lit (text x))) us
    term_dot_text : (ts us : Tokens) (k : Tree) → TextOf ts k us → Term (token.Dot ∷ ts) (index here k) us
    term_number : (us : Tokens) (n : ℕ) → Term (token.Number n ∷ us) (lit (int (pos n))) us
    term_text : (ts us : Tokens) (k : Tree) → TextOf ts k us → Term ts k us
    term_var : (us : Tokens) (x : List ℕ) → Term (token.Var x ∷ us) (var x) us
    term_null : (us : Tokens) → Term (token.Keyword keyword.Null ∷ us) (lit null) us
    term_true : (us : Tokens) → Term (token.Keyword keyword.True ∷ us) (lit (boolean true)) us
    term_false : (us : Tokens) → Term (token.Keyword keyword.False ∷ us) (lit (boolean false)) us
    term_paren : (ts us : Tokens) (a : Tree) → Level 0 ts a (token.Sign sign.RightParen ∷ us) → Term (token.Sign sign.LeftParen ∷ ts) a us
    term_empty_list : (us : Tokens) → Term (token.Sign sign.LeftBracket ∷ token.Sign sign.RightBracket ∷ us) empty_list us
    term_list : (ts us : Tokens) (a : Tree) → Level 0 ts a (token.Sign sign.RightBracket ∷ us) → Term (token.Sign sign.LeftBracket ∷ ts) (list_of a) us
    term_empty_object : (us : Tokens) → Term (token.Sign sign.LeftBrace ∷ token.Sign sign.RightBrace ∷ us) (object_of no_pairs) us
    term_object : (ts us : Tokens) (ms : List ExprMember) → MembersOf ts ms (token.Sign sign.RightBrace ∷ us) → Term (token.Sign sign.LeftBrace ∷ ts) (object_of (pairs_of ms)) us
    term_if : (ts us : Tokens) (a : Tree) → Branches ts a us → Term (token.Keyword keyword.If ∷ ts) a us
    term_name : (us : Tokens) (x : List ℕ) (b : Builtin) → named x 0 ≡ Some b → Term (token.Name x ∷ us) (apply b no_trees) us
    term_call : (ts us : Tokens) (x : List ℕ) (b : Builtin) (es : List Tree) → ArgumentsOf ts es (token.Sign sign.RightParen ∷ us) → named x (length es) ≡ Some b
        → Term (token.Name x ∷ token.Sign sign.LeftParen ∷ ts) (apply b (trees_of es)) us

  -- arguments = pipe { ";" pipe }
  pub data ArgumentsOf : Tokens → List Tree → Tokens → Type 0 where
    one_argument : (ts us : Tokens) (a : Tree) → Level 0 ts a us → ArgumentsOf ts (a ∷ []) us
    more_arguments : (ts vs us : Tokens) (es : List Tree) (a : Tree) → ArgumentsOf ts es (token.Sign sign.Semicolon ∷ vs) → Level 0 vs a us → ArgumentsOf ts (es ++ a ∷ []) us

  -- branches = pipe "then" pipe ( "end" | "else" pipe "end" | "elif" branches )
  pub data Branches : Tokens → Tree → Tokens → Type 0 where
    branches_end : (ts vs us : Tokens) (c a : Tree) → Level 0 ts c (token.Keyword keyword.Then ∷ vs) → Level 0 vs a (token.Keyword keyword.End ∷ us) → Branches ts (if_then c a) us
    branches_else : (ts vs ws us : Tokens) (c a b : Tree) → Level 0 ts c (token.Keyword keyword.Then ∷ vs) → Level 0 vs a (token.Keyword keyword.Else ∷ ws)
        → Level 0 ws b (token.Keyword keyword.End ∷ us) → Branches ts (if_else c a b) us
    branches_elif : (ts vs ws us : Tokens) (c a b : Tree) → Level 0 ts c (token.Keyword keyword.Then ∷ vs) → Level 0 vs a (token.Keyword keyword.Elif ∷ ws)
        → Branches ws b us → Branches ts (if_else c a b) us

  -- a text: whole, or its pieces and what stands between them in `\(` and `)`
  pub data TextOf : Tokens → Tree → Tokens → Type 0 where
    text_whole : (us : Tokens) (t : List ℕ) → TextOf (token.Text t ∷ us) (lit (text t)) us
    text_pieces : (ts us : Tokens) (t : List ℕ) (a : Tree) → Pieces ts a (token.TextClose t ∷ us) → TextOf ts (plus_text a t) us

  -- the pieces of a text from its start to before a `)`, as the sum from left to right
  pub data Pieces : Tokens → Tree → Tokens → Type 0 where
    pieces_first : (ts us : Tokens) (t : List ℕ) (e : Tree) → Level 0 ts e us → Pieces (token.TextOpen t ∷ ts) (plus_piece (first_text t) e) us
    pieces_more : (ts vs us : Tokens) (t : List ℕ) (a e : Tree) → Pieces ts a (token.TextMid t ∷ vs) → Level 0 vs e us → Pieces ts (plus_piece (Some (plus_text a t)) e) us

  -- member { "," member }
  pub data MembersOf : Tokens → List ExprMember → Tokens → Type 0 where
    one_member : (ts us : Tokens) (m : ExprMember) → MemberOf ts m us → MembersOf ts (m ∷ []) us
    more_members : (ts vs us : Tokens) (ms : List ExprMember) (m : ExprMember) → MembersOf ts ms (token.Sign sign.Comma ∷ vs) → MemberOf vs m us → MembersOf ts (ms ++ m ∷ []) us

  -- member = key ":" value | name | text | "$" name, where value = alt { "|" alt }, grouped to the right
  pub data MemberOf : Tokens → ExprMember → Tokens → Type 0 where
    member_value : (ts vs us : Tokens) (k v : Tree) → KeyOf ts k (token.Sign sign.Colon ∷ vs) → Level 2 vs v us → MemberOf ts (with_value k v) us
    member_name : (us : Tokens) (x : List ℕ) → MemberOf (token.Name x ∷ us) (key_alone (lit (text x))) us
    member_text : (ts us : Tokens) (k : Tree) → TextOf ts k us → MemberOf ts (key_alone k) us
    member_var : (us : Tokens) (x : List ℕ) → MemberOf (token.Var x ∷ us) (with_value (lit (text x)) (var x)) us

  -- key = name | text | "(" pipe ")", and keywords are names here
  pub data KeyOf : Tokens → Tree → Tokens → Type 0 where
    key_name : (us : Tokens) (x : List ℕ) → KeyOf (token.Name x ∷ us) (lit (text x)) us
    key_keyword : (us : Tokens) (k : Keyword) → KeyOf (token.Keyword k ∷ us) (key_lit k) us
    key_text : (ts us : Tokens) (k : Tree) → TextOf ts k us → KeyOf ts k us
    key_pipe : (ts us : Tokens) (a : Tree) → Level 0 ts a (token.Sign sign.RightParen ∷ us) → KeyOf (token.Sign sign.LeftParen ∷ ts) a us

-- the tokens are a whole expression
abbrev pub Pipe : Tokens → Tree → Type 0
Pipe ts e = Level 0 ts e []
