-- The text of an expression is read as tokens, and by the grammar these are the expression.
use Rattle.std.proofs.Common.{◌≡◌, ◌∙◌, ◌==◌, ◌+◌, ◌≤◌, ◌<◌, ◌^◌, ◌≤ℤ◌, max, ℕ, suc, pos, not, nat_le, List, [], ◌∷◌, ◌++◌, map, length, codes, Bool, true, false, refl, ap, sym, Option, Some, None, subst, arith, append-nil, append_assoc}
use Rattle.std.proofs.lemmas.Bool.{or_parts, not-true}
use Rattle.std.proofs.lemmas.Bool.Decides.{nat_tests}
use Rattle.std.proofs.lemmas.Int.{ints}
use Rattle.std.specs.List.{list_all, list_any}
use Rattle.std.specs.Cmp.Lexicographic.{pointwise}
use lib.Utf8.{encode}
use Rattle.swf_expr.specs.Builtin.{arity, builtin_name, builtin_of}
use Rattle.swf_expr.specs.Expr.{Tree, Trees, no_trees, tree, count, Pairs, no_pairs, pair, here, lit, var, index, iterate, maybe, pipe, both, alt, or, and, binary, neg, empty_list, list_of, object_of, if_then, if_else, bind, apply, is_literal}
use Rattle.swf_expr.specs.ExprNode.{trees_of, pairs_of}
use Rattle.swf_expr.specs.Name.{starts_name, goes_on_name, is_word, is_keyword, is_name}
use Rattle.swf_value.specs.Value.{Value, null, boolean, int, text, IsValue, greatest}
use Rattle.swf_expr.specs.declared.builtin.Builtin.{Builtin}
use Rattle.swf_expr.specs.declared.builtin.Builtin.TheVariants as builtins
use Rattle.swf_expr.specs.declared.expr.ExprMember.{ExprMember}
use Rattle.swf_expr.specs.declared.op.Op.{Op}
use Rattle.swf_expr.specs.declared.op.Op.TheVariants as ops
use Rattle.swf_jq_parse.specs.Grammar
use Rattle.swf_jq_parse.specs.Grammar.{Tokens, Pipe, Level, Term, ArgumentsOf, MembersOf, MemberOf}
use Rattle.swf_jq_parse.specs.Joints.{left, right, sign_of, tree_of, fits, op_level}
use Rattle.swf_jq_parse.specs.Parts.{named, with_value}
use Rattle.swf_jq_parse.specs.declared.joint.Joint.{Joint}
use Rattle.swf_jq_parse.specs.declared.joint.Joint.TheVariants as joint
use Rattle.swf_jq_print.specs.Print.{literal_text, op_text, is_term, enclosed, print_of, print_arguments, print_members}
use Rattle.swf_jq_print.specs.Printed.{enclosed_nesting, nesting, nesting_arguments, nesting_members, IsExpression, AreArguments, AreMembers}
use Rattle.swf_jq_tokens.specs.Lexer.{word_or_name, spelled, plain_token, sign_at}
use Rattle.swf_jq_tokens.specs.Nest.{Nest}
use Rattle.swf_jq_tokens.specs.Words.{keyword_text, all_keywords, keyword_in, keyword_of}
use Rattle.swf_jq_tokens.specs.declared.nest.Bracket.TheVariants as bracket
use Rattle.swf_jq_tokens.specs.declared.token.Keyword.{Keyword}
use Rattle.swf_jq_tokens.specs.declared.token.Keyword.TheVariants as keyword
use Rattle.swf_jq_tokens.specs.declared.token.Sign.{Sign}
use Rattle.swf_jq_tokens.specs.declared.token.Sign.TheVariants as sign
use Rattle.swf_jq_tokens.specs.declared.token.Token.TheVariants as token
use Rattle.swf_jq_tokens.proofs.Lexing.{Reads, ends_read, blank_reads, token_reads, breaks, leads, lead_parts, and_parts, word_reads, var_reads, dot_reads, lone_reads, comma_lone, pipe_lone, semicolon_lone, colon_lone, question_lone, subtract_lone, Opens, open_reads, Closes, close_reads}
use Rattle.swf_jq_tokens.proofs.LexingNumbers.{number_reads, number_leads}
use Rattle.swf_jq_tokens.proofs.LexingTexts.{text_reads}

-- ---- words

-- each built-in is found by its name, which makes no sign of two with what stands before it
known_builtin : (f : Builtin) → (is_name (builtin_name f) ≡ true) × (named (builtin_name f) (arity f) ≡ Some f) × ((rest : List ℕ) → leads (builtin_name f ++ rest) ≡ true)
unfolding builtin_of encode leads
known_builtin builtins.Length = (refl, refl, λ rest. refl)
known_builtin f = (refl, refl, λ rest. refl)

keyword_is : (k : Keyword) → (is_word (keyword_text k) ≡ true) × (keyword_of (keyword_text k) ≡ Some k)
unfolding keyword_of
keyword_is keyword.As = (refl, refl)
keyword_is k = (refl, refl)

no_keyword : (ks : List Keyword) (t : List ℕ) → list_any (pointwise ◌==◌ t) (map keyword_text ks) ≡ false → keyword_in ks t ≡ None
no_keyword [] t h = refl
no_keyword (k ∷ ks) t h =
    let g = or_parts (pointwise ◌==◌ t (keyword_text k)) (list_any (pointwise ◌==◌ t) (map keyword_text ks)) h in
    rw g.0 (no_keyword ks t g.1)

name_is : (t : List ℕ) → is_name t ≡ true → (is_word t ≡ true) × (keyword_of t ≡ None)
unfolding keyword_of
name_is t h =
    let p = and_parts (is_word t) (not (is_keyword t)) h in
    (p.0, no_keyword all_keywords t (not-true (is_keyword t) p.1))

-- a keyword or a name at the front
word_at : (n : Nest) (t rest : List ℕ) (o : Option Keyword) (us : Tokens) → (is_word t ≡ true) × (keyword_of t ≡ o) → breaks rest ≡ true → Reads n rest us
    → Reads n (t ++ rest) (word_or_name t o ∷ us)
word_at n [] rest o us h b r = cc h.0
word_at n (c ∷ ys) rest o us h b r =
    let p = and_parts (starts_name c) (list_all goes_on_name ys) h.0 in
    subst (λ (x : Option Keyword). Reads n (c ∷ (ys ++ rest)) (word_or_name (c ∷ ys) x ∷ us)) h.1 (word_reads n c ys rest us p.0 p.1 b r)

keyword_at : (n : Nest) (k : Keyword) (rest : List ℕ) (us : Tokens) → breaks rest ≡ true → Reads n rest us → Reads n (keyword_text k ++ rest) (token.Keyword k ∷ us)
keyword_at n k rest us b r = word_at n (keyword_text k) rest (Some k) us (keyword_is k) b r

-- a keyword before a blank, and between two
before_blank : (n : Nest) (k : Keyword) (rest : List ℕ) (us : Tokens) → Reads n rest us → Reads n (keyword_text k ++ 32 ∷ rest) (token.Keyword k ∷ us)
unfolding breaks
before_blank n k rest us r = keyword_at n k (32 ∷ rest) us refl (blank_reads n rest us r)

between_blanks : (n : Nest) (k : Keyword) (rest : List ℕ) (us : Tokens) → Reads n rest us → Reads n (32 ∷ (keyword_text k ++ 32 ∷ rest)) (token.Keyword k ∷ us)
between_blanks n k rest us r = blank_reads n (keyword_text k ++ 32 ∷ rest) (token.Keyword k ∷ us) (before_blank n k rest us r)

var_at : (n : Nest) (x rest : List ℕ) (us : Tokens) → is_name x ≡ true → breaks rest ≡ true → Reads n rest us → Reads n (36 ∷ (x ++ rest)) (token.Var x ∷ us)
var_at n [] rest us h b r = cc h
var_at n (c ∷ ys) rest us h b r =
    let w = name_is (c ∷ ys) h in
    let p = and_parts (starts_name c) (list_all goes_on_name ys) w.0 in
    var_reads n c ys rest us p.0 p.1 w.1 b r

-- the end of an `if`
end_at : (n : Nest) (rest : List ℕ) (us : Tokens) → breaks rest ≡ true → Reads n rest us → Reads n (codes " end" ++ rest) (token.Keyword keyword.End ∷ us)
end_at n rest us b r = blank_reads n (codes "end" ++ rest) (token.Keyword keyword.End ∷ us) (keyword_at n keyword.End rest us b r)

-- ---- operators

op_breaks : (o : Op) (xs : List ℕ) → breaks (op_text o ++ xs) ≡ true
unfolding breaks
op_breaks ops.Equal xs = refl
op_breaks o xs = refl

op_reads : (n : Nest) (o : Op) (ds : List ℕ) (us : Tokens) → leads ds ≡ true → Reads n ds us → Reads n (op_text o ++ ds) (token.Sign (sign.Op o) ∷ us)
unfolding spelled plain_token sign_at
op_reads n ops.Equal ds us lead r = token_reads n n 61 (61 ∷ ds) _ 1 us refl (λ at. refl) r
op_reads n ops.NotEqual ds us lead r = token_reads n n 33 (61 ∷ ds) _ 1 us refl (λ at. refl) r
op_reads n ops.Less ds us lead r = token_reads n n 60 ds _ 0 us refl (λ at. rw (lead_parts ds lead).0 refl) r
op_reads n ops.AtMost ds us lead r = token_reads n n 60 (61 ∷ ds) _ 1 us refl (λ at. refl) r
op_reads n ops.Greater ds us lead r = token_reads n n 62 ds _ 0 us refl (λ at. rw (lead_parts ds lead).0 refl) r
op_reads n ops.AtLeast ds us lead r = token_reads n n 62 (61 ∷ ds) _ 1 us refl (λ at. refl) r
op_reads n ops.Add ds us lead r = token_reads n n 43 ds _ 0 us refl (λ at. refl) r
op_reads n ops.Subtract ds us lead r = lone_reads n 45 (sign.Op ops.Subtract) ds us subtract_lone r
op_reads n ops.Multiply ds us lead r = token_reads n n 42 ds _ 0 us refl (λ at. refl) r
op_reads n ops.Divide ds us lead r = token_reads n n 47 ds _ 0 us refl (λ at. rw (lead_parts ds lead).1 refl) r
op_reads n ops.Modulo ds us lead r = token_reads n n 37 ds _ 0 us refl (λ at. refl) r

alternative_reads : (n : Nest) (ds : List ℕ) (us : Tokens) → Reads n ds us → Reads n (47 ∷ 47 ∷ ds) (token.Sign sign.Alternative ∷ us)
unfolding spelled plain_token sign_at
alternative_reads n ds us r = token_reads n n 47 (47 ∷ ds) _ 1 us refl (λ at. refl) r

below : (n : ℕ) → pos n ≤ℤ greatest → n < 2 ^ 53
below n h = omega (arith, ints)

literal_leads : (v : Value) (rest : List ℕ) → is_literal v ≡ true → IsValue v → leads (literal_text v ++ rest) ≡ true
unfolding leads
literal_leads (int (pos m)) rest h g = number_leads m rest (below m g.1)
literal_leads (boolean true) rest h g = refl
literal_leads (boolean false) rest h g = refl
literal_leads v rest h g = cc

-- an operand makes no sign of two with what stands before it
operand_leads : (e : Tree) (rest : List ℕ) → IsExpression e → leads (enclosed (is_term e) (print_of e) ++ rest) ≡ true
unfolding leads
operand_leads (lit v) rest h = literal_leads v rest h.0 h.1
operand_leads (apply f no_trees) rest h = (known_builtin f).2 rest
operand_leads (apply f (tree e es)) rest h =
    let call = 40 ∷ (print_of e ++ (print_arguments true es ++ 41 ∷ [])) in
    ap leads (append_assoc (builtin_name f) call rest) ∙ (known_builtin f).2 (call ++ rest)
operand_leads e rest h = refl

-- ---- texts that are read as a tree, whatever follows that does not go on with them

-- a term, or any expression
abbrev Formed : Bool → Tokens → Tree → Tokens → Type 0
Formed true ts e us = Term ts e us
Formed false ts e us = Level 0 ts e us

-- where the brackets that are open and those in the text nest no deeper than 64
record Prints (b : Bool) (cs : List ℕ) (d : ℕ) (e : Tree) : Type 0 where
  reads : (n : Nest) (rest : List ℕ) (us : Tokens) → Reads n rest us → breaks rest ≡ true → length n + d ≤ 64 → (ts : Tokens) × Reads n (cs ++ rest) ts × Formed b ts e us

-- a term binds however tightly
tight : (k : ℕ) (ts us : Tokens) (a : Tree) → Term ts a us → Level k ts a us
tight k ts us a d = Grammar.level_post k ts us a (Grammar.post_term ts us a d)

whole : {cs : List ℕ} {d : ℕ} {e : Tree} (b : Bool) → Prints b cs d e → Prints false cs d e
whole {e = e} true p = record { reads = λ n rest us r brk room. let q = p.reads n rest us r brk room in (q.0, q.1, tight 0 q.0 us e q.2) }
whole false p = p

-- brackets, which nothing goes on with
record Brackets (o c : ℕ) (g h : Sign) : Type 0 where
  opens : Opens o g
  closes : Closes c h
  apart : (rest : List ℕ) → breaks (c ∷ rest) ≡ true

parens : Brackets 40 41 sign.LeftParen sign.RightParen
unfolding breaks spelled plain_token sign_at
parens = record { opens = (refl, λ n at cs. refl); closes = (refl, λ n at cs. refl); apart = λ rest. refl }

squares : Brackets 91 93 sign.LeftBracket sign.RightBracket
unfolding breaks spelled plain_token sign_at
squares = record { opens = (refl, λ n at cs. refl); closes = (refl, λ n at cs. refl); apart = λ rest. refl }

braces : Brackets 123 125 sign.LeftBrace sign.RightBrace
unfolding breaks spelled plain_token sign_at
braces = record { opens = (refl, λ n at cs. refl); closes = (refl, λ n at cs. refl); apart = λ rest. refl }

-- a text that ends before others, after its first character
under : (n : Nest) (c : ℕ) (cs ds rest : List ℕ) (us : Tokens) → Reads n (c ∷ (cs ++ (ds ++ rest))) us → Reads n ((c ∷ (cs ++ ds)) ++ rest) us
under n c cs ds rest us r = subst (λ (x : List ℕ). Reads n (c ∷ x) us) (sym (append_assoc cs ds rest)) r

-- nothing between brackets, and an expression between brackets
empty : {o c : ℕ} {g h : Sign} → Brackets o c g h → (n : Nest) (rest : List ℕ) (us : Tokens) → Reads n rest us → length n + 1 ≤ 64
    → Reads n (o ∷ c ∷ rest) (token.Sign g ∷ token.Sign h ∷ us)
empty {o = o} {c = c} {g = g} {h = h} k n rest us r room =
    open_reads n o g (c ∷ rest) (token.Sign h ∷ us) k.opens (omega arith) (close_reads n c h rest us k.closes r)

inside : {b : Bool} {cs : List ℕ} {d : ℕ} {e : Tree} {o c : ℕ} {g h : Sign} → Brackets o c g h → Prints b cs d e
    → (n : Nest) (rest : List ℕ) (us : Tokens) → Reads n rest us → length n + suc d ≤ 64
    → (ts : Tokens) × Reads n (o ∷ (cs ++ c ∷ rest)) (token.Sign g ∷ ts) × Level 0 ts e (token.Sign h ∷ us)
inside {b = b} {cs = cs} {o = o} {c = c} {g = g} {h = h} k p n rest us r room =
    let q = (whole b p).reads (bracket.Plain ∷ n) (c ∷ rest) (token.Sign h ∷ us) (close_reads n c h rest us k.closes r) (k.apart rest) (omega arith) in
    (q.0, open_reads n o g (cs ++ c ∷ rest) q.0 k.opens (omega arith) q.1, q.2)

-- an operand stands in parentheses where it is no term
operand : {cs : List ℕ} {d : ℕ} {e : Tree} (b : Bool) → Prints b cs d e → Prints true (enclosed b cs) (enclosed_nesting b d) e
operand true p = p
operand {e = e} false p = record {
  reads = λ n rest us r brk room.
      let q = inside parens p n rest us r room in
      (token.Sign sign.LeftParen ∷ q.0, simp append_assoc q.1, Grammar.term_paren q.0 us e q.2);
}

-- two operands and what joins them
infixed : {b c : Bool} {cs ds : List ℕ} {d e : ℕ} {x y : Tree} (j : Joint) (o : List ℕ) → fits 0 j ≡ true → ((xs : List ℕ) → breaks (o ++ xs) ≡ true)
    → ((n : Nest) (rest : List ℕ) (us : Tokens) → Reads n (enclosed c ds ++ rest) us → Reads n (o ++ (enclosed c ds ++ rest)) (sign_of j ∷ us))
    → Prints b cs d x → Prints c ds e y → Prints false (enclosed b cs ++ (o ++ enclosed c ds)) (max (enclosed_nesting b d) (enclosed_nesting c e)) (tree_of j x y)
infixed {b = b} {c = c} {ds = ds} {x = x} {y = y} j o fit apart before p q = record {
  reads = λ n rest us r brk room.
      let v = (operand c q).reads n rest us r brk (omega arith) in
      let u = (operand b p).reads n (o ++ (enclosed c ds ++ rest)) (sign_of j ∷ v.0) (before n rest v.0 v.1) (apart (enclosed c ds ++ rest)) (omega arith) in
      (u.0, simp append_assoc u.1, Grammar.level_joint 0 u.0 v.0 us x y j fit (tight (left j) u.0 (sign_of j ∷ v.0) x u.2) (tight (right j) v.0 us y v.2));
}

literal_prints : (v : Value) → is_literal v ≡ true → IsValue v → Prints true (literal_text v) 0 (lit v)
literal_prints null h g = record { reads = λ n rest us r brk room. (_, keyword_at n keyword.Null rest us brk r, Grammar.term_null us) }
literal_prints (boolean true) h g = record { reads = λ n rest us r brk room. (_, keyword_at n keyword.True rest us brk r, Grammar.term_true us) }
literal_prints (boolean false) h g = record { reads = λ n rest us r brk room. (_, keyword_at n keyword.False rest us brk r, Grammar.term_false us) }
literal_prints (int (pos m)) h g = record { reads = λ n rest us r brk room. (_, number_reads n m rest us (below m g.1) brk r, Grammar.term_number us m) }
literal_prints (text t) h g = record { reads = λ n rest us r brk room. (_, text_reads n t rest us r, Grammar.term_text _ us (lit (text t)) (Grammar.text_whole us t)) }
literal_prints v h g = cc h

zero_le : (n : ℕ) → nat_le 0 n ≡ true
zero_le n = grind (arith, nat_tests)

-- ---- rows, from the left

abbrev rows : Trees → List Tree
rows no_trees = []
rows (tree e es) = e ∷ rows es

rows_are : (es : Trees) → (trees_of (rows es) ≡ es) × (length (rows es) ≡ count es)
rows_are no_trees = (refl, refl)
rows_are (tree e es) = (ap (tree e) (rows_are es).0, ap suc (rows_are es).1)

abbrev members_of : Pairs → List ExprMember
members_of no_pairs = []
members_of (pair k v ms) = with_value k v ∷ members_of ms

members_are : (ms : Pairs) → pairs_of (members_of ms) ≡ ms
members_are no_pairs = refl
members_are (pair k v ms) = ap (pair k v) (members_are ms)

-- ---- the whole text

-- a member with its key in parentheses, before others
member_reads : {b c : Bool} {cs ds : List ℕ} {d e : ℕ} {k v : Tree} → Prints b cs d k → Prints c ds e v
    → (n : Nest) (ms rest : List ℕ) (us : Tokens) → Reads n (ms ++ rest) us → breaks (ms ++ rest) ≡ true → length n + max (suc d) (enclosed_nesting c e) ≤ 64
    → (ts : Tokens) × Reads n ((40 ∷ (cs ++ (codes "):" ++ (enclosed c ds ++ ms)))) ++ rest) ts × MemberOf ts (with_value k v) us
member_reads {c = c} {ds = ds} {k = k} {v = v} p q n ms rest us r brk room =
    let y = (operand c q).reads n (ms ++ rest) us r brk (omega arith) in
    let text = enclosed c ds ++ (ms ++ rest) in
    let x = inside parens p n (58 ∷ text) (token.Sign sign.Colon ∷ y.0) (lone_reads n 58 sign.Colon text y.0 colon_lone y.1) (omega arith) in
    (token.Sign sign.LeftParen ∷ x.0, simp append_assoc x.1, Grammar.member_value _ y.0 us k v (Grammar.key_pipe x.0 _ k x.2) (tight 2 y.0 us v y.2))

mutual
  unfolding breaks

  prints : (e : Tree) → IsExpression e → Prints (is_term e) (print_of e) (nesting e) e
  prints here h = record { reads = λ n rest us r brk room. (token.Dot ∷ us, dot_reads n rest us brk r, Grammar.term_here us) }
  prints (lit v) h = literal_prints v h.0 h.1
  prints (var x) h = record { reads = λ n rest us r brk room. (token.Var x ∷ us, var_at n x rest us h brk r, Grammar.term_var us x) }
  prints (index a b) h = record {
    reads = λ n rest us r brk room.
        let q = inside squares (prints b h.1) n rest us r (omega arith) in
        let p = (operand _ (prints a h.0)).reads n (91 ∷ (print_of b ++ 93 ∷ rest)) _ q.1 refl (omega arith) in
        (p.0, simp append_assoc p.1, Grammar.level_post 0 p.0 us (index a b) (Grammar.post_index p.0 q.0 us a b (Grammar.post_term p.0 _ a p.2) q.2));
  }
  prints (iterate a) h = record {
    reads = λ n rest us r brk room.
        let p = (operand _ (prints a h)).reads n (91 ∷ 93 ∷ rest) _ (empty squares n rest us r (omega arith)) refl (omega arith) in
        (p.0, simp append_assoc p.1, Grammar.level_post 0 p.0 us (iterate a) (Grammar.post_iterate p.0 us a (Grammar.post_term p.0 _ a p.2)));
  }
  prints (maybe a) h = record {
    reads = λ n rest us r brk room.
        let p = (operand _ (prints a h)).reads n (63 ∷ rest) _ (lone_reads n 63 sign.Question rest us question_lone r) refl room in
        (p.0, simp append_assoc p.1, Grammar.level_post 0 p.0 us (maybe a) (Grammar.post_maybe p.0 us a (Grammar.post_term p.0 _ a p.2)));
  }
  prints (pipe a b) h = infixed joint.Pipe (codes "|") refl (λ xs. refl) (λ n rest us r. lone_reads n 124 sign.Pipe _ us pipe_lone r) (prints a h.0) (prints b h.1)
  prints (both a b) h = infixed joint.Comma (codes ",") refl (λ xs. refl) (λ n rest us r. lone_reads n 44 sign.Comma _ us comma_lone r) (prints a h.0) (prints b h.1)
  prints (alt a b) h = infixed joint.Alt (codes "//") refl (λ xs. refl) (λ n rest us r. alternative_reads n _ us r) (prints a h.0) (prints b h.1)
  prints (or a b) h = infixed joint.Or (codes " or ") refl (λ xs. refl) (λ n rest us r. between_blanks n keyword.Or _ us r) (prints a h.0) (prints b h.1)
  prints (and a b) h = infixed joint.And (codes " and ") refl (λ xs. refl) (λ n rest us r. between_blanks n keyword.And _ us r) (prints a h.0) (prints b h.1)
  prints (binary o a b) h =
      infixed (joint.Op o) (op_text o) (zero_le (op_level o)) (op_breaks o) (λ n rest us r. op_reads n o _ us (operand_leads b rest h.1) r) (prints a h.0) (prints b h.1)
  prints (neg a) h = record {
    reads = λ n rest us r brk room.
        let p = (operand _ (prints a h)).reads n rest us r brk room in
        (_, lone_reads n 45 (sign.Op ops.Subtract) _ p.0 subtract_lone p.1, Grammar.level_minus 0 p.0 us a refl (tight 9 p.0 us a p.2));
  }
  prints empty_list h = record { reads = λ n rest us r brk room. (_, empty squares n rest us r room, Grammar.term_empty_list us) }
  prints (list_of a) h = record {
    reads = λ n rest us r brk room.
        let p = inside squares (prints a h) n rest us r room in
        (token.Sign sign.LeftBracket ∷ p.0, under n 91 (print_of a) (93 ∷ []) rest _ p.1, Grammar.term_list p.0 us a p.2);
  }
  prints (object_of no_pairs) h = record { reads = λ n rest us r brk room. (_, empty braces n rest us r room, Grammar.term_empty_object us) }
  prints (object_of (pair k v ms)) h = record {
    reads = λ n rest us r brk room.
        let q = members ms h.2 (bracket.Plain ∷ n) (125 ∷ rest) _ (close_reads n 125 sign.RightBrace rest us braces.closes r) refl (omega arith) in
        let p = member_reads (prints k h.0) (prints v h.1) (bracket.Plain ∷ n) (print_members true ms) (125 ∷ rest) q.0 q.1 q.2 (omega arith) in
        let text = print_members false (pair k v ms) in (
          token.Sign sign.LeftBrace ∷ p.0,
          under n 123 text (125 ∷ []) rest (token.Sign sign.LeftBrace ∷ p.0) (open_reads n 123 sign.LeftBrace (text ++ 125 ∷ rest) p.0 braces.opens (omega arith) p.1),
          subst (λ (x : Pairs). Term (token.Sign sign.LeftBrace ∷ p.0) (object_of x) us) (members_are (pair k v ms))
              (Grammar.term_object p.0 us (members_of (pair k v ms)) (q.3 p.0 (with_value k v ∷ []) (Grammar.one_member p.0 q.0 (with_value k v) p.2))),
        );
  }
  prints (if_then c a) h = record {
    reads = λ n rest us r brk room.
        let q = (whole _ (prints a h.1)).reads n (codes " end" ++ rest) _ (end_at n rest us brk r) refl (omega arith) in
        let after = codes " then " ++ (print_of a ++ (codes " end" ++ rest)) in
        let p = (whole _ (prints c h.0)).reads n after (token.Keyword keyword.Then ∷ q.0) (between_blanks n keyword.Then _ q.0 q.1) refl (omega arith) in
        let text = print_of c ++ (codes " then " ++ (print_of a ++ codes " end")) in (
          token.Keyword keyword.If ∷ p.0,
          before_blank n keyword.If (text ++ rest) p.0 (simp append_assoc p.1),
          Grammar.term_if p.0 us (if_then c a) (Grammar.branches_end p.0 q.0 us c a p.2 q.2),
        );
  }
  prints (if_else c a b) h = record {
    reads = λ n rest us r brk room.
        let s = (whole _ (prints b h.2)).reads n (codes " end" ++ rest) _ (end_at n rest us brk r) refl (omega arith) in
        let last = codes " else " ++ (print_of b ++ (codes " end" ++ rest)) in
        let q = (whole _ (prints a h.1)).reads n last (token.Keyword keyword.Else ∷ s.0) (between_blanks n keyword.Else _ s.0 s.1) refl (omega arith) in
        let after = codes " then " ++ (print_of a ++ last) in
        let p = (whole _ (prints c h.0)).reads n after (token.Keyword keyword.Then ∷ q.0) (between_blanks n keyword.Then _ q.0 q.1) refl (omega arith) in
        let text = print_of c ++ (codes " then " ++ (print_of a ++ (codes " else " ++ (print_of b ++ codes " end")))) in (
          token.Keyword keyword.If ∷ p.0,
          before_blank n keyword.If (text ++ rest) p.0 (simp append_assoc p.1),
          Grammar.term_if p.0 us (if_else c a b) (Grammar.branches_else p.0 q.0 s.0 us c a b p.2 q.2 s.2),
        );
  }
  prints (bind a x b) h = record {
    reads = λ n rest us r brk room.
        let q = (whole _ (prints b h.2)).reads n rest us r brk (omega arith) in
        let v = var_at n x (124 ∷ (print_of b ++ rest)) _ h.1 refl (lone_reads n 124 sign.Pipe _ q.0 pipe_lone q.1) in
        let p = (operand _ (prints a h.0)).reads n (codes " as " ++ 36 ∷ (x ++ 124 ∷ (print_of b ++ rest))) _ (between_blanks n keyword.As _ _ v) refl (omega arith) in
        (p.0, simp append_assoc p.1, Grammar.level_bind p.0 q.0 us a b x (Grammar.post_term p.0 _ a p.2) q.2);
  }
  prints (apply f no_trees) h = record {
    reads = λ n rest us r brk room. (
      _,
      word_at n (builtin_name f) rest None us (name_is (builtin_name f) (known_builtin f).0) brk r,
      Grammar.term_name us (builtin_name f) f (ap (named (builtin_name f)) h.0 ∙ (known_builtin f).1),
    );
  }
  prints (apply f (tree e es)) h = record {
    reads = λ n rest us r brk room.
        let q = arguments es h.1.1 (bracket.Plain ∷ n) (41 ∷ rest) _ (close_reads n 41 sign.RightParen rest us parens.closes r) refl (omega arith) in
        let p = (whole _ (prints e h.1.0)).reads (bracket.Plain ∷ n) (print_arguments true es ++ 41 ∷ rest) q.0 q.1 q.2 (omega arith) in
        let o = open_reads n 40 sign.LeftParen _ p.0 parens.opens (omega arith) p.1 in
        let text = print_of e ++ (print_arguments true es ++ 41 ∷ rest) in (
          token.Name (builtin_name f) ∷ token.Sign sign.LeftParen ∷ p.0,
          simp append_assoc (word_at n (builtin_name f) (40 ∷ text) None (token.Sign sign.LeftParen ∷ p.0) (name_is (builtin_name f) (known_builtin f).0) refl o),
          subst (λ (x : Trees). Term (token.Name (builtin_name f) ∷ token.Sign sign.LeftParen ∷ p.0) (apply f x) us) (rows_are (tree e es)).0
              (Grammar.term_call p.0 us (builtin_name f) f (rows (tree e es)) (q.3 p.0 (e ∷ []) (Grammar.one_argument p.0 q.0 e p.2))
              (ap (named (builtin_name f)) ((rows_are (tree e es)).1 ∙ h.0) ∙ (known_builtin f).1)),
        );
  }

  -- arguments after others
  arguments : (es : Trees) → AreArguments es → (n : Nest) (rest : List ℕ) (us : Tokens) → Reads n rest us → breaks rest ≡ true → length n + nesting_arguments es ≤ 64
      → (ts : Tokens) × Reads n (print_arguments true es ++ rest) ts × (breaks (print_arguments true es ++ rest) ≡ true)
      × ((vs : Tokens) (fs : List Tree) → ArgumentsOf vs fs ts → ArgumentsOf vs (fs ++ rows es) us)
  arguments no_trees h n rest us r brk room = (us, r, brk, λ vs fs d. subst (λ (x : List Tree). ArgumentsOf vs x us) (sym (append-nil fs)) d)
  arguments (tree e es) h n rest us r brk room =
      let q = arguments es h.1 n rest us r brk (omega arith) in
      let p = (whole _ (prints e h.0)).reads n (print_arguments true es ++ rest) q.0 q.1 q.2 (omega arith) in (
        token.Sign sign.Semicolon ∷ p.0,
        lone_reads n 59 sign.Semicolon ((print_of e ++ print_arguments true es) ++ rest) p.0 semicolon_lone (simp append_assoc p.1),
        refl,
        λ vs fs d. subst (λ (x : List Tree). ArgumentsOf vs x us) (append_assoc fs (e ∷ []) (rows es)) (q.3 vs (fs ++ e ∷ []) (Grammar.more_arguments vs p.0 q.0 fs e d p.2)),
      )

  -- members after others
  members : (ms : Pairs) → AreMembers ms → (n : Nest) (rest : List ℕ) (us : Tokens) → Reads n rest us → breaks rest ≡ true → length n + nesting_members ms ≤ 64
      → (ts : Tokens) × Reads n (print_members true ms ++ rest) ts × (breaks (print_members true ms ++ rest) ≡ true)
      × ((vs : Tokens) (ns : List ExprMember) → MembersOf vs ns ts → MembersOf vs (ns ++ members_of ms) us)
  members no_pairs h n rest us r brk room = (us, r, brk, λ vs ns d. subst (λ (x : List ExprMember). MembersOf vs x us) (sym (append-nil ns)) d)
  members (pair k v ms) h n rest us r brk room =
      let q = members ms h.2 n rest us r brk (omega arith) in
      let p = member_reads (prints k h.0) (prints v h.1) n (print_members true ms) rest q.0 q.1 q.2 (omega arith) in (
        token.Sign sign.Comma ∷ p.0,
        lone_reads n 44 sign.Comma (print_members false (pair k v ms) ++ rest) p.0 comma_lone p.1,
        refl,
        λ vs ns d. subst (λ (x : List ExprMember). MembersOf vs x us) (append_assoc ns (with_value k v ∷ []) (members_of ms))
            (q.3 vs (ns ++ with_value k v ∷ []) (Grammar.more_members vs p.0 q.0 ns (with_value k v) d p.2)),
      )

-- the tokens of an expression's text are it
pub text_is_read : (e : Tree) → IsExpression e → nesting e ≤ 64 → (ts : Tokens) × Reads [] (print_of e) ts × Pipe ts e
unfolding breaks
text_is_read e h deep =
    let q = (whole (is_term e) (prints e h)).reads [] [] [] (ends_read []) refl (omega arith) in
    (q.0, subst (λ (x : List ℕ). Reads [] x q.0) (append-nil (print_of e)) q.1, q.2)
