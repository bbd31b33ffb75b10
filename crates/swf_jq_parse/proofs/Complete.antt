-- What is an expression of the grammar is read as its tree: what the tokens that are still to come make of what is open.
use Rattle.std.proofs.Common.{◌≡◌, ◌∙◌, ◌++◌, ℕ, length, Bool, List, [], ◌∷◌, true, false, refl, ap, sym, nat_le, Option, Some, None, Ok, Err, subst, inl, inr, pos}
use Rattle.std.proofs.lemmas.Bool.{cases_Bool}
use Rattle.swf_expr.specs.Expr.{Tree, here, index, no_trees, apply, lit, var, iterate, maybe, neg, empty_list, list_of, object_of, if_then, if_else}
use Rattle.swf_expr.specs.declared.builtin.Builtin.{Builtin}
use Rattle.swf_expr.specs.ExprNode.{trees_of, pairs_of}
use Rattle.swf_expr.specs.declared.expr.ExprMember.{ExprMember}
use Rattle.swf_jq_tokens.specs.Gives.{◌>>=◌}
use Rattle.swf_jq_parse.specs.Grammar.{Tokens, Pipe, Level, Post, Term, ArgumentsOf, Branches, TextOf, Pieces, MembersOf, MemberOf, KeyOf}
use Rattle.swf_jq_parse.specs.GrammarLaws.{Placed, tokens, IsComplete}
use Rattle.swf_jq_parse.specs.Joints.{follower_left, follower_level, role, kept, follows, level, left, right, sign_of}
use Rattle.swf_jq_parse.specs.Machine.{Step, pending_level, pending_right, joined, opening_level, context, step, finish, last_read, whole, whole_or, have, goes_on, followed, close, go_on, dotted, called_next, applied, applied_to, after_key, member_end, unmoved, run, misplaced, want, want_name, want_keyword, want_sign, first, emptied, text_end, suffix, member, bound, piped}
use Rattle.swf_jq_parse.specs.Parts.{named, with_value, key_alone, is_called, first_text, plus_piece, plus_text}
use Rattle.swf_jq_parse.specs.declared.joint.Follower.{Follower}
use Rattle.swf_jq_parse.specs.declared.mode.Mode.{Mode}
use Rattle.swf_jq_parse.specs.declared.mode.Mode.TheVariants as mode
use Rattle.swf_jq_parse.specs.declared.stack.Item.{Item}
use Rattle.swf_jq_parse.specs.declared.stack.Item.TheVariants as items
use Rattle.swf_jq_parse.specs.declared.stack.Opening.{Opening}
use Rattle.swf_jq_parse.specs.declared.stack.Opening.TheVariants as opening
use Rattle.swf_jq_parse.specs.declared.stack.Pending.{Pending}
use Rattle.swf_jq_tokens.specs.declared.lexer.End.TheVariants as end
use Rattle.swf_jq_tokens.specs.declared.token.Sign.TheVariants as sign
use Rattle.swf_jq_tokens.specs.declared.token.Token.{Token}
use Rattle.swf_jq_tokens.specs.declared.token.Token.TheVariants as token
use Rattle.swf_jq_parse.proofs.Having.{left_over, have_is, have_left, have_followed, have_loose}
use Rattle.swf_jq_parse.proofs.Binding.{chosen, other, sits, shifts, le_self, le_up, left_low, level_low, fits_level, fits_under, follows_from, follows_sign, means, means_level, right_low, under, under_self, under_le, under_left}
use Rattle.swf_value.specs.Value.{null, boolean, int, text}
use Rattle.swf_jq_parse.specs.Grammar
use Rattle.swf_jq_parse.specs.declared.joint.Follower.TheVariants as follower
use Rattle.swf_jq_parse.specs.declared.stack.Pending.TheVariants as pending
use Rattle.swf_jq_parse.specs.declared.stack.Purpose.{Purpose}
use Rattle.swf_jq_parse.specs.declared.stack.Purpose.TheVariants as purpose
use Rattle.swf_jq_tokens.specs.declared.token.Keyword.TheVariants as keyword
use Rattle.swf_jq_parse.proofs.Names.{is_known}

-- this holds of what a step leaves, which is no fault
abbrev pub After : (List Item → Mode → Type 0) → Step → Type 0
After P (Ok r) = P r.0 r.1
After P (Err e) = ⊥

-- these tokens and then the end make this tree
abbrev pub Accepts : Tokens → Tree → List Item → Mode → Type 0
Accepts [] e s m = (at : ℕ) → finish s m at ≡ Ok e
Accepts (t ∷ ts) e s m = (at : ℕ) → After (Accepts ts e) (step s m at t)

-- these tokens and then the end make this tree, after an operand that binds so tightly
abbrev pub Takes : Tokens → Tree → List Item → ℕ → Tree → Type 0
Takes [] e s l a = (at : ℕ) → whole s a at ≡ Ok e
Takes (t ∷ ts) e s l a = (at : ℕ) → After (Accepts ts e) (have s l a at t)

-- what the tokens make is what the run gives
pub accepts-run : (ts : Placed) (at : ℕ) (e : Tree) (s : List Item) (m : Mode) → Accepts (tokens ts) e s m → run s m ts (end.At at) ≡ Ok e
unfolding run
accepts-run [] at e s m h = h at
accepts-run (t ∷ ts) at e s m h = so (step s m t.0 t.1) (accepts-run ts at e) (h t.0)
  where
    so : (r : Step) → ((q : List Item) (n : Mode) → Accepts (tokens ts) e q n → run q n ts (end.At at) ≡ Ok e) → After (Accepts (tokens ts) e) r
        → (r >>= λ x. run x.0 x.1 ts (end.At at)) ≡ Ok e
    so (Ok x) next k = next x.0 x.1 k
    so (Err f) next k = absurd k

pub takes_have : (ts : Tokens) (e : Tree) (s : List Item) (a : Tree) → Takes ts e s 10 a → Accepts ts e s (mode.Have a)
unfolding step finish last_read
takes_have [] e s a h = h
takes_have (t ∷ ts) e s a h = h

-- ---- what follows an operand

-- a token that follows the operand
pub shifted : (P : List Item → Mode → Type 0) (s : List Item) (l : ℕ) (a : Tree) (at : ℕ) (t : Token) (f : Follower)
    → follows (context s) t ≡ Some f → nat_le (follower_left f) l ≡ true → After P (followed f s a at t) → After P (have s l a at t)
shifted P s l a at t f is low h = subst (After P) (sym (have_followed s l a at t f is low)) h

-- what binds more tightly takes no fewer tokens
tighter : (ts : Tokens) (e : Tree) (s : List Item) (k l : ℕ) (a : Tree)
    → ((f : Follower) → nat_le (follower_left f) k ≡ true → nat_le (follower_left f) l ≡ true) → Takes ts e s k a → Takes ts e s l a
tighter [] e s k l a up h = h
tighter (t ∷ ts) e s k l a up h = λ at.
    subst (After (Accepts ts e)) (sym (have_is s l a at t)) (so at (follows (context s) t) (subst (After (Accepts ts e)) (have_is s k a at t) (h at)))
  where
    so : (at : ℕ) (o : Option Follower) → After (Accepts ts e) (goes_on o k s a at t (left_over s a at t)) → After (Accepts ts e) (goes_on o l s a at t (left_over s a at t))
    so at None d = d
    so at (Some f) d = elim (cases_Bool (nat_le (follower_left f) k)) [
      | inl low ↦
          subst (After (Accepts ts e)) (chosen (nat_le (follower_left f) k) (followed f s a at t) (misplaced at) low ∙ sym (chosen (nat_le (follower_left f) l) _ _ (up f low))) d
      | inr high ↦ absurd (subst (After (Accepts ts e)) (other (nat_le (follower_left f) k) (followed f s a at t) (misplaced at) high) d)
    ]

-- what waits takes its right operand before what does not follow that
pub pops : (ts : Tokens) (e : Tree) (s : List Item) (p : Pending) (l : ℕ) (b : Tree) → sits (context s) p ≡ true
    → Takes ts e s (pending_level p) (joined p b) → Takes ts e (items.Pending p ∷ s) l b
unfolding have whole
pops [] e s p l b sit h = h
pops (t ∷ ts) e s p l b sit h = λ at. so at (follows (pending_right p) t) refl
  where
    so : (at : ℕ) (o : Option Follower) → follows (pending_right p) t ≡ o → After (Accepts ts e) (goes_on o l (items.Pending p ∷ s) b at t (have s (pending_level p) (joined p b) at t))
    so at None is = h at
    so at (Some f) is =
        let k = shifts (context s) p t f sit is in
        absurd (subst (After (Accepts ts e)) (have_loose s (pending_level p) (joined p b) at t f k.0 k.1) (h at))

-- ---- what may be an operand by itself

-- these stand after no operand
abbrev alien : Token → Bool
alien (token.Text t) = true
alien (token.TextOpen t) = true
alien (token.Sign sign.LeftParen) = true
alien t = false

none_follows : (c : ℕ) (t : Token) → alien t ≡ true → follows c t ≡ None
none_follows c (token.Sign sign.LeftParen) k = refl
none_follows c t k = cc k

none_closes : (t : Token) (o : Opening) (s : List Item) (a : Tree) (at : ℕ) → alien t ≡ true → close o s a at t ≡ misplaced at
unfolding close go_on
none_closes (token.Text x) opening.Paren s a at k = refl
none_closes (token.TextOpen x) opening.Paren s a at k = refl
none_closes (token.Sign sign.LeftParen) opening.Paren s a at k = refl
none_closes t o s a at k = cc k

stray : (P : List Item → Mode → Type 0) (s : List Item) (l : ℕ) (a : Tree) (at : ℕ) (t : Token) → alien t ≡ true → After P (have s l a at t) → ⊥
stray P [] l a at t k h = subst (After P) (have_left [] l a at t (none_follows 0 t k)) h
stray P (items.Pending p ∷ s) l a at t k h =
    stray P s (pending_level p) (joined p a) at t k (subst (After P) (have_left (items.Pending p ∷ s) l a at t (none_follows (pending_right p) t k)) h)
stray P (items.Open o ∷ s) l a at t k h = subst (After P) (have_left (items.Open o ∷ s) l a at t (none_follows (opening_level o) t k) ∙ none_closes t o s a at k) h

-- a `.` that is an operand
pub takes_dotted : (ts : Tokens) (e : Tree) (s : List Item) (a : Tree) → Takes ts e s 10 a → Accepts ts e s (mode.Dotted a true)
unfolding step finish last_read dotted
takes_dotted [] e s a h = h
takes_dotted (token.Text t ∷ ts) e s a h = absurd (stray (Accepts ts e) s 10 a 0 (token.Text t) refl (h 0))
takes_dotted (token.TextOpen t ∷ ts) e s a h = absurd (stray (Accepts ts e) s 10 a 0 (token.TextOpen t) refl (h 0))
takes_dotted (t ∷ ts) e s a h = h

-- a name that is called with no arguments
pub takes_called : (ts : Tokens) (e : Tree) (s : List Item) (x : List ℕ) (p : ℕ) (b : Builtin) → named x 0 ≡ Some b
    → Takes ts e s 10 (apply b no_trees) → Accepts ts e s (mode.Called x p)
unfolding step finish last_read called_next applied applied_to
takes_called [] e s x p b known h = λ at. subst (λ (o : Option Builtin). ((applied_to o p [] >>= λ d. Ok (Some d)) >>= whole_or s at) ≡ Ok e) (sym known) (h at)
takes_called (token.Sign sign.LeftParen ∷ ts) e s x p b known h = absurd (stray (Accepts ts e) s 10 (apply b no_trees) 0 (token.Sign sign.LeftParen) refl (h 0))
takes_called (t ∷ ts) e s x p b known h = λ at. subst (λ (o : Option Builtin). After (Accepts ts e) (applied_to o p [] >>= λ d. have s 10 d at t)) (sym known) (h at)

-- a key that stands alone
pub takes_alone : (ts : Tokens) (e : Tree) (s : List Item) (ms : List ExprMember) (k : Tree) → Accepts ts e s (mode.MemberEnd (ms ++ key_alone k ∷ []))
    → Accepts ts e s (mode.AfterKey ms k true)
unfolding step finish last_read after_key member_end
takes_alone [] e s ms k h = λ at. cc (h at)
takes_alone (token.Sign sign.Colon ∷ ts) e s ms k h = absurd (h 0)
takes_alone (t ∷ ts) e s ms k h = h

-- a member's value
pub takes_value : (ts : Tokens) (e : Tree) (s : List Item) (ms : List ExprMember) (k v : Tree) → Accepts ts e s (mode.MemberEnd (ms ++ with_value k v ∷ []))
    → Takes ts e (items.Open (opening.Value ms k) ∷ s) 2 v
unfolding step finish last_read member_end have close
takes_value [] e s ms k v h = λ at. cc (h at)
takes_value (token.Sign sign.Comma ∷ ts) e s ms k v h = h
takes_value (token.Sign sign.RightBrace ∷ ts) e s ms k v h = h
takes_value (t ∷ ts) e s ms k v h = absurd (h 0)

-- ---- what each production reads

-- an operand that binds so tightly, inside what asks for no more
abbrev LevelReads : ℕ → Tokens → Tree → Tokens → Type 0
LevelReads k ts a us = (s : List Item) (e : Tree) → nat_le (context s) 10 ≡ true → under (context s) k ≡ true → Takes us e s k a → Accepts ts e s mode.Want

-- where a text for some purpose may stand
abbrev text_mode : Purpose → Bool → Mode
text_mode purpose.Operand b = mode.Want
text_mode (purpose.Index a) b = mode.Dotted a b
text_mode (purpose.Key ms) b = mode.Member ms b

-- a step that is known
went : (P : List Item → Mode → Type 0) (r : Step) (s : List Item) (m : Mode) → r ≡ Ok (s, m) → P s m → After P r
went P r s m is k = subst (After P) (sym is) k

-- what makes a longer operand of one
suffixed : (t : Token) (us : Tokens) (e : Tree) (s : List Item) (a : Tree) → role (context s) t ≡ Some follower.Suffix → nat_le (context s) 10 ≡ true
    → ((at : ℕ) → After (Accepts us e) (suffix s a at t)) → Takes (t ∷ us) e s 10 a
unfolding followed
suffixed t us e s a is low h at =
    shifted (Accepts us e) s 10 a at t follower.Suffix (ap (kept (context s)) is ∙ follows_from (context s) follower.Suffix low) refl (h at)

raised : (us : Tokens) (e : Tree) (s : List Item) (k l : ℕ) (a : Tree) → nat_le k l ≡ true → Takes us e s k a → Takes us e s l a
raised us e s k l a up h = tighter us e s k l a (λ f g. le_up (follower_left f) k l g up) h

text_steps : (q : Purpose) (b : Bool) (s : List Item) (t : List ℕ) (at : ℕ)
    → (step s (text_mode q b) at (token.Text t) ≡ Ok (s, text_end q (lit (text t))))
    × (step s (text_mode q b) at (token.TextOpen t) ≡ Ok (items.Open (opening.Text q (first_text t)) ∷ s, mode.Want))
unfolding step want dotted member text_end
text_steps purpose.Operand b s t at = (refl, refl)
text_steps (purpose.Index a) true s t at = (refl, refl)
text_steps (purpose.Index a) false s t at = (refl, refl)
text_steps (purpose.Key ms) b s t at = (refl, refl)

-- what begins a list or an index that is not empty
begins : (ts : Tokens) (e : Tree) (s : List Item) → Accepts ts e s mode.Want → Accepts ts e s mode.First
unfolding step finish last_read want want_sign first
begins [] e s h = λ at. cc (h at)
begins (token.Sign sign.RightBracket ∷ ts) e s h = absurd (h 0)
begins (t ∷ ts) e s h = h

indexed : (ts us : Tokens) (a k e : Tree) (s : List Item) → LevelReads 0 ts k (token.Sign sign.RightBracket ∷ us) → Takes us e s 10 (index a k) → Accepts ts e (items.Open (opening.Index a) ∷ s) mode.First
unfolding have close
indexed ts us a k e s reads next =
    begins ts e (items.Open (opening.Index a) ∷ s) (reads (items.Open (opening.Index a) ∷ s) e refl refl (λ at. takes_have us e s (index a k) next))

name_step : (s : List Item) (x : List ℕ) (n : ℕ) (b : Builtin) (at : ℕ) → named x n ≡ Some b → step s mode.Want at (token.Name x) ≡ Ok (s, mode.Called x at)
unfolding step want want_name
name_step s x n b at known = ap (unmoved s) (chosen (is_called x) _ _ (is_known x n b known))

-- a call's last argument
pub called : (us : Tokens) (e : Tree) (l : ℕ) (x : List ℕ) (p : ℕ) (before : List Tree) (c : Tree) (b : Builtin) (s : List Item) → named x (length (before ++ c ∷ [])) ≡ Some b
    → Takes us e s 10 (apply b (trees_of (before ++ c ∷ []))) → Takes (token.Sign sign.RightParen ∷ us) e (items.Open (opening.Arguments x p before) ∷ s) l c
unfolding have close applied applied_to
called us e l x p before c b s known next at =
    subst (λ (o : Option Builtin). After (Accepts us e) (applied_to o p (before ++ c ∷ []) >>= λ a. Ok (s, mode.Have a))) (sym known) (takes_have us e s (apply b (trees_of (before ++ c ∷ []))) next)

-- nothing follows branches before they are joined
nothing_follows : (P : List Item → Mode → Type 0) (s : List Item) (b : Tree) (at : ℕ) (t : Token) (r : Step) (o : Option Follower) → follows 11 t ≡ o → After P r → After P (goes_on o 10 s b at t r)
nothing_follows P s b at t r None is h = h
nothing_follows P s b at t r (Some f) is h = cc (le_up 11 (follower_level f) 10 (means_level 11 t f (means 11 t f is)) (level_low f))

-- branches that are joined with those before them
joins : (us : Tokens) (e : Tree) (s : List Item) (c a b : Tree) → Takes us e s 10 (if_else c a b) → Takes us e (items.Pending (pending.Branch c a) ∷ s) 10 b
unfolding have whole
joins [] e s c a b h = h
joins (t ∷ us) e s c a b h = λ at. nothing_follows (Accepts us e) (items.Pending (pending.Branch c a) ∷ s) b at t (have s 10 (if_else c a b) at t) (follows 11 t) refl (h at)

-- ---- production by production

mutual
  unfolding step want want_sign followed bound piped suffix dotted want_keyword first emptied text_end have close called_next member go_on member_end after_key

  levels : {k : ℕ} {ts us : Tokens} {a : Tree} → Level k ts a us → LevelReads k ts a us
  levels (Grammar.level_joint k ts vs us a b j fit c d) = λ s e low in_k next.
      let fit_s = fits_under (context s) k j in_k fit in
      levels c s e low (under_left (context s) j fit_s) (λ at.
      shifted (Accepts vs e) s (left j) a at (sign_of j) (follower.Joint j) (follows_sign (context s) j fit_s) (le_self (left j))
      (levels d (items.Pending (pending.Left j a) ∷ s) e (le_up (right j) 9 10 (right_low j) refl) (under_self (right j))
      (pops us e s (pending.Left j a) (right j) b fit_s (raised us e s k (level j) _ (fits_level k j fit) next))))
  levels (Grammar.level_minus k ts us a at_most c) = λ s e low in_k next at.
      levels c (items.Pending pending.Negate ∷ s) e refl refl
      (pops us e s pending.Negate 9 a (le_up (context s) k 9 (under_le (context s) k in_k) at_most) (raised us e s k 9 (neg a) at_most next))
  levels (Grammar.level_bind ts vs us a b x c d) = λ s e low in_k next.
      posts c s e low (λ at.
      shifted (Accepts (token.Var x ∷ token.Sign sign.Pipe ∷ vs) e) s 10 a at (token.Keyword keyword.As) follower.As (follows_from (context s) follower.As (under_le (context s) 0 in_k)) refl (λ at' at''.
      levels d (items.Pending (pending.Bind a x) ∷ s) e refl refl (pops us e s (pending.Bind a x) 0 b (under_le (context s) 0 in_k) next)))
  levels (Grammar.level_post k ts us a c) = λ s e low in_k next. posts c s e low (tighter us e s k 10 a (λ f g. left_low f) next)

  posts : {ts us : Tokens} {a : Tree} → Post ts a us → (s : List Item) (e : Tree) → nat_le (context s) 10 ≡ true → Takes us e s 10 a → Accepts ts e s mode.Want
  posts (Grammar.post_term ts us a c) = λ s e low next. terms c s e next
  posts (Grammar.post_field ts us a x c) = λ s e low next.
      posts c s e low (suffixed (token.Field x) us e s a refl low (λ at. takes_have us e s (index a (lit (text x))) next))
  posts (Grammar.post_text ts vs us a k c d) = λ s e low next.
      posts c s e low (suffixed token.Dot vs e s a refl low (λ at. texts d (purpose.Index a) false s e (takes_have us e s (index a k) next)))
  posts (Grammar.post_index ts vs us a k c d) = λ s e low next.
      posts c s e low (suffixed (token.Sign sign.LeftBracket) vs e s a refl low (λ at. indexed vs us a k e s (levels d) next))
  posts (Grammar.post_dot_index ts vs us a k c d) = λ s e low next.
      posts c s e low (suffixed token.Dot (token.Sign sign.LeftBracket ∷ vs) e s a refl low (λ at at'. indexed vs us a k e s (levels d) next))
  posts (Grammar.post_iterate ts us a c) = λ s e low next.
      posts c s e low (suffixed (token.Sign sign.LeftBracket) (token.Sign sign.RightBracket ∷ us) e s a refl low (λ at at'. takes_have us e s (iterate a) next))
  posts (Grammar.post_dot_iterate ts us a c) = λ s e low next.
      posts c s e low (suffixed token.Dot (token.Sign sign.LeftBracket ∷ token.Sign sign.RightBracket ∷ us) e s a refl low (λ at at' at''. takes_have us e s (iterate a) next))
  posts (Grammar.post_maybe ts us a c) = λ s e low next.
      posts c s e low (suffixed (token.Sign sign.Question) us e s a refl low (λ at. takes_have us e s (maybe a) next))

  terms : {ts us : Tokens} {a : Tree} → Term ts a us → (s : List Item) (e : Tree) → Takes us e s 10 a → Accepts ts e s mode.Want
  terms (Grammar.term_here us) = λ s e next at. takes_dotted us e s here next
  terms (Grammar.term_field us x) = λ s e next at. takes_have us e s (index here (lit (text x))) next
  terms (Grammar.term_dot_text ts us k c) = λ s e next at. texts c (purpose.Index here) true s e (takes_have us e s (index here k) next)
  terms (Grammar.term_number us n) = λ s e next at. takes_have us e s (lit (int (pos n))) next
  terms (Grammar.term_text ts us k c) = λ s e next. texts c purpose.Operand true s e (takes_have us e s k next)
  terms (Grammar.term_var us x) = λ s e next at. takes_have us e s (var x) next
  terms (Grammar.term_null us) = λ s e next at. takes_have us e s (lit null) next
  terms (Grammar.term_true us) = λ s e next at. takes_have us e s (lit (boolean true)) next
  terms (Grammar.term_false us) = λ s e next at. takes_have us e s (lit (boolean false)) next
  terms (Grammar.term_paren ts us a c) = λ s e next at. levels c (items.Open opening.Paren ∷ s) e refl refl (λ at'. takes_have us e s a next)
  terms (Grammar.term_empty_list us) = λ s e next at at'. takes_have us e s empty_list next
  terms (Grammar.term_list ts us a c) = λ s e next at.
      begins ts e (items.Open opening.List ∷ s) (levels c (items.Open opening.List ∷ s) e refl refl (λ at'. takes_have us e s (list_of a) next))
  terms (Grammar.term_empty_object us) = λ s e next at at'. takes_have us e s (object_of (pairs_of [])) next
  terms (Grammar.term_object ts us ms c) = λ s e next at. members_read c s e (λ at'. takes_have us e s (object_of (pairs_of ms)) next)
  terms (Grammar.term_if ts us a c) = λ s e next at. branches_read c s e next
  terms (Grammar.term_name us x b known) = λ s e next at.
      went (Accepts us e) _ s (mode.Called x at) (name_step s x 0 b at known) (takes_called us e s x at b known next)
  terms (Grammar.term_call ts us x b es c known) = λ s e next at.
      went (Accepts (token.Sign sign.LeftParen ∷ ts) e) _ s (mode.Called x at) (name_step s x (length es) b at known) (λ at'.
      arguments_read c x at s e (λ before d is.
      called us e 0 x at before d b s (ap (λ (ds : List Tree). named x (length ds)) is ∙ known) (subst (λ (ds : List Tree). Takes us e s 10 (apply b (trees_of ds))) (sym is) next)))

  arguments_read : {ts us : Tokens} {es : List Tree} → ArgumentsOf ts es us → (x : List ℕ) (p : ℕ) (s : List Item) (e : Tree)
      → ((before : List Tree) (b : Tree) → before ++ b ∷ [] ≡ es → Takes us e (items.Open (opening.Arguments x p before) ∷ s) 0 b)
      → Accepts ts e (items.Open (opening.Arguments x p []) ∷ s) mode.Want
  arguments_read (Grammar.one_argument ts us a c) = λ x p s e next. levels c (items.Open (opening.Arguments x p []) ∷ s) e refl refl (next [] a refl)
  arguments_read (Grammar.more_arguments ts vs us es a c d) = λ x p s e next.
      arguments_read c x p s e (λ before b is at.
      levels d (items.Open (opening.Arguments x p (before ++ b ∷ [])) ∷ s) e refl refl (next (before ++ b ∷ []) a (ap (λ (ds : List Tree). ds ++ a ∷ []) is)))

  branches_read : {ts us : Tokens} {a : Tree} → Branches ts a us → (s : List Item) (e : Tree) → Takes us e s 10 a → Accepts ts e (items.Open opening.If ∷ s) mode.Want
  branches_read (Grammar.branches_end ts vs us c a d f) = λ s e next.
      levels d (items.Open opening.If ∷ s) e refl refl (λ at.
      levels f (items.Open (opening.Then c) ∷ s) e refl refl (λ at'. takes_have us e s (if_then c a) next))
  branches_read (Grammar.branches_else ts vs ws us c a b d f g) = λ s e next.
      levels d (items.Open opening.If ∷ s) e refl refl (λ at.
      levels f (items.Open (opening.Then c) ∷ s) e refl refl (λ at'.
      levels g (items.Open (opening.Else c a) ∷ s) e refl refl (λ at''. takes_have us e s (if_else c a b) next)))
  branches_read (Grammar.branches_elif ts vs ws us c a b d f g) = λ s e next.
      levels d (items.Open opening.If ∷ s) e refl refl (λ at.
      levels f (items.Open (opening.Then c) ∷ s) e refl refl (λ at'.
      branches_read g (items.Pending (pending.Branch c a) ∷ s) e (joins us e s c a b next)))

  texts : {ts us : Tokens} {a : Tree} → TextOf ts a us → (q : Purpose) (b : Bool) (s : List Item) (e : Tree) → Accepts us e s (text_end q a) → Accepts ts e s (text_mode q b)
  texts (Grammar.text_whole us t) = λ q b s e next at. went (Accepts us e) _ s (text_end q (lit (text t))) (text_steps q b s t at).0 next
  texts (Grammar.text_pieces ts us t a c) = λ q b s e next. all_pieces c q b s e (λ o d is at. subst (λ (w : Tree). Accepts us e s (text_end q (plus_text w t))) (sym is) next)

  all_pieces : {ts us : Tokens} {a : Tree} → Pieces ts a us → (q : Purpose) (b : Bool) (s : List Item) (e : Tree)
      → ((o : Option Tree) (c : Tree) → plus_piece o c ≡ a → Takes us e (items.Open (opening.Text q o) ∷ s) 0 c) → Accepts ts e s (text_mode q b)
  all_pieces (Grammar.pieces_first ts us t d c) = λ q b s e next at.
      went (Accepts ts e) _ (items.Open (opening.Text q (first_text t)) ∷ s) mode.Want (text_steps q b s t at).1 (levels c (items.Open (opening.Text q (first_text t)) ∷ s) e refl refl (next (first_text t) d refl))
  all_pieces (Grammar.pieces_more ts vs us t a f c d) = λ q b s e next.
      all_pieces c q b s e (λ o g is at.
      levels d (items.Open (opening.Text q (Some (plus_text (plus_piece o g) t))) ∷ s) e refl refl
      (next (Some (plus_text (plus_piece o g) t)) f (ap (λ (w : Tree). plus_piece (Some (plus_text w t)) f) is)))

  members_read : {ts us : Tokens} {ms : List ExprMember} → MembersOf ts ms us → (s : List Item) (e : Tree) → Accepts us e s (mode.MemberEnd ms) → Accepts ts e s (mode.Member [] true)
  members_read (Grammar.one_member ts us m c) = λ s e next. member_read c s [] true e next
  members_read (Grammar.more_members ts vs us ms m c d) = λ s e next. members_read c s e (λ at. member_read d s ms false e next)

  member_read : {ts us : Tokens} {m : ExprMember} → MemberOf ts m us → (s : List Item) (ms : List ExprMember) (first : Bool) (e : Tree)
      → Accepts us e s (mode.MemberEnd (ms ++ m ∷ [])) → Accepts ts e s (mode.Member ms first)
  member_read (Grammar.member_value ts vs us k v c d) = λ s ms first e next.
      key_read c s ms first e (λ alone at. levels d (items.Open (opening.Value ms k) ∷ s) e refl refl (takes_value us e s ms k v next))
  member_read (Grammar.member_name us x) = λ s ms first e next at. takes_alone us e s ms (lit (text x)) next
  member_read (Grammar.member_text ts us k c) = λ s ms first e next. texts c (purpose.Key ms) first s e (takes_alone us e s ms k next)
  member_read (Grammar.member_var us x) = λ s ms first e next at. next

  key_read : {ts us : Tokens} {k : Tree} → KeyOf ts k us → (s : List Item) (ms : List ExprMember) (first : Bool) (e : Tree)
      → ((alone : Bool) → Accepts us e s (mode.AfterKey ms k alone)) → Accepts ts e s (mode.Member ms first)
  key_read (Grammar.key_name us x) = λ s ms first e next at. next true
  key_read (Grammar.key_keyword us k) = λ s ms first e next at. next false
  key_read (Grammar.key_text ts us k c) = λ s ms first e next. texts c (purpose.Key ms) first s e (next true)
  key_read (Grammar.key_pipe ts us a c) = λ s ms first e next at. levels c (items.Open (opening.Key ms) ∷ s) e refl refl (λ at'. next false)

pub accepted : (ts : Tokens) (e : Tree) → Pipe ts e → Accepts ts e [] mode.Want
unfolding whole
accepted ts e p = levels p [] e refl refl (λ at. refl)

pub complete : IsComplete
complete ts at e p = accepts-run ts at e [] mode.Want (accepted (tokens ts) e p)
