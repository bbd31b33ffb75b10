-- What is read is an expression of the grammar, and a fault is that of its token: what was read says what is open.
use Rattle.std.proofs.Common.{◌≡◌, ◌⊎◌, ℕ, length, List, [], ◌∷◌, ◌++◌, Bool, true, false, refl, nat_le, Option, Some, None, Ok, Err, subst, inl, inr, arith}
use Rattle.swf_expr.specs.Expr.{Tree, here, index, iterate, empty_list, list_of, no_trees, bind, object_of, if_else, apply}
use Rattle.swf_expr.specs.ExprNode.{trees_of, pairs_of}
use Rattle.swf_expr.specs.declared.expr.ExprMember.{ExprMember}
use Rattle.swf_jq_parse.specs.Grammar.{Tokens, Level, Post, Term, Branches, TextOf, Pieces, MembersOf, MemberOf, KeyOf, ArgumentsOf}
use Rattle.swf_jq_parse.specs.GrammarLaws.{Placed, tokens, ArgumentsBefore, FaultAt}
use Rattle.swf_jq_parse.specs.Machine.{Step, pending_level, pending_right, joined, context, opening_level, step, want, want_name, want_keyword, want_sign, first, emptied, have, goes_on, close, go_on, text_end, followed, suffix, dotted, called_next, applied, applied_to, member, member_end, after_key, bound, piped, unmoved, wrong, misplaced}
use Rattle.swf_jq_parse.specs.Parts.{is_called, with_value, key_alone, plus_piece, named, text_sum}
use Rattle.swf_jq_parse.specs.declared.mode.Mode.{Mode}
use Rattle.swf_jq_parse.specs.declared.mode.Mode.TheVariants as mode
use Rattle.swf_jq_parse.specs.declared.stack.Item.{Item}
use Rattle.swf_jq_parse.specs.declared.stack.Item.TheVariants as items
use Rattle.swf_jq_parse.specs.declared.stack.Opening.{Opening}
use Rattle.swf_jq_parse.specs.declared.stack.Opening.TheVariants as opening
use Rattle.swf_jq_parse.specs.declared.stack.Purpose.{Purpose}
use Rattle.swf_jq_parse.specs.declared.stack.Purpose.TheVariants as purpose
use Rattle.swf_jq_tokens.specs.declared.token.Keyword.TheVariants as keyword
use Rattle.swf_jq_tokens.specs.declared.token.Sign.TheVariants as sign
use Rattle.swf_jq_tokens.specs.declared.token.Token.{Token}
use Rattle.swf_jq_tokens.specs.declared.token.Token.TheVariants as token
use Rattle.swf_jq_parse.proofs.Binding.{sits, chosen, other, le_self, le_up, level_left, level_low, right_low, joint_level_low, fits_level, fits_between, Means, means, means_level}
use Rattle.std.proofs.lemmas.Bool.{cases_Bool}
use Rattle.std.specs.Prelude.{if◌then◌else◌}
use Rattle.std.proofs.lemmas.Bool.Decides.{nat_tests}
use Rattle.swf_expr.specs.declared.builtin.Builtin.{Builtin}
use Rattle.swf_expr.specs.declared.op.Op.TheVariants as ops
use Rattle.swf_jq_tokens.specs.Gives.{◌>>=◌}
use Rattle.swf_jq_parse.specs.Grammar
use Rattle.swf_jq_parse.specs.GrammarLaws as Laws
use Rattle.swf_jq_parse.specs.Joints.{level, left, right, sign_of, tree_of, fits, follower_left, follower_level, follows}
use Rattle.swf_jq_parse.specs.declared.joint.Follower.{Follower}
use Rattle.swf_jq_parse.specs.declared.joint.Follower.TheVariants as follower
use Rattle.swf_jq_parse.specs.declared.joint.Joint.{Joint}
use Rattle.swf_jq_parse.specs.declared.stack.Pending.TheVariants as pending
use Rattle.swf_jq_tokens.specs.declared.fault.ParseFault.TheVariants as fault
use Rattle.swf_jq_tokens.specs.declared.token.Keyword.{Keyword}
use Rattle.swf_jq_tokens.specs.declared.token.Sign.{Sign}
use Rattle.swf_jq_parse.proofs.Names.{no_form}

-- where an operand may stand
abbrev pub Low : ℕ → Type 0
Low c = nat_le c 9 ≡ true

-- an operand in hand, where something has to bind at least so tightly, and this binds so tightly at most
abbrev pub Hand : ℕ → ℕ → Tokens → Tree → Tokens → Type 0
Hand c l ts e us = ((c ≡ 11) × Branches ts e us) ⊎ (Low c × (nat_le c l ≡ true) × ((k : ℕ) → nat_le c k ≡ true → nat_le k l ≡ true → Level k ts e us))

-- the members of an object that begins here, and what is left behind them
abbrev pub ObjectTo : Tokens → List ExprMember → Tokens → Type 0
ObjectTo ts ms us = (vs : Tokens) × (ts ≡ token.Sign sign.LeftBrace ∷ vs) × MembersOf vs ms us

-- after such members one more may stand
abbrev pub Inside : List ExprMember → Tokens → Tokens → Type 0
Inside ms ts zs = (m : ExprMember) (us : Tokens) → MemberOf zs m us → ObjectTo ts (ms ++ m ∷ []) us

-- what a text is for
abbrev pub Serves : Purpose → Tokens → Tokens → Type 0
Serves purpose.Operand ts zs = (w : Tree) (us : Tokens) → TextOf zs w us → Post ts w us
Serves (purpose.Index e) ts zs = (w : Tree) (us : Tokens) → TextOf zs w us → Post ts (index e w) us
Serves (purpose.Key ms) ts zs = Inside ms ts zs

-- something open in an operand that begins with `ts`, where `vs` are left for what stands in it
abbrev pub Opens : Placed → Opening → ℕ → Placed → Placed → Type 0
Opens all opening.Paren c ts vs = Low c × ((e : Tree) (us : Tokens) → Level 0 (tokens vs) e (token.Sign sign.RightParen ∷ us) → Post (tokens ts) e us)
Opens all opening.List c ts vs =
    Low c × ((e : Tree) (us : Tokens) → Level 0 (tokens vs) e (token.Sign sign.RightBracket ∷ us) → Post (tokens ts) (list_of e) us)
    × ((us : Tokens) → tokens vs ≡ token.Sign sign.RightBracket ∷ us → Post (tokens ts) empty_list us)
Opens all (opening.Index a) c ts vs =
    Low c × ((e : Tree) (us : Tokens) → Level 0 (tokens vs) e (token.Sign sign.RightBracket ∷ us) → Post (tokens ts) (index a e) us)
    × ((us : Tokens) → tokens vs ≡ token.Sign sign.RightBracket ∷ us → Post (tokens ts) (iterate a) us)
Opens all (opening.Text p a) c ts vs = Low c × (zs : Tokens) × Serves p (tokens ts) zs × ((e : Tree) (us : Tokens) → Level 0 (tokens vs) e us → Pieces zs (plus_piece a e) us)
Opens all (opening.Key ms) c ts vs = Low c × Inside ms (tokens ts) (token.Sign sign.LeftParen ∷ tokens vs)
Opens all (opening.Value ms k) c ts vs = Low c × (zs : Tokens) × Inside ms (tokens ts) zs × KeyOf zs k (token.Sign sign.Colon ∷ tokens vs)
Opens all opening.If c ts vs = (b : Tree) (us : Tokens) → Branches (tokens vs) b us → Hand c 10 (tokens ts) b us
Opens all (opening.Then a) c ts vs =
    (zs : Tokens) × Level 0 zs a (token.Keyword keyword.Then ∷ tokens vs) × ((b : Tree) (us : Tokens) → Branches zs b us → Hand c 10 (tokens ts) b us)
Opens all (opening.Else a b) c ts vs =
    (zs : Tokens) × (ws : Tokens) × Level 0 zs a (token.Keyword keyword.Then ∷ ws) × Level 0 ws b (token.Keyword keyword.Else ∷ tokens vs)
    × ((d : Tree) (us : Tokens) → Branches zs d us → Hand c 10 (tokens ts) d us)
Opens all (opening.Arguments x p es) c ts vs =
    Low c × (q : ℕ) × (ws : Placed) × (ts ≡ (p, token.Name x) ∷ (q, token.Sign sign.LeftParen) ∷ ws) × ArgumentsBefore (tokens ws) es (tokens vs) × (xs : Placed) × (all ≡ xs ++ ts)

-- what is open, where `vs` are left for what stands in the innermost
abbrev pub Spells : Placed → List Item → Placed → Type 0
Spells all [] vs = all ≡ vs
Spells all (items.Pending p ∷ s) vs =
    (ts : Placed) × Spells all s ts × (sits (context s) p ≡ true)
    × ((l : ℕ) (b : Tree) (us : Tokens) → Hand (pending_right p) l (tokens vs) b us → Hand (context s) (pending_level p) (tokens ts) (joined p b) us)
Spells all (items.Open o ∷ s) vs = (ts : Placed) × Spells all s ts × Opens all o (context s) ts vs

-- what may stand next, where an operand begins with `ts` and `us` are left
abbrev pub Stands : Placed → ℕ → Mode → Placed → Placed → Type 0
Stands all c mode.Want ts us = (ts ≡ us) × Low c
Stands all c mode.First ts us = (ts ≡ us) × Low c
Stands all c (mode.Have e) ts us = Hand c 10 (tokens ts) e (tokens us)
Stands all c (mode.Dotted e true) ts us = Low c × Post (tokens ts) e (tokens us) × ((w : Tree) (vs : Tokens) → TextOf (tokens us) w vs → Post (tokens ts) (index e w) vs)
Stands all c (mode.Dotted e false) ts us = Low c × Post (tokens ts) e (token.Dot ∷ tokens us)
Stands all c (mode.Called x p) ts us = Low c × (ts ≡ (p, token.Name x) ∷ us) × (xs : Placed) × (all ≡ xs ++ ts) × (is_called x ≡ true)
Stands all c (mode.Member ms first) ts us = Low c × Inside ms (tokens ts) (tokens us) × (first ≡ true → (ms ≡ []) × (tokens ts ≡ token.Sign sign.LeftBrace ∷ tokens us))
Stands all c (mode.AfterKey ms k alone) ts us =
    Low c × (zs : Tokens) × Inside ms (tokens ts) zs × KeyOf zs k (tokens us) × (alone ≡ true → MemberOf zs (key_alone k) (tokens us))
Stands all c (mode.MemberEnd ms) ts us = Low c × ObjectTo (tokens ts) ms (tokens us)
Stands all c (mode.WantVar e) ts us = (nat_le c 0 ≡ true) × Post (tokens ts) e (token.Keyword keyword.As ∷ tokens us)
Stands all c (mode.WantPipe e x) ts us = (nat_le c 0 ≡ true) × Post (tokens ts) e (token.Keyword keyword.As ∷ token.Var x ∷ tokens us)

abbrev pub Reads : Placed → List Item → Mode → Placed → Type 0
Reads all s m us = (ts : Placed) × Spells all s ts × Stands all (context s) m ts us

-- what a step leaves, before these tokens, is so, and its fault is the token's
abbrev pub Keeps : Placed → ℕ × Token → Placed → Step → Type 0
Keeps all t us (Ok r) = Reads all r.0 r.1 us
Keeps all t us (Err f) = FaultAt all t us f

-- ---- operands in hand

-- what binds as tightly as what follows a term is one
post_of : {k : ℕ} {ts us : Tokens} {a : Tree} → Level k ts a us → nat_le 10 k ≡ true → Post ts a us
post_of (Grammar.level_joint k ts vs us a b j fit c d) h = cc (le_up 10 k 8 h (le_up k (level j) 8 (fits_level k j fit) (joint_level_low j)))
post_of (Grammar.level_minus k ts us a low c) h = cc (le_up 10 k 9 h low)
post_of (Grammar.level_bind ts vs us a b x c d) h = cc h
post_of (Grammar.level_post k ts us a c) h = c

pub hold : (c : ℕ) (ts us : Tokens) (e : Tree) → Low c → Post ts e us → Hand c 10 ts e us
hold c ts us e low d = inr (low, le_up c 9 10 low refl, λ k above below. Grammar.level_post k ts us e d)

-- an operand in hand where no branches have to be
in_hand : (c l : ℕ) (ts us : Tokens) (e : Tree) → nat_le c 10 ≡ true → Hand c l ts e us
    → Low c × (nat_le c l ≡ true) × ((k : ℕ) → nat_le c k ≡ true → nat_le k l ≡ true → Level k ts e us)
in_hand c l ts us e ten (inl h) = let is : c ≡ 11 = h.0 in cc
in_hand c l ts us e ten (inr h) = h

pub inner : (c l : ℕ) (ts us : Tokens) (e : Tree) → nat_le c 10 ≡ true → Hand c l ts e us → Level c ts e us
inner c l ts us e ten h = let d = in_hand c l ts us e ten h in d.2 c (le_self c) d.1

branches_in : (l : ℕ) (ts us : Tokens) (e : Tree) → Hand 11 l ts e us → Branches ts e us
branches_in l ts us e (inl h) = h.1
branches_in l ts us e (inr h) = cc h.0

context_low : (s : List Item) → nat_le (context s) 11 ≡ true
context_low (items.Pending (pending.Left j a) ∷ s) = le_up (right j) 9 11 (right_low j) refl
context_low (items.Open (opening.Value ms k) ∷ s) = refl
context_low s = refl

-- a joint takes a right operand
takes_right : (c : ℕ) (j : Joint) (ts vs : Tokens) (a : Tree) → fits c j ≡ true → Low c → Level (left j) ts a (sign_of j ∷ vs)
    → (l : ℕ) (b : Tree) (us : Tokens) → Hand (right j) l vs b us → Hand c (level j) ts (tree_of j a b) us
takes_right c j ts vs a fit low d l b us h =
    let tail = inner (right j) l vs us b (le_up (right j) 9 10 (right_low j) refl) h in
    inr (low, fits_level c j fit, λ k above below. Grammar.level_joint k ts vs us a b j (fits_between c k j fit above below) d tail)

-- `as` takes what follows its `|`
binds_right : (c : ℕ) (ts vs : Tokens) (e : Tree) (x : List ℕ) → nat_le c 0 ≡ true → Post ts e (token.Keyword keyword.As ∷ token.Var x ∷ token.Sign sign.Pipe ∷ vs)
    → (l : ℕ) (b : Tree) (us : Tokens) → Hand 0 l vs b us → Hand c 0 ts (bind e x b) us
binds_right c ts vs e x low d l b us h =
    inr (le_up c 0 9 low refl, low, λ n above below. subst (λ (m : ℕ). Level m ts (bind e x b) us) (zero_is n below) (Grammar.level_bind ts vs us e b x d (inner 0 l vs us b refl h)))
  where
    zero_is : (n : ℕ) → nat_le n 0 ≡ true → 0 ≡ n
    zero_is n none = grind (arith, nat_tests)

-- one argument more
argument_more : {ts vs : Tokens} {es : List Tree} (us : Tokens) (e : Tree) → ArgumentsBefore ts es vs → Level 0 vs e us → ArgumentsOf ts (es ++ e ∷ []) us
argument_more us e (Laws.none_before xs) c = Grammar.one_argument xs us e c
argument_more us e (Laws.some_before xs ys ds f) c = Grammar.more_arguments xs ys us ds e f c

-- a name with no arguments
pub alone_term : (ts us : Placed) (x : List ℕ) (p : ℕ) (b : Builtin) → ts ≡ (p, token.Name x) ∷ us → named x 0 ≡ Some b → Post (tokens ts) (apply b no_trees) (tokens us)
alone_term ts us x p b is known = rw is (Grammar.post_term _ (tokens us) _ (Grammar.term_name (tokens us) x b known))

-- members go on
inside_more : (ts vs : Tokens) (ms : List ExprMember) → ObjectTo ts ms (token.Sign sign.Comma ∷ vs) → Inside ms ts vs
inside_more ts vs ms o m us d = (o.0, o.1, Grammar.more_members o.0 vs us ms m o.2 d)

module _ (all us : Placed) where
  held : {e : Tree} (s : List Item) (ts : Placed) → Spells all s ts → Low (context s) → Post (tokens ts) e (tokens us) → Reads all s (mode.Have e) us
  held s ts sp low d = (ts, sp, hold (context s) (tokens ts) (tokens us) _ low d)

  wrong_keeps : (at : ℕ) (t : Token) → Keeps all (at, t) us (wrong at t)
  wrong_keeps at token.Dots = inr (refl, refl)
  wrong_keeps at t = inl refl

  applied_keeps : (t : ℕ × Token) (x : List ℕ) (p : ℕ) (es : List Tree) (next : Tree → Step) → (named x (length es) ≡ None → FaultAt all t us (fault.UnknownName p))
      → ((b : Builtin) → named x (length es) ≡ Some b → Keeps all t us (next (apply b (trees_of es)))) → Keeps all t us (applied x p es >>= next)
  unfolding applied applied_to
  applied_keeps t x p es next h g = so (named x (length es)) refl
    where
      so : (o : Option Builtin) → named x (length es) ≡ o → Keeps all t us (applied_to o p es >>= next)
      so None is = h is
      so (Some b) is = g b is

  -- ---- what follows an operand

  suffix_keeps : (s : List Item) (e : Tree) (at : ℕ) (t : Token) (ts : Placed) → Spells all s ts → Low (context s) → Post (tokens ts) e (t ∷ tokens us) → Keeps all (at, t) us (suffix s e at t)
  unfolding suffix
  suffix_keeps s e at token.Dot ts sp low d = (ts, sp, (low, d))
  suffix_keeps s e at (token.Field x) ts sp low d = held s ts sp low (Grammar.post_field _ _ e x d)
  suffix_keeps s e at (token.Sign sign.LeftBracket) ts sp low d =
      (us, (ts, sp, (low, λ k vs c. Grammar.post_index _ _ vs e k d c, λ vs is. Grammar.post_iterate _ vs e (rw is at d))), (refl, refl))
  suffix_keeps s e at (token.Sign sign.Question) ts sp low d = held s ts sp low (Grammar.post_maybe _ _ e d)
  suffix_keeps s e at t ts sp low d = inl refl

  followed_keeps : (s : List Item) (l : ℕ) (e : Tree) (at : ℕ) (t : Token) (f : Follower) (ts : Placed) → Spells all s ts
      → Means (context s) t f → nat_le (follower_left f) l ≡ true → Hand (context s) l (tokens ts) e (t ∷ tokens us) → Keeps all (at, t) us (followed f s e at t)
  unfolding followed
  followed_keeps s l e at t f ts sp m tight h = so f m (operand.2 (follower_left f) (le_up (context s) (follower_level f) (follower_left f) level_is (level_left f)) tight)
    where
      level_is : nat_le (context s) (follower_level f) ≡ true
      level_is = means_level (context s) t f m

      operand : Low (context s) × (nat_le (context s) l ≡ true) × ((k : ℕ) → nat_le (context s) k ≡ true → nat_le k l ≡ true → Level k (tokens ts) e (t ∷ tokens us))
      operand = in_hand (context s) l (tokens ts) (t ∷ tokens us) e (le_up (context s) (follower_level f) 10 level_is (level_low f)) h

      so : (g : Follower) → Means (context s) t g → Level (follower_left g) (tokens ts) e (t ∷ tokens us) → Keeps all (at, t) us (followed g s e at t)
      so follower.Suffix k d = suffix_keeps s e at t ts sp operand.0 (post_of d refl)
      so follower.As k d = (ts, sp, (k.0, rw k.1 at (post_of d refl)))
      so (follower.Joint j) k d = (us, (ts, sp, k.0, takes_right (context s) j (tokens ts) (tokens us) e k.0 operand.0 (rw k.1 at d)), (refl, right_low j))

  goes_on_keeps : (s : List Item) (l : ℕ) (e : Tree) (at : ℕ) (t : Token) (ts : Placed) (ended : Step) → Spells all s ts → Hand (context s) l (tokens ts) e (t ∷ tokens us)
      → Keeps all (at, t) us ended → Keeps all (at, t) us (goes_on (follows (context s) t) l s e at t ended)
  goes_on_keeps s l e at t ts ended sp h k = so (follows (context s) t) refl
    where
      so : (o : Option Follower) → follows (context s) t ≡ o → Keeps all (at, t) us (goes_on o l s e at t ended)
      so None is = k
      so (Some f) is = elim (cases_Bool (nat_le (follower_left f) l)) [
        | inl tight ↦ rw (chosen (nat_le (follower_left f) l) (followed f s e at t) (misplaced at) tight) (followed_keeps s l e at t f ts sp (means (context s) t f is) tight h)
        | inr loose ↦ rw (other (nat_le (follower_left f) l) (followed f s e at t) (misplaced at) loose) (inl refl)
      ]

  -- ---- what ends or goes on with something open

  -- a text for its purpose
  text_keeps : (s : List Item) (p : Purpose) (w : Tree) (ts : Placed) (zs : Tokens) → Spells all s ts → Low (context s) → Serves p (tokens ts) zs → TextOf zs w (tokens us)
      → Reads all s (text_end p w) us
  unfolding text_end
  text_keeps s purpose.Operand w ts zs sp low serves d = held s ts sp low (serves w (tokens us) d)
  text_keeps s (purpose.Index e) w ts zs sp low serves d = held s ts sp low (serves w (tokens us) d)
  text_keeps s (purpose.Key ms) w ts zs sp low serves d = (ts, sp, (low, zs, serves, Grammar.key_text zs _ w d, λ alone. Grammar.member_text zs _ w d))

  -- an object ends
  object_keeps : (s : List Item) (ms : List ExprMember) (ts : Placed) → Spells all s ts → Low (context s) → ObjectTo (tokens ts) ms (token.Sign sign.RightBrace ∷ tokens us) → Reads all s (mode.Have (object_of (pairs_of ms))) us
  object_keeps s ms ts sp low o = held s ts sp low (rw o.1 (Grammar.post_term _ (tokens us) _ (Grammar.term_object o.0 (tokens us) ms o.2)))

  go_on_keeps : (o : Opening) (s : List Item) (e : Tree) (at : ℕ) (t : Token) (ts vs : Placed) → Spells all s ts → Opens all o (context s) ts vs
      → Level (opening_level o) (tokens vs) e (t ∷ tokens us) → Keeps all (at, t) us (go_on o s e at t)
  unfolding go_on
  go_on_keeps (opening.Text p a) s e at (token.TextMid t) ts vs sp h d =
      (us, (ts, sp, (h.0, h.1, h.2, λ b ws c. Grammar.pieces_more h.1 (tokens us) ws t _ b (h.3 e (token.TextMid t ∷ tokens us) d) c)), (refl, refl))
  go_on_keeps (opening.Text p a) s e at (token.TextClose t) ts vs sp h d =
      text_keeps s p (text_sum a e t) ts h.1 sp h.0 h.2 (Grammar.text_pieces h.1 (tokens us) t _ (h.3 e (token.TextClose t ∷ tokens us) d))
  go_on_keeps opening.If s e at (token.Keyword keyword.Then) ts vs sp h d = (us, (ts, sp, (tokens vs, d, h)), (refl, refl))
  go_on_keeps (opening.Then c) s e at (token.Keyword keyword.Elif) ts vs sp h d =
      let waits = λ (l : ℕ) (b : Tree) (ws : Tokens) (k : Hand 11 l (tokens us) b ws). h.2 (if_else c e b) ws (Grammar.branches_elif h.0 (tokens vs) (tokens us) ws c e b h.1 d (branches_in l (tokens us) ws b k)) in
      (us, (us, (ts, sp, context_low s, waits), λ b ws k. inl (refl, k)), (refl, refl))
  go_on_keeps (opening.Then c) s e at (token.Keyword keyword.Else) ts vs sp h d = (us, (ts, sp, (h.0, tokens vs, h.1, d, h.2)), (refl, refl))
  go_on_keeps (opening.Then c) s e at (token.Keyword keyword.End) ts vs sp h d = (ts, sp, h.2 _ (tokens us) (Grammar.branches_end h.0 (tokens vs) (tokens us) c e h.1 d))
  go_on_keeps (opening.Else c a) s e at (token.Keyword keyword.End) ts vs sp h d = (ts, sp, h.4 _ (tokens us) (Grammar.branches_else h.0 h.1 (tokens vs) (tokens us) c a e h.2 h.3 d))
  go_on_keeps o s e at t ts vs sp h d = wrong_keeps at t

  close_keeps : (o : Opening) (s : List Item) (e : Tree) (at : ℕ) (t : Token) (ts vs : Placed) → Spells all s ts → Opens all o (context s) ts vs
      → Level (opening_level o) (tokens vs) e (t ∷ tokens us) → Keeps all (at, t) us (close o s e at t)
  unfolding close
  close_keeps opening.Paren s e at (token.Sign sign.RightParen) ts vs sp h d = held s ts sp h.0 (h.1 e (tokens us) d)
  close_keeps (opening.Key ms) s e at (token.Sign sign.RightParen) ts vs sp h d =
      (ts, sp, (h.0, token.Sign sign.LeftParen ∷ tokens vs, h.1, Grammar.key_pipe (tokens vs) (tokens us) e d, λ never. cc never))
  close_keeps (opening.Arguments x p es) s e at (token.Sign sign.RightParen) ts vs sp h d =
      let arguments : ArgumentsOf (tokens h.2) (es ++ e ∷ []) (token.Sign sign.RightParen ∷ tokens us) = argument_more _ e h.4 d in
      applied_keeps (at, token.Sign sign.RightParen) x p (es ++ e ∷ []) (λ a. Ok (s, mode.Have a))
      (λ none. inr (inr (refl, (h.5, x, h.1, h.2, es ++ e ∷ [], subst (λ (w : Placed). all ≡ h.5 ++ w) h.3 h.6, arguments, none))))
      (λ b known. held s ts sp h.0 (rw h.3 (Grammar.post_term _ (tokens us) _ (Grammar.term_call (tokens h.2) (tokens us) x b (es ++ e ∷ []) arguments known))))
  close_keeps (opening.Arguments x p es) s e at (token.Sign sign.Semicolon) ts vs sp h d =
      (us, (ts, sp, (h.0, h.1, h.2, h.3, Laws.some_before (tokens h.2) (tokens us) (es ++ e ∷ []) (argument_more _ e h.4 d), h.5, h.6)), (refl, refl))
  close_keeps opening.List s e at (token.Sign sign.RightBracket) ts vs sp h d = held s ts sp h.0 (h.1 e (tokens us) d)
  close_keeps (opening.Index a) s e at (token.Sign sign.RightBracket) ts vs sp h d = held s ts sp h.0 (h.1 e (tokens us) d)
  close_keeps (opening.Value ms k) s e at (token.Sign sign.RightBrace) ts vs sp h d =
      object_keeps s (ms ++ with_value k e ∷ []) ts sp h.0 (h.2 (with_value k e) _ (Grammar.member_value h.1 (tokens vs) _ k e h.3 d))
  close_keeps (opening.Value ms k) s e at (token.Sign sign.Comma) ts vs sp h d =
      (ts, sp, (h.0, inside_more (tokens ts) (tokens us) (ms ++ with_value k e ∷ []) (h.2 (with_value k e) _ (Grammar.member_value h.1 (tokens vs) _ k e h.3 d)), λ never. cc never))
  close_keeps o s e at t ts vs sp h d = go_on_keeps o s e at t ts vs sp h d

  have_keeps : (s : List Item) (l : ℕ) (e : Tree) (at : ℕ) (t : Token) (ts : Placed) → Spells all s ts → Hand (context s) l (tokens ts) e (t ∷ tokens us) → Keeps all (at, t) us (have s l e at t)
  unfolding have
  have_keeps [] l e at t ts sp h = goes_on_keeps [] l e at t ts _ sp h (wrong_keeps at t)
  have_keeps (items.Pending p ∷ s) l e at t ts sp h =
      goes_on_keeps (items.Pending p ∷ s) l e at t ts _ sp h (have_keeps s (pending_level p) (joined p e) at t sp.0 sp.1 (sp.3 l e (t ∷ tokens us) h))
  have_keeps (items.Open o ∷ s) l e at t ts sp h =
      goes_on_keeps (items.Open o ∷ s) l e at t ts _ sp h (close_keeps o s e at t sp.0 ts sp.1 sp.2 (inner (opening_level o) l (tokens ts) (t ∷ tokens us) e (opening_low o) h))
    where
      opening_low : (q : Opening) → nat_le (opening_level q) 10 ≡ true
      opening_low (opening.Value ms k) = refl
      opening_low q = refl

  -- ---- where an operand is wanted

  -- a term of one token, and what it is
  one_keeps : {e : Tree} (s : List Item) (t : ℕ × Token) → Spells all s (t ∷ us) → Low (context s) → Term (t.1 ∷ tokens us) e (tokens us) → Reads all s (mode.Have e) us
  one_keeps s t sp low d = held s (t ∷ us) sp low (Grammar.post_term _ _ _ d)

  name_keeps : (s : List Item) (at : ℕ) (x : List ℕ) → Spells all s ((at, token.Name x) ∷ us) → Low (context s) → (xs : Placed) → all ≡ xs ++ (at, token.Name x) ∷ us
      → Keeps all (at, token.Name x) us (unmoved s (want_name x at))
  unfolding want_name
  name_keeps s at x sp low xs is = so (is_called x) refl
    where
      so : (b : Bool) → is_called x ≡ b → Keeps all (at, token.Name x) us (unmoved s (if b then Ok (mode.Called x at) else Err (fault.UnknownName at)))
      so true known = ((at, token.Name x) ∷ us, sp, (low, refl, xs, is, known))
      so false unknown = inl (x, refl, no_form x unknown)

  keyword_keeps : (s : List Item) (at : ℕ) (k : Keyword) → Spells all s ((at, token.Keyword k) ∷ us) → Low (context s) → Keeps all (at, token.Keyword k) us (want_keyword s at k)
  unfolding want_keyword
  keyword_keeps s at keyword.Null sp low = one_keeps s _ sp low (Grammar.term_null (tokens us))
  keyword_keeps s at keyword.True sp low = one_keeps s _ sp low (Grammar.term_true (tokens us))
  keyword_keeps s at keyword.False sp low = one_keeps s _ sp low (Grammar.term_false (tokens us))
  keyword_keeps s at keyword.If sp low =
      (us, ((at, token.Keyword keyword.If) ∷ us, sp, λ b vs d. hold (context s) _ vs b low (Grammar.post_term _ vs b (Grammar.term_if (tokens us) vs b d))), (refl, refl))
  keyword_keeps s at k sp low = inl refl

  sign_keeps : (s : List Item) (at : ℕ) (g : Sign) → Spells all s ((at, token.Sign g) ∷ us) → Low (context s) → Keeps all (at, token.Sign g) us (want_sign s at g)
  unfolding want_sign
  sign_keeps s at sign.LeftParen sp low =
      (us, ((at, token.Sign sign.LeftParen) ∷ us, sp, (low, λ e vs d. Grammar.post_term _ vs e (Grammar.term_paren (tokens us) vs e d))), (refl, refl))
  sign_keeps s at sign.LeftBracket sp low =
      let listed = λ (e : Tree) (vs : Tokens) (d : Level 0 (tokens us) e (token.Sign sign.RightBracket ∷ vs)). Grammar.post_term _ vs _ (Grammar.term_list (tokens us) vs e d) in
      (us, ((at, token.Sign sign.LeftBracket) ∷ us, sp, (low, listed, λ vs is. rw is (Grammar.post_term _ vs empty_list (Grammar.term_empty_list vs)))), (refl, refl))
  sign_keeps s at sign.LeftBrace sp low =
      ((at, token.Sign sign.LeftBrace) ∷ us, sp, (low, λ m vs d. (tokens us, refl, Grammar.one_member (tokens us) vs m d), λ yet. (refl, refl)))
  sign_keeps s at (sign.Op ops.Subtract) sp low =
      let negated = λ (l : ℕ) (b : Tree) (vs : Tokens) (h : Hand 9 l (tokens us) b vs). inr (low, low, λ k above below. Grammar.level_minus k (tokens us) vs b below (inner 9 l (tokens us) vs b refl h)) in
      (us, ((at, token.Sign (sign.Op ops.Subtract)) ∷ us, sp, low, negated), (refl, refl))
  sign_keeps s at g sp low = inl refl

  want_keeps : (s : List Item) (at : ℕ) (t : Token) → Spells all s ((at, t) ∷ us) → Low (context s) → (xs : Placed) → all ≡ xs ++ (at, t) ∷ us → Keeps all (at, t) us (want s at t)
  unfolding want
  want_keeps s at token.Dot sp low xs is =
      ((at, token.Dot) ∷ us, sp, (low, Grammar.post_term _ _ here (Grammar.term_here (tokens us)), λ w vs d. Grammar.post_term _ vs (index here w) (Grammar.term_dot_text (tokens us) vs w d)))
  want_keeps s at (token.Field x) sp low xs is = one_keeps s _ sp low (Grammar.term_field (tokens us) x)
  want_keeps s at (token.Var x) sp low xs is = one_keeps s _ sp low (Grammar.term_var (tokens us) x)
  want_keeps s at (token.Name x) sp low xs is = name_keeps s at x sp low xs is
  want_keeps s at (token.Keyword k) sp low xs is = keyword_keeps s at k sp low
  want_keeps s at (token.Number n) sp low xs is = one_keeps s _ sp low (Grammar.term_number (tokens us) n)
  want_keeps s at (token.Text t) sp low xs is = one_keeps s _ sp low (Grammar.term_text _ (tokens us) _ (Grammar.text_whole (tokens us) t))
  want_keeps s at (token.TextOpen t) sp low xs is =
      let serves = λ (w : Tree) (vs : Tokens) (d : TextOf (token.TextOpen t ∷ tokens us) w vs). Grammar.post_term _ vs w (Grammar.term_text _ vs w d) in
      (us, ((at, token.TextOpen t) ∷ us, sp, (low, token.TextOpen t ∷ tokens us, serves, λ e vs d. Grammar.pieces_first (tokens us) vs t e d)), (refl, refl))
  want_keeps s at (token.Sign g) sp low xs is = sign_keeps s at g sp low
  want_keeps s at t sp low xs is = wrong_keeps at t

  emptied_keeps : (s : List Item) (at : ℕ) → Spells all s ((at, token.Sign sign.RightBracket) ∷ us) → Keeps all (at, token.Sign sign.RightBracket) us (emptied s at)
  unfolding emptied
  emptied_keeps (items.Open opening.List ∷ s) at sp = held s sp.0 sp.1 sp.2.0 (sp.2.2 (tokens us) refl)
  emptied_keeps (items.Open (opening.Index e) ∷ s) at sp = held s sp.0 sp.1 sp.2.0 (sp.2.2 (tokens us) refl)
  emptied_keeps s at sp = inl refl

  first_keeps : (s : List Item) (at : ℕ) (t : Token) → Spells all s ((at, t) ∷ us) → Low (context s) → (xs : Placed) → all ≡ xs ++ (at, t) ∷ us → Keeps all (at, t) us (first s at t)
  unfolding first
  first_keeps s at (token.Sign sign.RightBracket) sp low xs is = emptied_keeps s at sp
  first_keeps s at t sp low xs is = want_keeps s at t sp low xs is

  -- ---- names, texts and members

  dotted_keeps : (s : List Item) (e : Tree) (alone : Bool) (at : ℕ) (t : Token) → Reads all s (mode.Dotted e alone) ((at, t) ∷ us) → Keeps all (at, t) us (dotted s e alone at t)
  unfolding dotted
  dotted_keeps s e true at (token.Text t) h = held s h.0 h.1 h.2.0 (h.2.2 _ (tokens us) (Grammar.text_whole (tokens us) t))
  dotted_keeps s e false at (token.Text t) h = held s h.0 h.1 h.2.0 (Grammar.post_text _ _ (tokens us) e _ h.2.1 (Grammar.text_whole (tokens us) t))
  dotted_keeps s e true at (token.TextOpen t) h = (us, (h.0, h.1, (h.2.0, _, h.2.2, λ k vs d. Grammar.pieces_first (tokens us) vs t k d)), (refl, refl))
  dotted_keeps s e false at (token.TextOpen t) h =
      (us, (h.0, h.1, (h.2.0, token.TextOpen t ∷ tokens us, λ w vs d. Grammar.post_text _ _ vs e w h.2.1 d, λ k vs d. Grammar.pieces_first (tokens us) vs t k d)), (refl, refl))
  dotted_keeps s e true at t h = have_keeps s 10 e at t h.0 h.1 (hold (context s) (tokens h.0) (t ∷ tokens us) e h.2.0 h.2.1)
  dotted_keeps s e false at (token.Sign sign.LeftBracket) h =
      (us, (h.0, h.1, (h.2.0, λ k vs c. Grammar.post_dot_index _ _ vs e k h.2.1 c, λ vs is. Grammar.post_dot_iterate _ vs e (rw is at h.2.1))), (refl, refl))
  dotted_keeps s e false at t h = inl refl

  called_keeps : (s : List Item) (x : List ℕ) (p at : ℕ) (t : Token) → Reads all s (mode.Called x p) ((at, t) ∷ us) → Keeps all (at, t) us (called_next s x p at t)
  unfolding called_next
  called_keeps s x p at (token.Sign sign.LeftParen) h = (us, (h.0, h.1, (h.2.0, at, us, h.2.1, Laws.none_before (tokens us), h.2.2, h.2.3)), (refl, refl))
  called_keeps s x p at t h =
      applied_keeps (at, t) x p [] (λ e. have s 10 e at t) (λ none. inr (inl (h.2.2, x, subst (λ (w : Placed). all ≡ h.2.2 ++ w) h.2.1 h.2.3, none)))
      (λ b known. have_keeps s 10 (apply b no_trees) at t h.0 h.1 (hold (context s) (tokens h.0) (t ∷ tokens us) _ h.2.0 (alone_term h.0 ((at, t) ∷ us) x p b h.2.1 known)))

  member_keeps : (s : List Item) (ms : List ExprMember) (first : Bool) (at : ℕ) (t : Token) → Reads all s (mode.Member ms first) ((at, t) ∷ us) → Keeps all (at, t) us (member s ms first at t)
  unfolding member
  member_keeps s ms first at (token.Name x) h = (h.0, h.1, (h.2.0, _, h.2.1, Grammar.key_name (tokens us) x, λ e. Grammar.member_name (tokens us) x))
  member_keeps s ms first at (token.Keyword k) h = (h.0, h.1, (h.2.0, _, h.2.1, Grammar.key_keyword (tokens us) k, λ never. cc never))
  member_keeps s ms first at (token.Text t) h =
      (h.0, h.1, (h.2.0, _, h.2.1, Grammar.key_text _ _ _ (Grammar.text_whole (tokens us) t), λ e. Grammar.member_text _ _ _ (Grammar.text_whole (tokens us) t)))
  member_keeps s ms first at (token.TextOpen t) h = (us, (h.0, h.1, (h.2.0, _, h.2.1, λ e vs d. Grammar.pieces_first (tokens us) vs t e d)), (refl, refl))
  member_keeps s ms first at (token.Var x) h = (h.0, h.1, (h.2.0, h.2.1 _ (tokens us) (Grammar.member_var (tokens us) x)))
  member_keeps s ms first at (token.Sign sign.LeftParen) h = (us, (h.0, h.1, (h.2.0, h.2.1)), (refl, refl))
  member_keeps s ms true at (token.Sign sign.RightBrace) h =
      held s h.0 h.1 h.2.0 (rw ((h.2.2 refl).1, (h.2.2 refl).0) (Grammar.post_term _ (tokens us) _ (Grammar.term_empty_object (tokens us))))
  member_keeps s ms first at t h = inl refl

  member_end_keeps : (s : List Item) (ms : List ExprMember) (at : ℕ) (t : Token) → Reads all s (mode.MemberEnd ms) ((at, t) ∷ us) → Keeps all (at, t) us (unmoved s (member_end ms at t))
  unfolding member_end
  member_end_keeps s ms at (token.Sign sign.Comma) h = (h.0, h.1, (h.2.0, inside_more (tokens h.0) (tokens us) ms h.2.1, λ never. cc never))
  member_end_keeps s ms at (token.Sign sign.RightBrace) h = object_keeps s ms h.0 h.1 h.2.0 h.2.1
  member_end_keeps s ms at t h = inl refl

  after_key_keeps : (s : List Item) (ms : List ExprMember) (k : Tree) (alone : Bool) (at : ℕ) (t : Token) → Reads all s (mode.AfterKey ms k alone) ((at, t) ∷ us)
      → Keeps all (at, t) us (after_key s ms k alone at t)
  unfolding after_key
  after_key_keeps s ms k alone at (token.Sign sign.Colon) h = (us, (h.0, h.1, (h.2.0, h.2.1, h.2.2, h.2.3)), (refl, refl))
  after_key_keeps s ms k true at t h =
      member_end_keeps s (ms ++ key_alone k ∷ []) at t (h.0, h.1, (h.2.0, h.2.2 (key_alone k) (t ∷ tokens us) (h.2.4 refl)))
  after_key_keeps s ms k false at t h = inl refl

  bound_keeps : (s : List Item) (e : Tree) (at : ℕ) (t : Token) → Reads all s (mode.WantVar e) ((at, t) ∷ us) → Keeps all (at, t) us (unmoved s (bound e at t))
  unfolding bound
  bound_keeps s e at (token.Var x) h = h
  bound_keeps s e at t h = inl refl

  piped_keeps : (s : List Item) (e : Tree) (x : List ℕ) (at : ℕ) (t : Token) → Reads all s (mode.WantPipe e x) ((at, t) ∷ us) → Keeps all (at, t) us (piped s e x at t)
  unfolding piped
  piped_keeps s e x at (token.Sign sign.Pipe) h = (us, (h.0, h.1, h.2.0, binds_right (context s) (tokens h.0) (tokens us) e x h.2.0 h.2.1), (refl, refl))
  piped_keeps s e x at t h = inl refl

  pub step_keeps : (s : List Item) (m : Mode) (at : ℕ) (t : Token) → Reads all s m ((at, t) ∷ us) → (xs : Placed) → all ≡ xs ++ (at, t) ∷ us → Keeps all (at, t) us (step s m at t)
  unfolding step
  step_keeps s mode.Want at t h xs is = want_keeps s at t (subst (Spells all s) h.2.0 h.1) h.2.1 xs is
  step_keeps s mode.First at t h xs is = first_keeps s at t (subst (Spells all s) h.2.0 h.1) h.2.1 xs is
  step_keeps s (mode.Have e) at t h xs is = have_keeps s 10 e at t h.0 h.1 h.2
  step_keeps s (mode.Dotted e alone) at t h xs is = dotted_keeps s e alone at t h
  step_keeps s (mode.Called x p) at t h xs is = called_keeps s x p at t h
  step_keeps s (mode.Member ms first) at t h xs is = member_keeps s ms first at t h
  step_keeps s (mode.AfterKey ms k alone) at t h xs is = after_key_keeps s ms k alone at t h
  step_keeps s (mode.MemberEnd ms) at t h xs is = member_end_keeps s ms at t h
  step_keeps s (mode.WantVar e) at t h xs is = bound_keeps s e at t h
  step_keeps s (mode.WantPipe e x) at t h xs is = piped_keeps s e x at t h
