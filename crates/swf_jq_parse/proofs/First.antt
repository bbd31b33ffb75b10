-- A fault is that of the first token with which no expression begins: tokens lead on from wherever the reading has come.
use Rattle.std.proofs.Common.{◌≡◌, ◌∙◌, ◌⊎◌, ◌+◌, ◌≤◌, ◌-◌, ℕ, zero, suc, List, [], ◌∷◌, ◌++◌, Bool, true, false, refl, ap, sym, nat_le, Option, Some, None, Ok, Err, subst, arith, inl, inr, codes, Result, length, length-append, append-nil, append_assoc}
use Rattle.swf_expr.specs.Expr.{Tree, no_trees, here, lit, index, list_of, object_of, if_then, if_else, apply}
use Rattle.swf_value.specs.Value.{text}
use Rattle.swf_expr.specs.declared.builtin.Builtin.{Builtin}
use Rattle.swf_expr.specs.ExprNode.{trees_of, pairs_of}
use Rattle.swf_expr.specs.declared.expr.ExprMember.{ExprMember}
use Rattle.swf_jq_tokens.specs.Gives.{◌>>=◌}
use Rattle.swf_jq_parse.specs.Grammar.{Tokens, Pipe}
use Rattle.swf_jq_parse.specs.GrammarLaws.{Placed, tokens, Crowded, GoesOn, Begins, UnknownAlone, FaultAt, FaultAfter, IsSound, IsUnambiguous, IsFirst}
use Rattle.swf_jq_parse.specs.Machine.{Step, pending_level, joined, context, step, first, have, close, go_on, text_end, dotted, called_next, applied, applied_to, member, member_end, after_key, bound, piped, whole, want, run, finish, last_read, whole_or}
use Rattle.swf_jq_tokens.specs.declared.lexer.End.{End}
use Rattle.swf_jq_tokens.specs.declared.lexer.End.TheVariants as end
use Rattle.swf_jq_parse.specs.Parts.{named, with_value, text_sum}
use Rattle.swf_jq_parse.specs.declared.mode.Mode.{Mode}
use Rattle.swf_jq_parse.specs.declared.mode.Mode.TheVariants as mode
use Rattle.swf_jq_parse.specs.declared.stack.Item.{Item}
use Rattle.swf_jq_parse.specs.declared.stack.Item.TheVariants as items
use Rattle.swf_jq_parse.specs.declared.stack.Opening.{Opening}
use Rattle.swf_jq_parse.specs.declared.stack.Opening.TheVariants as opening
use Rattle.swf_jq_parse.specs.declared.stack.Pending.TheVariants as pending
use Rattle.swf_jq_parse.specs.declared.stack.Purpose.{Purpose}
use Rattle.swf_jq_parse.specs.declared.stack.Purpose.TheVariants as purpose
use Rattle.swf_jq_tokens.specs.declared.token.Keyword.TheVariants as keyword
use Rattle.swf_jq_tokens.specs.declared.token.Sign.TheVariants as sign
use Rattle.swf_jq_tokens.specs.declared.token.Token.TheVariants as token
use Rattle.swf_jq_parse.proofs.Complete.{After, Accepts, Takes, takes_have, takes_dotted, takes_called, pops, accepts-run, called, accepted, complete}
use Rattle.swf_jq_parse.proofs.Names.{form_from, some_form}
use Rattle.swf_jq_parse.proofs.Sound.{Spells, Opens, Reads, Hand, Keeps, inner, hold, alone_term, step_keeps}
use Rattle.swf_jq_tokens.specs.declared.fault.ParseFault.{ParseFault}
use Rattle.swf_jq_tokens.specs.declared.fault.ParseFault.TheVariants as fault
use Rattle.swf_jq_tokens.specs.declared.token.Token.{Token}

-- tokens that make a tree of this
abbrev Leads : List Item → Mode → Type 0
Leads s m = (ws : Placed) × (e : Tree) × Accepts (tokens ws) e s m

-- tokens that make a tree of this, with whatever operand in it
abbrev Closable : List Item → Type 0
Closable s = (l : ℕ) (a : Tree) → (ws : Placed) × (e : Tree) × Takes (tokens ws) e s l a

have_leads : (s : List Item) (a : Tree) → Closable s → Leads s (mode.Have a)
have_leads s a c = let d = c 10 a in (d.0, d.1, takes_have (tokens d.0) d.1 s a d.2)

want_leads : (s : List Item) → Closable s → Leads s mode.Want
unfolding step want
want_leads s c = let d = c 10 here in ((0, token.Dot) ∷ d.0, d.1, λ at. takes_dotted (tokens d.0) d.1 s here d.2)

value_closes : (s : List Item) (ms : List ExprMember) (k : Tree) → Closable s → Closable (items.Open (opening.Value ms k) ∷ s)
unfolding have close
value_closes s ms k c l a = let d = have_leads s (object_of (pairs_of (ms ++ with_value k a ∷ []))) c in ((0, token.Sign sign.RightBrace) ∷ d.0, d.1, λ at. d.2)

after_key_leads : (s : List Item) (ms : List ExprMember) (k : Tree) (alone : Bool) → Closable s → Leads s (mode.AfterKey ms k alone)
unfolding step after_key
after_key_leads s ms k alone c = let d = want_leads (items.Open (opening.Value ms k) ∷ s) (value_closes s ms k c) in ((0, token.Sign sign.Colon) ∷ d.0, d.1, λ at. d.2)

text_end_leads : (p : Purpose) (w : Tree) (s : List Item) → Closable s → Leads s (text_end p w)
unfolding text_end
text_end_leads purpose.Operand w s c = have_leads s w c
text_end_leads (purpose.Index a) w s c = have_leads s (index a w) c
text_end_leads (purpose.Key ms) w s c = after_key_leads s ms w true c

then_closes : (s : List Item) (a : Tree) → Closable s → Closable (items.Open (opening.Then a) ∷ s)
unfolding have close go_on
then_closes s a c l b = let d = have_leads s (if_then a b) c in ((0, token.Keyword keyword.End) ∷ d.0, d.1, λ at. d.2)

-- with so many arguments more the name has a form
arguments_close : (d n : ℕ) (s : List Item) (x : List ℕ) (p : ℕ) (es : List Tree) (b : Builtin) → suc (length es + d) ≡ n → named x n ≡ Some b → Closable s
    → Closable (items.Open (opening.Arguments x p es) ∷ s)
unfolding have close
arguments_close zero n s x p es b is known c l a =
    let d = c 10 (apply b (trees_of (es ++ a ∷ []))) in
    let so_many : length (es ++ a ∷ []) ≡ n = omega (arith, length-append es (a ∷ [])) in
    ((0, token.Sign sign.RightParen) ∷ d.0, d.1, called (tokens d.0) d.1 l x p es a b s (ap (named x) so_many ∙ known) d.2)
arguments_close (suc k) n s x p es b is known c l a =
    let more : suc (length (es ++ a ∷ []) + k) ≡ n = omega (arith, length-append es (a ∷ [])) in
    let d = want_leads (items.Open (opening.Arguments x p (es ++ a ∷ [])) ∷ s) (arguments_close k n s x p (es ++ a ∷ []) b more known c) in
    ((0, token.Sign sign.Semicolon) ∷ d.0, d.1, λ at. d.2)

pub tokens-append : (ts us : Placed) → tokens (ts ++ us) ≡ tokens ts ++ tokens us
tokens-append [] us = refl
tokens-append (t ∷ ts) us = ap (λ (w : Tokens). t.1 ∷ w) (tokens-append ts us)

open_closes : (all : Placed) (o : Opening) (s : List Item) (ts us : Placed) → Opens all o (context s) ts us → Closable s → Closable (items.Open o ∷ s) ⊎ Crowded (tokens all)
unfolding have close go_on
open_closes all opening.Paren s ts us h c = inl (λ l a. let d = have_leads s a c in ((0, token.Sign sign.RightParen) ∷ d.0, d.1, λ at. d.2))
open_closes all opening.List s ts us h c = inl (λ l a. let d = have_leads s (list_of a) c in ((0, token.Sign sign.RightBracket) ∷ d.0, d.1, λ at. d.2))
open_closes all (opening.Index e) s ts us h c = inl (λ l a. let d = have_leads s (index e a) c in ((0, token.Sign sign.RightBracket) ∷ d.0, d.1, λ at. d.2))
open_closes all (opening.Text p e) s ts us h c = inl (λ l a. let d = text_end_leads p (text_sum e a []) s c in ((0, token.TextClose []) ∷ d.0, d.1, λ at. d.2))
open_closes all (opening.Key ms) s ts us h c = inl (λ l a. let d = after_key_leads s ms a false c in ((0, token.Sign sign.RightParen) ∷ d.0, d.1, λ at. d.2))
open_closes all (opening.Value ms k) s ts us h c = inl (value_closes s ms k c)
open_closes all opening.If s ts us h c = inl (λ l a. let d = want_leads (items.Open (opening.Then a) ∷ s) (then_closes s a c) in ((0, token.Keyword keyword.Then) ∷ d.0, d.1, λ at. d.2))
open_closes all (opening.Then e) s ts us h c = inl (then_closes s e c)
open_closes all (opening.Else e f) s ts us h c = inl (λ l a. let d = have_leads s (if_else e f a) c in ((0, token.Keyword keyword.End) ∷ d.0, d.1, λ at. d.2))
open_closes all (opening.Arguments x p es) s ts us h c = elim (form_from 3 x (suc (length es)) (omega arith)) [
  | inl form ↦ inl (arguments_close (form.0 - suc (length es)) form.0 s x p es form.1 (gap (length es) form.0 form.2) form.3 c)
  | inr none ↦
      let whole : all ≡ h.5 ++ (p, token.Name x) ∷ (h.1, token.Sign sign.LeftParen) ∷ h.2 = subst (λ (w : Placed). all ≡ h.5 ++ w) h.3 h.6 in
      inr (tokens h.5, x, tokens h.2, es, tokens us, ap tokens whole ∙ tokens-append h.5 _, h.4, none)
]
  where
    gap : (m n : ℕ) → suc m ≤ n → suc (m + (n - suc m)) ≡ n
    gap m n less = omega arith

-- each open thing can be closed, unless a name has too many arguments
closes : (all : Placed) (s : List Item) (us : Placed) → Spells all s us → Closable s ⊎ Crowded (tokens all)
unfolding whole
closes all [] us h = inl (λ l a. ([], a, λ at. refl))
closes all (items.Pending p ∷ s) us h = elim (closes all s h.0 h.1) [
  | inl c ↦ inl (λ l a. let d = c (pending_level p) (joined p a) in (d.0, d.1, pops (tokens d.0) d.1 s p l a h.2 d.2))
  | inr crowd ↦ inr crowd
]
closes all (items.Open o ∷ s) us h = elim (closes all s h.0 h.1) [
  | inl c ↦ open_closes all o s h.0 us h.2 c
  | inr crowd ↦ inr crowd
]

-- ---- what may stand next

called_leads : (n : ℕ) (s : List Item) (x : List ℕ) (p : ℕ) (b : Builtin) → named x n ≡ Some b → Closable s → Leads s (mode.Called x p)
unfolding step called_next
called_leads zero s x p b known c = let d = c 10 (apply b no_trees) in (d.0, d.1, takes_called (tokens d.0) d.1 s x p b known d.2)
called_leads (suc n) s x p b known c =
    let d = want_leads (items.Open (opening.Arguments x p []) ∷ s) (arguments_close n (suc n) s x p [] b (omega arith) known c) in
    ((0, token.Sign sign.LeftParen) ∷ d.0, d.1, λ at. d.2)

bar_leads : (s : List Item) (e : Tree) (x : List ℕ) → nat_le (context s) 0 ≡ true → Closable s → Leads s (mode.WantPipe e x)
unfolding step piped
bar_leads s e x sit c =
    let d = want_leads (items.Pending (pending.Bind e x) ∷ s) (λ l a. let f = c 0 (joined (pending.Bind e x) a) in (f.0, f.1, pops (tokens f.0) f.1 s (pending.Bind e x) l a sit f.2)) in
    ((0, token.Sign sign.Pipe) ∷ d.0, d.1, λ at. d.2)

leads : (all : Placed) (s : List Item) (m : Mode) (us : Placed) → Reads all s m us → Closable s → Leads s m
unfolding step first want dotted member member_end bound
leads all s mode.Want us h c = want_leads s c
leads all s mode.First us h c = let d = c 10 here in ((0, token.Dot) ∷ d.0, d.1, λ at. takes_dotted (tokens d.0) d.1 s here d.2)
leads all s (mode.Have e) us h c = have_leads s e c
leads all s (mode.Dotted e true) us h c = let d = c 10 e in (d.0, d.1, takes_dotted (tokens d.0) d.1 s e d.2)
leads all s (mode.Dotted e false) us h c = let d = have_leads s (index e (lit (text []))) c in ((0, token.Text []) ∷ d.0, d.1, λ at. d.2)
leads all s (mode.Called x p) us h c = let f = some_form x h.2.4 in called_leads f.0 s x p f.1 f.3 c
leads all s (mode.Member ms first) us h c = let d = after_key_leads s ms (lit (text [])) true c in ((0, token.Text []) ∷ d.0, d.1, λ at. d.2)
leads all s (mode.AfterKey ms k alone) us h c = after_key_leads s ms k alone c
leads all s (mode.MemberEnd ms) us h c = let d = have_leads s (object_of (pairs_of ms)) c in ((0, token.Sign sign.RightBrace) ∷ d.0, d.1, λ at. d.2)
leads all s (mode.WantVar e) us h c = let d = bar_leads s e (codes "x") h.2.0 c in ((0, token.Var (codes "x")) ∷ d.0, d.1, λ at. d.2)
leads all s (mode.WantPipe e x) us h c = bar_leads s e x h.2.0 c

-- ---- how far the reading comes

-- what was read comes to this: it says what is open, and what goes on from the start goes on from here
abbrev Comes : Placed → List Item → Mode → Type 0
Comes before s m = ((us : Placed) → Reads (before ++ us) s m us) × ((us : Tokens) (e : Tree) → Accepts (tokens before ++ us) e [] mode.Want → Accepts us e s m)

start : Comes [] [] mode.Want
start = (λ us. (us, refl, (refl, refl)), λ us e k. k)

-- one token further
further : (before : Placed) (t : ℕ × Token) (s : List Item) (m : Mode) (r : List Item × Mode) → Comes before s m → step s m t.0 t.1 ≡ Ok r → Comes (before ++ t ∷ []) r.0 r.1
further before t s m r h is = (
  λ us. subst (λ (w : Placed). Reads w r.0 r.1 us) (sym (append_assoc before (t ∷ []) us))
      (subst (Keeps (before ++ t ∷ us) t us) is (step_keeps (before ++ t ∷ us) us s m t.0 t.1 (h.0 (t ∷ us)) before refl)),
  λ us e k. subst (After (Accepts us e)) is (h.1 (t.1 ∷ us) e (subst (λ (w : Tokens). Accepts w e [] mode.Want) (on us) k) t.0),
)
  where
    on : (us : Tokens) → tokens (before ++ t ∷ []) ++ us ≡ tokens before ++ t.1 ∷ us
    on us = ap (λ (w : Tokens). w ++ us) (tokens-append before (t ∷ [])) ∙ append_assoc (tokens before) (t.1 ∷ []) us

-- what holds where the tokens end, and where one fails, holds of the run
walk : (P : Placed → Result Tree ParseFault → Type 0) (stop : End) → ((before : Placed) (s : List Item) (m : Mode) → Comes before s m → P before (run s m [] stop))
    → ((before : Placed) (t : ℕ × Token) (after : Placed) (s : List Item) (m : Mode) (f : ParseFault) → Comes before s m → step s m t.0 t.1 ≡ Err f → P (before ++ t ∷ after) (Err f))
    → (ts before : Placed) (s : List Item) (m : Mode) → Comes before s m → P (before ++ ts) (run s m ts stop)
unfolding run
walk P stop ends fails [] before s m h = subst (λ (w : Placed). P w (run s m [] stop)) (sym (append-nil before)) (ends before s m h)
walk P stop ends fails (t ∷ ts) before s m h = so (step s m t.0 t.1) refl (walk P stop ends fails ts (before ++ t ∷ []))
  where
    so : (x : Step) → step s m t.0 t.1 ≡ x → ((q : List Item) (n : Mode) → Comes (before ++ t ∷ []) q n → P ((before ++ t ∷ []) ++ ts) (run q n ts stop))
        → P (before ++ t ∷ ts) (x >>= λ r. run r.0 r.1 ts stop)
    so (Ok r) is next = subst (λ (w : Placed). P w (run r.0 r.1 ts stop)) (append_assoc before (t ∷ []) ts) (next r.0 r.1 (further before t s m r h is))
    so (Err f) is next = fails before t ts s m f h is

here_reads : (before : Placed) (s : List Item) (m : Mode) → Comes before s m → Reads before s m []
here_reads before s m h = subst (λ (w : Placed). Reads w s m []) (append-nil before) (h.0 [])

-- ---- the end

-- the fault at the end is the end's, or that of a name that may not stand alone
abbrev EndFault : Placed → ParseFault → ParseFault → Type 0
EndFault ts g f = (f ≡ g) ⊎ ((p : ℕ) × (f ≡ fault.UnknownName p) × UnknownAlone ts [] p)

-- what the tokens give at their end
abbrev pub Ended : Placed → End → Result Tree ParseFault → Type 0
Ended ts (end.At at) (Ok e) = Pipe (tokens ts) e
Ended ts (end.At at) (Err f) = EndFault ts (fault.Syntax at) f
Ended ts (end.Fault g) (Ok e) = ⊥
Ended ts (end.Fault g) (Err f) = EndFault ts g f

whole_ended : (all : Placed) (s : List Item) (l : ℕ) (ts : Placed) (e : Tree) (at : ℕ) → Spells all s ts → Hand (context s) l (tokens ts) e [] → Ended all (end.At at) (whole s e at)
unfolding whole
whole_ended all [] l ts e at sp h = subst (λ (w : Placed). Pipe (tokens w) e) (sym sp) (inner 0 l (tokens ts) [] e refl h)
whole_ended all (items.Pending p ∷ s) l ts e at sp h = whole_ended all s (pending_level p) sp.0 (joined p e) at sp.1 (sp.3 l e [] h)
whole_ended all (items.Open o ∷ s) l ts e at sp h = inl refl

-- the operand that was read last
abbrev Last : Placed → List Item → Result (Option Tree) ParseFault → Type 0
Last all s (Ok (Some e)) = (ts : Placed) × Spells all s ts × Hand (context s) 10 (tokens ts) e []
Last all s (Ok None) = Unit {0}
Last all s (Err f) = (p : ℕ) × (f ≡ fault.UnknownName p) × UnknownAlone all [] p

lastly : (all : Placed) (s : List Item) (m : Mode) → Reads all s m [] → Last all s (last_read m)
unfolding last_read applied applied_to
lastly all s (mode.Have e) h = h
lastly all s (mode.Dotted e true) h = (h.0, h.1, hold (context s) (tokens h.0) [] e h.2.0 h.2.1)
lastly all s (mode.Called x p) h = so (named x 0) refl
  where
    so : (o : Option Builtin) → named x 0 ≡ o → Last all s (applied_to o p [] >>= λ a. Ok (Some a))
    so (Some b) known = (h.0, h.1, hold (context s) (tokens h.0) [] _ h.2.0 (alone_term h.0 [] x p b h.2.1 known))
    so None known = (p, refl, (h.2.2, x, subst (λ (w : Placed). all ≡ h.2.2 ++ w) h.2.1 h.2.3, known))
lastly all s m h = tt

ended : (stop : End) (before : Placed) (s : List Item) (m : Mode) → Comes before s m → Ended before stop (run s m [] stop)
unfolding run finish
ended (end.At at) before s m h = so (last_read m) (lastly before s m (here_reads before s m h))
  where
    so : (r : Result (Option Tree) ParseFault) → Last before s r → Ended before (end.At at) (r >>= whole_or s at)
    so (Ok (Some e)) k = whole_ended before s 10 k.0 e at k.1 k.2
    so (Ok None) k = inl refl
    so (Err f) k = inr k
ended (end.Fault g) before s m h = so (last_read m) (lastly before s m (here_reads before s m h))
  where
    so : (r : Result (Option Tree) ParseFault) → Last before s r → Ended before (end.Fault g) (r >>= λ o. Err g)
    so (Ok o) k = inl refl
    so (Err f) k = inr k

read_whole : (stop : End) (ts before : Placed) (s : List Item) (m : Mode) → Comes before s m → (e : Tree) → run s m ts stop ≡ Ok e → Ended (before ++ ts) stop (Ok e)
read_whole stop =
    walk (λ ts r. (e : Tree) → r ≡ Ok e → Ended ts stop (Ok e)) stop (λ before s m h e is. subst (Ended before stop) is (ended stop before s m h)) (λ before t after s m f h is e never. cc never)

-- what is read ends so
pub read_so : (ts : Placed) (stop : End) (e : Tree) → run [] mode.Want ts stop ≡ Ok e → Ended ts stop (Ok e)
read_so ts stop = read_whole stop ts [] [] mode.Want start

pub sound : IsSound
sound ts at e is = read_so ts (end.At at) e is

-- ---- the first fault

-- what was read begins some expression
begins : (before : Placed) (s : List Item) (m : Mode) → Comes before s m → Begins (tokens before)
begins before s m h = elim (closes before s read.0 read.1) [
  | inl c ↦
      let l = leads before s m [] read c in
      inl (tokens l.0, l.1, subst (λ (w : Tokens). Pipe w l.1) (tokens-append before l.0) (read_whole (end.At 0) l.0 before s m h l.1 (accepts-run l.0 0 l.1 s m l.2)))
  | inr crowd ↦ inr crowd
]
  where
    read : Reads before s m []
    read = here_reads before s m h

-- no expression begins with what is refused
not_on : (before : Placed) (t : ℕ × Token) (s : List Item) (m : Mode) (f : ParseFault) → Comes before s m → step s m t.0 t.1 ≡ Err f → ¬ (GoesOn (tokens before ++ t.1 ∷ []))
not_on before t s m f h is g =
    subst (After (Accepts g.0 g.1)) is
    (h.1 (t.1 ∷ g.0) g.1 (subst (λ (w : Tokens). Accepts w g.1 [] mode.Want) (append_assoc (tokens before) (t.1 ∷ []) g.0) (accepted _ g.1 g.2)) t.0)

-- tokens make one tree
one_tree : (us : Tokens) (s : List Item) (m : Mode) (a b : Tree) → Accepts us a s m → Accepts us b s m → a ≡ b
one_tree [] s m a b h g = let same : Ok a ≡ Ok b = sym (h 0) ∙ g 0 in cc
one_tree (t ∷ us) s m a b h g = so (step s m 0 t) (λ q n. one_tree us q n a b) (h 0) (g 0)
  where
    so : (x : Step) → ((q : List Item) (n : Mode) → Accepts us a q n → Accepts us b q n → a ≡ b) → After (Accepts us a) x → After (Accepts us b) x → a ≡ b
    so (Ok r) next i k = next r.0 r.1 i k
    so (Err f) next i k = absurd i

pub unambiguous : IsUnambiguous
unambiguous us a b h g = one_tree us [] mode.Want a b (accepted us a h) (accepted us b g)

-- the fault at the end, where no expression ends
fault_after : (ts : Placed) (stop : End) (f : ParseFault) → run [] mode.Want ts stop ≡ Err f → Ended ts stop (Err f) → FaultAfter ts stop f
fault_after ts (end.At at) f is k = (λ e d. cc (sym is ∙ complete ts at e d), k)
fault_after ts (end.Fault g) f is k = k

-- the first token that fails, or the end
abbrev Refused : Placed → End → ParseFault → Type 0
Refused ts stop f =
    ((before : Placed) × (t : ℕ × Token) × (after : Placed) × (ts ≡ before ++ t ∷ after) × Begins (tokens before) × (¬ (GoesOn (tokens before ++ t.1 ∷ []))) × FaultAt ts t after f)
    ⊎ (Begins (tokens ts) × FaultAfter ts stop f)

pub is_first : IsFirst
is_first ts stop f is =
    walk (λ w r. (g : ParseFault) → r ≡ Err g → run [] mode.Want w stop ≡ Err g → Refused w stop g) stop
    (λ before s m h g k on. inr (begins before s m h, fault_after before stop g on (subst (Ended before stop) k (ended stop before s m h))))
    (λ before t after s m e h fails g k on.
    let here = subst (Keeps (before ++ t ∷ after) t after) fails (step_keeps (before ++ t ∷ after) after s m t.0 t.1 (h.0 (t ∷ after)) before refl) in
    let same : e ≡ g = cc k in
    inl (before, t, after, refl, begins before s m h, not_on before t s m e h fails, subst (FaultAt (before ++ t ∷ after) t after) same here)) ts [] [] mode.Want start f is is
