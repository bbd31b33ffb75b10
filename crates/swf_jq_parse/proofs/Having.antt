-- What follows an operand, one thing that waits for it at a time.
use Rattle.std.proofs.Common.{◌≡◌, ◌∙◌, ◌<◌, ◌≤◌, ℕ, List, [], ◌∷◌, true, false, refl, ap, sym, nat_le, arith, Option, Some, None}
use Rattle.swf_expr.specs.Expr.{Tree}
use Rattle.swf_jq_parse.specs.Joints.{follower_left, follows}
use Rattle.swf_jq_parse.specs.Machine.{Step, pending_level, joined, context, have, goes_on, followed, close, wrong, misplaced}
use Rattle.swf_jq_parse.specs.declared.joint.Follower.{Follower}
use Rattle.swf_jq_parse.specs.declared.stack.Item.{Item}
use Rattle.swf_jq_parse.specs.declared.stack.Item.TheVariants as items
use Rattle.swf_jq_parse.specs.declared.stack.Pending.{Pending}
use Rattle.swf_jq_tokens.specs.declared.token.Token.{Token}
use Rattle.swf_jq_tokens.proofs.Choices.{chosen, other}
use Rattle.std.proofs.lemmas.Bool.Decides.{nat_tests}

-- what is left where the token does not follow
abbrev pub left_over : List Item → Tree → ℕ → Token → Step
left_over [] e at t = wrong at t
left_over (items.Pending p ∷ s) e at t = have s (pending_level p) (joined p e) at t
left_over (items.Open o ∷ s) e at t = close o s e at t

pub have_is : (s : List Item) (l : ℕ) (e : Tree) (at : ℕ) (t : Token) → have s l e at t ≡ goes_on (follows (context s) t) l s e at t (left_over s e at t)
unfolding have
have_is [] l e at t = refl
have_is (items.Pending p ∷ s) l e at t = refl
have_is (items.Open o ∷ s) l e at t = refl

-- what follows by the tests that the code makes
pub have_tested : (s : List Item) (l k : ℕ) (e : Tree) (at : ℕ) (t : Token) (o : Option Follower) → k ≡ context s → o ≡ follows k t → have s l e at t ≡ goes_on o l s e at t (left_over s e at t)
have_tested s l k e at t o is h =
    have_is s l e at t ∙ ap (λ (q : Option Follower). goes_on q l s e at t (left_over s e at t)) (ap (λ (j : ℕ). follows j t) (sym is) ∙ sym h)

-- it does not follow
pub have_left : (s : List Item) (l : ℕ) (e : Tree) (at : ℕ) (t : Token) → follows (context s) t ≡ None → have s l e at t ≡ left_over s e at t
have_left s l e at t is = have_tested s l (context s) e at t None refl (sym is)

-- it does not follow, by the tests that the code makes, and this is open
pub have_left_of : (s q : List Item) (l k : ℕ) (e : Tree) (at : ℕ) (t : Token) → k ≡ context s → None ≡ follows k t → s ≡ q → have s l e at t ≡ left_over q e at t
have_left_of s q l k e at t is h on = have_tested s l k e at t None is h ∙ ap (λ (z : List Item). left_over z e at t) on

-- what waited is joined
pub have_joined : (s r : List Item) (p : Pending) (l k m : ℕ) (e d : Tree) (at : ℕ) (t : Token)
    → k ≡ context s → None ≡ follows k t → s ≡ items.Pending p ∷ r → m ≡ pending_level p → d ≡ joined p e → have r m d at t ≡ have s l e at t
have_joined s r p l k m e d at t is h on level with_right =
    ap (λ (n : ℕ). have r n d at t) level
    ∙ ap (λ (x : Tree). have r (pending_level p) x at t) with_right
    ∙ sym (have_left_of s (items.Pending p ∷ r) l k e at t is h on)

-- it follows
pub have_followed : (s : List Item) (l : ℕ) (e : Tree) (at : ℕ) (t : Token) (f : Follower) → follows (context s) t ≡ Some f → nat_le (follower_left f) l ≡ true → have s l e at t ≡ followed f s e at t
have_followed s l e at t f is low = have_tested s l (context s) e at t (Some f) refl (sym is) ∙ chosen (nat_le (follower_left f) l) (followed f s e at t) (misplaced at) low

-- the operand binds too loosely
pub have_loose : (s : List Item) (l : ℕ) (e : Tree) (at : ℕ) (t : Token) (f : Follower) → follows (context s) t ≡ Some f → nat_le (follower_left f) l ≡ false → have s l e at t ≡ misplaced at
have_loose s l e at t f is high = have_tested s l (context s) e at t (Some f) refl (sym is) ∙ other (nat_le (follower_left f) l) (followed f s e at t) (misplaced at) high

-- whether the operand binds tightly enough, by the test that the code makes
pub tight_enough : (m n l : ℕ) → n ≡ m → n ≤ l → nat_le m l ≡ true
tight_enough m n l e h = grind (arith, nat_tests)

pub too_loose : (m n l : ℕ) → n ≡ m → l < n → nat_le m l ≡ false
too_loose m n l e h = grind (arith, nat_tests)
