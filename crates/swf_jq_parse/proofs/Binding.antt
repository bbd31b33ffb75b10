-- How tightly joints, what follows an operand and what waits for one bind.
use Rattle.std.proofs.Common.{◌≡◌, ◌∙◌, ◌+◌, ◌==◌, ◌||◌, ◌⊎◌, ℕ, Bool, true, false, refl, ap, sym, nat_le, nat_lt, subst, arith, inl, inr, Some, None}
use Rattle.std.proofs.lemmas.Bool.Decides.{nat_tests}
use Rattle.std.specs.Prelude.{if◌then◌else◌}
use Rattle.swf_expr.specs.declared.op.Op.{Op}
use Rattle.swf_expr.specs.declared.op.Op.TheVariants as ops
use Rattle.swf_jq_parse.specs.Joints.{op_level, level, left, right, sign_of, fits, follower_level, follower_left, role, kept, follows}
use Rattle.swf_jq_parse.specs.Machine.{pending_level, pending_right}
use Rattle.swf_jq_parse.specs.declared.joint.Follower.{Follower}
use Rattle.swf_jq_parse.specs.declared.joint.Follower.TheVariants as follower
use Rattle.swf_jq_parse.specs.declared.joint.Joint.{Joint}
use Rattle.swf_jq_parse.specs.declared.joint.Joint.TheVariants as joint
use Rattle.swf_jq_parse.specs.declared.stack.Pending.{Pending}
use Rattle.swf_jq_parse.specs.declared.stack.Pending.TheVariants as pending
use Rattle.swf_jq_tokens.specs.declared.token.Keyword.TheVariants as keyword
use Rattle.swf_jq_tokens.specs.declared.token.Sign.TheVariants as sign
use Rattle.swf_jq_tokens.specs.declared.token.Token.{Token}
use Rattle.swf_jq_tokens.specs.declared.token.Token.TheVariants as token
pub use Rattle.swf_jq_tokens.proofs.Choices.{chosen, other}

pub le_self : (n : ℕ) → nat_le n n ≡ true
le_self n = grind (arith, nat_tests)

pub le_up : (i j k : ℕ) → nat_le i j ≡ true → nat_le j k ≡ true → nat_le i k ≡ true
le_up i j k h g = grind (arith, nat_tests)

-- ---- the tables

-- what holds of each level of operators holds of an operator's
by_op : (P : ℕ → Type 0) → P 6 → P 7 → P 8 → (o : Op) → P (op_level o)
by_op P a b c ops.Add = b
by_op P a b c ops.Subtract = b
by_op P a b c ops.Multiply = c
by_op P a b c ops.Divide = c
by_op P a b c ops.Modulo = c
by_op P a b c o = a

-- whether what binds so tightly is grouped to the right
abbrev rightward : ℕ → Bool
rightward n = (n == 0) || (n == 2) || (n == 3) || (n == 9)

-- how tightly something binds, and its right operand has to
abbrev Opens : ℕ → ℕ → Type 0
Opens n r = (nat_lt n r ≡ true) ⊎ (n ≡ r) × (rightward n ≡ true)

-- how tightly something binds, and its left operand has to
abbrev Leans : ℕ → ℕ → Type 0
Leans n l = (nat_lt n l ≡ true) ⊎ (n ≡ l) × (rightward n ≡ false)

joint_groups : (j : Joint) → Opens (level j) (right j) × Leans (level j) (left j)
joint_groups joint.Comma = (inl refl, inr (refl, refl))
joint_groups joint.Or = (inl refl, inr (refl, refl))
joint_groups joint.And = (inl refl, inr (refl, refl))
joint_groups (joint.Op o) = by_op (λ n. Opens n (n + 1) × Leans n (if n == 6 then 7 else n)) (inl refl, inl refl) (inl refl, inr (refl, refl)) (inl refl, inr (refl, refl)) o
joint_groups j = (inr (refl, refl), inl refl)

pending_opens : (p : Pending) → Opens (pending_level p) (pending_right p)
pending_opens (pending.Left j a) = (joint_groups j).0
pending_opens (pending.Branch c a) = inl refl
pending_opens p = inr (refl, refl)

follower_leans : (f : Follower) → Leans (follower_level f) (follower_left f)
follower_leans follower.Suffix = inr (refl, refl)
follower_leans follower.As = inl refl
follower_leans (follower.Joint j) = (joint_groups j).1

-- what does not end before a token would not stand where that ends
strict : (n r m l : ℕ) → Opens n r → Leans m l → nat_le r m ≡ true → nat_le l n ≡ false
strict n r m l g k h = grind (arith, nat_tests)

-- how tightly a joint and its operands bind at most
abbrev Bounded : ℕ → ℕ → ℕ → Type 0
Bounded n l r = (nat_le n l ≡ true) × (nat_le l 8 ≡ true) × (nat_le n r ≡ true) × (nat_le r 9 ≡ true) × ((l == 2) ≡ false)

joint_low : (j : Joint) → Bounded (level j) (left j) (right j)
joint_low (joint.Op o) = by_op (λ n. Bounded n (if n == 6 then 7 else n) (n + 1)) (refl, refl, refl, refl, refl) (refl, refl, refl, refl, refl) (refl, refl, refl, refl, refl) o
joint_low j = (refl, refl, refl, refl, refl)

pub level_left : (f : Follower) → nat_le (follower_level f) (follower_left f) ≡ true
level_left (follower.Joint j) = (joint_low j).0
level_left f = refl

pub left_low : (f : Follower) → nat_le (follower_left f) 10 ≡ true
left_low (follower.Joint j) = le_up (left j) 8 10 (joint_low j).1 refl
left_low f = refl

pub level_low : (f : Follower) → nat_le (follower_level f) 10 ≡ true
level_low f = le_up (follower_level f) (follower_left f) 10 (level_left f) (left_low f)

pub right_low : (j : Joint) → nat_le (right j) 9 ≡ true
right_low j = (joint_low j).3

pub joint_level_low : (j : Joint) → nat_le (level j) 8 ≡ true
joint_level_low j = le_up (level j) (left j) 8 (joint_low j).0 (joint_low j).1

-- ---- what may stand in what

abbrev pub sits : ℕ → Pending → Bool
sits c pending.Negate = nat_le c 9
sits c (pending.Left j a) = fits c j
sits c (pending.Bind a x) = nat_le c 0
sits c (pending.Branch d a) = nat_le c 11

pub fits_level : (c : ℕ) (j : Joint) → fits c j ≡ true → nat_le c (level j) ≡ true
fits_level c joint.ValuePipe h = grind (arith, nat_tests)
fits_level c j h = h

-- a joint fits between
pub fits_between : (c k : ℕ) (j : Joint) → fits c j ≡ true → nat_le c k ≡ true → nat_le k (level j) ≡ true → fits k j ≡ true
fits_between c k joint.ValuePipe h g d = grind (arith, nat_tests)
fits_between c k j h g d = d

sits_right : (c : ℕ) (p : Pending) → sits c p ≡ true → nat_le c (pending_right p) ≡ true
sits_right c (pending.Left j a) h = le_up c (level j) (right j) (fits_level c j h) (joint_low j).2
sits_right c p h = h

-- ---- what follows an operand

pub follows_from : (c : ℕ) (f : Follower) → nat_le c (follower_level f) ≡ true → kept c (Some f) ≡ Some f
follows_from c f h = chosen (nat_le c (follower_level f)) (Some f) None h

-- a joint that fits is known by its sign
pub follows_sign : (c : ℕ) (j : Joint) → fits c j ≡ true → follows c (sign_of j) ≡ Some (follower.Joint j)
follows_sign c joint.Pipe h = ap (λ (j : Joint). kept c (Some (follower.Joint j))) (other (c == 2) joint.ValuePipe joint.Pipe (grind (arith, nat_tests))) ∙ follows_from c (follower.Joint joint.Pipe) h
follows_sign c joint.ValuePipe h =
    ap (λ (j : Joint). kept c (Some (follower.Joint j))) (chosen (c == 2) joint.ValuePipe joint.Pipe h) ∙ follows_from c (follower.Joint joint.ValuePipe) (fits_level c joint.ValuePipe h)
follows_sign c j h = follows_from c (follower.Joint j) h

-- whether what follows fits
abbrev admits : ℕ → Follower → Bool
admits c follower.Suffix = nat_le c 10
admits c follower.As = nat_le c 0
admits c (follower.Joint j) = fits c j

-- the token is what it is taken for, and fits
abbrev Shows : Token → Follower → Type 0
Shows t follower.Suffix = (k : ℕ) → role k t ≡ Some follower.Suffix
Shows t follower.As = t ≡ token.Keyword keyword.As
Shows t (follower.Joint j) = t ≡ sign_of j

abbrev pub Means : ℕ → Token → Follower → Type 0
Means c t f = (admits c f ≡ true) × Shows t f

kept_by : (c : ℕ) (f g : Follower) (b : Bool) → nat_le c (follower_level f) ≡ b → (if b then Some f else None) ≡ Some g → (f ≡ g) × (nat_le c (follower_level f) ≡ true)
kept_by c f g true e h = (cc h, e)
kept_by c f g false e h = cc h

means_as : (c : ℕ) (t : Token) (f g : Follower) → (nat_le c (follower_level f) ≡ true → Means c t f) → kept c (Some f) ≡ Some g → Means c t g
means_as c t f g m h = let k = kept_by c f g (nat_le c (follower_level f)) refl h in subst (Means c t) k.0 (m k.1)

pipe_means : (c : ℕ) (g : Follower) (b : Bool) → (c == 2) ≡ b → kept c (Some (follower.Joint (if b then joint.ValuePipe else joint.Pipe))) ≡ Some g → Means c (token.Sign sign.Pipe) g
pipe_means c g true e h = means_as c (token.Sign sign.Pipe) (follower.Joint joint.ValuePipe) g (λ k. (e, refl)) h
pipe_means c g false e h = means_as c (token.Sign sign.Pipe) (follower.Joint joint.Pipe) g (λ k. (k, refl)) h

pub means : (c : ℕ) (t : Token) (g : Follower) → follows c t ≡ Some g → Means c t g
means c token.Dot g h = means_as c token.Dot follower.Suffix g (λ k. (k, λ d. refl)) h
means c (token.Field x) g h = means_as c (token.Field x) follower.Suffix g (λ k. (k, λ d. refl)) h
means c (token.Keyword keyword.As) g h = means_as c (token.Keyword keyword.As) follower.As g (λ k. (k, refl)) h
means c (token.Keyword keyword.Or) g h = means_as c (token.Keyword keyword.Or) (follower.Joint joint.Or) g (λ k. (k, refl)) h
means c (token.Keyword keyword.And) g h = means_as c (token.Keyword keyword.And) (follower.Joint joint.And) g (λ k. (k, refl)) h
means c (token.Sign sign.LeftBracket) g h = means_as c (token.Sign sign.LeftBracket) follower.Suffix g (λ k. (k, λ d. refl)) h
means c (token.Sign sign.Question) g h = means_as c (token.Sign sign.Question) follower.Suffix g (λ k. (k, λ d. refl)) h
means c (token.Sign sign.Comma) g h = means_as c (token.Sign sign.Comma) (follower.Joint joint.Comma) g (λ k. (k, refl)) h
means c (token.Sign sign.Pipe) g h = pipe_means c g (c == 2) refl h
means c (token.Sign sign.Alternative) g h = means_as c (token.Sign sign.Alternative) (follower.Joint joint.Alt) g (λ k. (k, refl)) h
means c (token.Sign (sign.Op o)) g h = means_as c (token.Sign (sign.Op o)) (follower.Joint (joint.Op o)) g (λ k. (k, refl)) h
means c t g h = cc h

pub means_level : (c : ℕ) (t : Token) (f : Follower) → Means c t f → nat_le c (follower_level f) ≡ true
means_level c t (follower.Joint j) m = fits_level c j m.0
means_level c t f m = m.0

follows_as : (c : ℕ) (t : Token) (f : Follower) → Means c t f → follows c t ≡ Some f
follows_as c t follower.Suffix m = ap (kept c) (m.1 c) ∙ follows_from c follower.Suffix m.0
follows_as c t follower.As m = ap (follows c) m.1 ∙ follows_from c follower.As m.0
follows_as c t (follower.Joint j) m = ap (follows c) m.1 ∙ follows_sign c j m.0

-- what follows an operand where something before it could end follows it there too, and asks for a tighter one
in_value : (c : ℕ) (p : Pending) → sits c p ≡ true → (pending_right p == 2) ≡ true → (c == 2) ≡ true
in_value c (pending.Left joint.ValuePipe a) h g = h
in_value c (pending.Left (joint.Op o) a) h g = absurd (by_op (λ n. ((n + 1) == 2) ≡ true → ⊥) (λ e. cc e) (λ e. cc e) (λ e. cc e) o g)
in_value c p h g = cc g

admits_in : (c : ℕ) (p : Pending) (f : Follower) → sits c p ≡ true → admits (pending_right p) f ≡ true → admits c f ≡ true
admits_in c p (follower.Joint joint.ValuePipe) sit h = in_value c p sit h
admits_in c p f sit h = le_up c (pending_right p) (follower_level f) (sits_right c p sit) h

pub shifts : (c : ℕ) (p : Pending) (t : Token) (f : Follower) → sits c p ≡ true → follows (pending_right p) t ≡ Some f
    → (follows c t ≡ Some f) × (nat_le (follower_left f) (pending_level p) ≡ false)
shifts c p t f sit h =
    let m = means (pending_right p) t f h in
    let tight = strict (pending_level p) (pending_right p) (follower_level f) (follower_left f) (pending_opens p) (follower_leans f) (means_level (pending_right p) t f m) in
    (follows_as c t f (admits_in c p f sit m.0, m.1), tight)

-- ---- how tightly an operand may bind inside something

abbrev pub under : ℕ → ℕ → Bool
under c k = if k == 2 then c == 2 else nat_le c k

pub under_self : (k : ℕ) → under k k ≡ true
under_self k = grind (arith, nat_tests)

pub under_le : (c k : ℕ) → under c k ≡ true → nat_le c k ≡ true
under_le c k h = grind (arith, nat_tests)

pub fits_under : (c k : ℕ) (j : Joint) → under c k ≡ true → fits k j ≡ true → fits c j ≡ true
fits_under c k joint.ValuePipe h g = sym (chosen (k == 2) (c == 2) (nat_le c k) g) ∙ h
fits_under c k j h g = le_up c k (level j) (under_le c k h) g

pub under_left : (c : ℕ) (j : Joint) → fits c j ≡ true → under c (left j) ≡ true
under_left c j h = other (left j == 2) (c == 2) (nat_le c (left j)) (joint_low j).4 ∙ le_up c (level j) (left j) (fits_level c j h) (joint_low j).0
