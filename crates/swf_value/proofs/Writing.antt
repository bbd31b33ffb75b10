-- A value's text, piece by piece.
use Rattle.std.proofs.Common.{◌≡◌, ◌∙◌, ap, sym, subst, ℕ, suc, ◌+◌, ◌<◌, List, [], ◌∷◌, ◌++◌, Bool, true, false, length, get_or, drop, nat_lt, drop-cons, add-one, append_assoc, lt-ltb, arith}
use Rattle.swf_value.specs.Value.{Value, IsValue, AreItems, AreMembers}
use Rattle.swf_value.specs.Node.{items_of, members_of}
use Rattle.swf_value.specs.Written.{quoted, comma, written, written_items, written_members, Extends}
use Rattle.swf_value.specs.declared.value.Member.{Member}
use Rattle.std.specs.Bool.{if◌then◌else◌}
use Rattle.std.specs.Str.{all_scalars}

pub Extends-trans : (a b c : List ℕ) → Extends a b → Extends b c → Extends a c
Extends-trans a b c p q = (p.0 ++ q.0, q.1 ∙ ap (λ l. l ++ q.0) p.1 ∙ append_assoc a p.0 q.0)

pub Extends-more : (a b c more : List ℕ) → Extends a b → c ≡ b ++ more → Extends a c
Extends-more a b c more p e = (p.0 ++ more, e ∙ ap (λ l. l ++ more) p.1 ∙ append_assoc a p.0 more)

pub Extends-same : (a b c : List ℕ) → Extends a b → c ≡ b → Extends a c
Extends-same a b c p e = (p.0, e ∙ p.1)

pub Extends-if : (a b c more : List ℕ) (ok : Bool) → Extends a b → c ≡ (if ok then b ++ more else b) → Extends a c
Extends-if a b c more true p e = Extends-more a b c more p e
Extends-if a b c more false p e = Extends-same a b c p e

pub first_of_rest : {A : Type 0} (ds : List A) (i : ℕ) (d : A) → i < length ds → d ≡ get_or ds i d → drop i ds ≡ d ∷ drop (i + 1) ds
first_of_rest ds i d h e = rw add-one (drop-cons ds i d h ∙ ap (λ x. x ∷ drop (suc i) ds) (sym e))

later : (i : ℕ) → nat_lt 0 (i + 1) ≡ true
later i = lt-ltb 0 (i + 1) (omega arith)

-- one more item
pub item_written : (ds : List Value) (i : ℕ) (d : Value) (a b c whole : List ℕ) → drop i ds ≡ d ∷ drop (i + 1) ds → b ≡ a ++ comma (nat_lt 0 i) → c ≡ b ++ written d
    → a ++ written_items (nat_lt 0 i) (items_of (drop i ds)) ≡ whole → c ++ written_items (nat_lt 0 (i + 1)) (items_of (drop (i + 1) ds)) ≡ whole
item_written ds i d a b c whole first p q e =
    let rest = written_items true (items_of (drop (i + 1) ds)) in
    let joined : c ++ rest ≡ a ++ (comma (nat_lt 0 i) ++ (written d ++ rest)) = rw (q, p) (simp append_assoc) in
    rw later (joined ∙ ap (λ l. a ++ written_items (nat_lt 0 i) (items_of l)) (sym first) ∙ e)

pub item_valued : (ds : List Value) (i : ℕ) (d : Value) → drop i ds ≡ d ∷ drop (i + 1) ds → IsValue d → AreItems (items_of (drop (i + 1) ds)) → AreItems (items_of (drop i ds))
item_valued ds i d first v more = subst (λ l. AreItems (items_of l)) (sym first) (v, more)

-- one more member
pub member_written : (ms : List Member) (i : ℕ) (m : Member) (a b n c whole : List ℕ) → drop i ms ≡ m ∷ drop (i + 1) ms → b ≡ a ++ comma (nat_lt 0 i) → n ≡ b ++ (quoted m.name ++ 58 ∷ []) → c ≡ n ++ written m.value
    → a ++ written_members (nat_lt 0 i) (members_of (drop i ms)) ≡ whole → c ++ written_members (nat_lt 0 (i + 1)) (members_of (drop (i + 1) ms)) ≡ whole
member_written ms i m a b n c whole first p o q e =
    let rest = written_members true (members_of (drop (i + 1) ms)) in
    let joined : c ++ rest ≡ a ++ (comma (nat_lt 0 i) ++ (quoted m.name ++ 58 ∷ (written m.value ++ rest))) = rw (q, o, p) (simp append_assoc) in
    rw later (joined ∙ ap (λ l. a ++ written_members (nat_lt 0 i) (members_of l)) (sym first) ∙ e)

pub member_valued : (ms : List Member) (i : ℕ) (m : Member) → drop i ms ≡ m ∷ drop (i + 1) ms → all_scalars m.name ≡ true → IsValue m.value → AreMembers (members_of (drop (i + 1) ms)) → AreMembers (members_of (drop i ms))
member_valued ms i m first named v more = subst (λ l. AreMembers (members_of l)) (sym first) (named, v, more)
