-- Going over lists of values and members one by one, with what is left.
use Rattle.std.proofs.Common.{◌≡◌, ◌∙◌, ℕ, zero, suc, ◌+◌, ◌<◌, ◌≤◌, List, [], ◌∷◌, length, get_or, drop, ap, sym, refl, add-one, arith}
use Rattle.std.proofs.Math.Seq.{drop-cons}
use Rattle.std.proofs.lemmas.List.{drop_all}
use Rattle.std.specs.declared.cmp.Ordering.TheVariants.{Less}
use Rattle.swf_value.specs.Value.{Value}
use Rattle.swf_value.specs.Node.{items_of, members_of}
use Rattle.swf_value.specs.declared.value.Member.{Member}
use Rattle.swf_value.specs.Order.{items_cmp, members_cmp, names_cmp}

-- the item at a place, and what comes after it
pub rest_at : {A : Type 0} (ds : List A) (i : ℕ) (d : A) → i < length ds → d ≡ get_or ds i d → drop i ds ≡ d ∷ drop (i + 1) ds
rest_at ds i d h e = rw add-one (drop-cons ds i d h ∙ ap (λ x. x ∷ drop (suc i) ds) (sym e))

-- a list of which something is left
pub some_left : {A : Type 0} (ds : List A) (i : ℕ) → i < length ds → (d : A) × (es : List A) × (drop i ds ≡ d ∷ es)
some_left [] i h = absurd (omega arith)
some_left (d ∷ ds) zero h = (d, ds, refl)
some_left (d ∷ ds) (suc i) h = some_left ds i (omega arith)

-- the first list has ended and the second goes on
pub items_short : (xs ys : List Value) (i : ℕ) → length xs ≤ i → i < length ys → items_cmp (items_of (drop i xs)) (items_of (drop i ys)) ≡ Less
items_short xs ys i h k = let s = some_left ys i k in rw (drop_all i xs h, s.2) refl

pub names_short : (xs ys : List Member) (i : ℕ) → length xs ≤ i → i < length ys → names_cmp (members_of (drop i xs)) (members_of (drop i ys)) ≡ Less
names_short xs ys i h k = let s = some_left ys i k in rw (drop_all i xs h, s.2) refl

pub members_short : (xs ys : List Member) (i : ℕ) → length xs ≤ i → i < length ys → members_cmp (members_of (drop i xs)) (members_of (drop i ys)) ≡ Less
members_short xs ys i h k = let s = some_left ys i k in rw (drop_all i xs h, s.2) refl
