-- From the place of the first connector that takes a request to what contracts see of all.
use Rattle.std.proofs.Common.{◌≡◌, ◌∙◌, sym, subst, refl, ap, ℕ, zero, suc, ◌+◌, ◌<◌, ◌≤◌, List, [], ◌∷◌, ◌++◌, true, false, length, take, drop, get_or, slice_set, map, All, Result, Ok, inl, inr, arith}
use Rattle.std.proofs.lemmas.List.{take_all}
use Rattle.std.proofs.lemmas.List.Elements.{All-nil, All-cons, All-head, All-tail, All-more}
use Rattle.swf_calls.specs.Request.{Request}
use Rattle.swf_calls.specs.declared.reply.CallReply.{CallReply}
use Rattle.swf_calls.specs.declared.reply.CallReply.TheVariants.{Unreached}
use Rattle.swf_connect.specs.Parties.{Party, IsAsked, Performs}

-- the items before a place, the one there, and those behind
parted : {A : Type 0} (m : A → Party) (items : List A) (place : ℕ) (d : A) → place < length items
    → map m items ≡ map m (take place items) ++ m (get_or items place d) ∷ map m (drop (suc place) items)
parted m [] place d within = absurd (omega (arith, within))
parted m (x ∷ xs) zero d within = refl
parted m (x ∷ xs) (suc place) d within = ap (λ (t : List Party). m x ∷ t) (parted m xs place d (omega (arith, within)))

parted_set : {A : Type 0} (m : A → Party) (items : List A) (place : ℕ) (y : A) → place < length items
    → map m (slice_set items place y) ≡ map m (take place items) ++ m y ∷ map m (drop (suc place) items)
parted_set m [] place y within = absurd (omega (arith, within))
parted_set m (x ∷ xs) zero y within = refl
parted_set m (x ∷ xs) (suc place) y within = ap (λ (t : List Party). m x ∷ t) (parted_set m xs place y (omega (arith, within)))

same_at : {A : Type 0} (items : List A) (place : ℕ) (d e : A) → place < length items → get_or items place d ≡ get_or items place e
same_at [] place d e within = absurd (omega (arith, within))
same_at (x ∷ xs) zero d e within = refl
same_at (x ∷ xs) (suc place) d e within = same_at xs place d e (omega (arith, within))

all_map : {A : Type 0} (P : Party → Type 0) (m : A → Party) (xs : List A) → All (λ a. P (m a)) xs → All P (map m xs)
all_map P m [] all = All-nil P
all_map {A} P m (x ∷ xs) all =
    All-cons P (m x) (map m xs) (All-head (λ (a : A). P (m a)) x xs all) (all_map P m xs (All-tail (λ (a : A). P (m a)) x xs all))

pub first_asked : {A E : Type 0} (m : A → Party) (q : Request) (r : Result CallReply E) (old items : List A) (place : ℕ) (x w y : A) → items ≡ old → place < length items
    → All (λ a. (m a).takes q ≡ false) (take place items) → x ≡ get_or items place x → true ≡ (m x).takes q
    → w ≡ get_or items place w → IsAsked q r (m w) (m y)
    → Performs q r (map m old) (map m (slice_set items place y))
first_asked {A} m q r old items place x w y same within none x_is takes w_is asks =
    let e : w ≡ x = w_is ∙ same_at items place w x within ∙ sym x_is in
    inl (record {
      before = map m (take place items);
      first = m w;
      later = m y;
      behind = map m (drop (suc place) items);
      old_is = ap (λ (t : List A). map m t) (sym same) ∙ parted m items place w within
          ∙ ap (λ (v : A). map m (take place items) ++ m v ∷ map m (drop (suc place) items)) (sym w_is);
      new_is = parted_set m items place y within;
      none_before = all_map (λ p. p.takes q ≡ false) m (take place items) none;
      takes = ap (λ (v : A). (m v).takes q) e ∙ sym takes;
      asks = asks;
    })

pub none_asked : {A E : Type 0} (m : A → Party) (q : Request) (r : Result CallReply E) (old items : List A) (place : ℕ) → items ≡ old → length items ≤ place
    → All (λ a. (m a).takes q ≡ false) (take place items) → r ≡ Ok Unreached → Performs q r (map m old) (map m items)
none_asked {A} m q r old items place same past none is = inr (record {
  none = subst (λ (t : List A). All (λ p. p.takes q ≡ false) (map m t)) same
      (all_map (λ p. p.takes q ≡ false) m items (subst (λ (t : List A). All (λ a. (m a).takes q ≡ false) t) (take_all place items past) none));
  same = ap (λ (t : List A). map m t) same;
  nobody = is;
})

pub none_more : {A : Type 0} (P : A → Type 0) (items : List A) (place : ℕ) (x : A) → place < length items → All P (take place items) → x ≡ get_or items place x → P x
    → All P (take (place + 1) items)
none_more P items place x within all is here = All-more P items place x within all (subst P is here)
