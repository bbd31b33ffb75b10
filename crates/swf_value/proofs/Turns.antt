-- The grammar's loops, a turn at a time, under the conversion to data.
use Rattle.std.proofs.Common.{◌≡◌, ◌∙◌, ◌-◌, ◌<◌, ◌≤◌, ap, refl, ℕ, zero, suc, length, List, ◌∷◌, Option, Some, None, option_map, option_and_then}
use Rattle.json.specs.Token.{Token}
use Rattle.json.specs.Json as text
use Rattle.json.specs.Json.{Parse, parse_map, after_end_array, read_key, items_step, items, members, value}
use Rattle.json.proofs.Grammar.{value-begin_array, value-begin_object, items_end, items_more, members_end, members_no_key, members_more}
use Rattle.serde_json.specs.Data.{Data, array, object, no_items, item, Members, no_members, put}
use Rattle.serde_json.specs.Read.{of_json, of_items, of_members, converted}
use Rattle.swf_value.proofs.Depths.{mapped, chained}

-- ---- conversions

abbrev with_rest : {A : Type 0} → List Token → A → A × List Token
with_rest r a = (a, r)

pub converted_is : {A B : Type 0} (f : A → Option B) (o : Option (A × List Token)) (b : B) (r : List Token) → converted f o ≡ Some (b, r) → (a : A) × (o ≡ Some (a, r)) × (f a ≡ Some b)
converted_is f o b r e =
    let read = chained (λ p. option_map (λ x. (x, p.1)) (f p.0)) o (b, r) e in
    let made = mapped (with_rest read.0.1) (f read.0.0) (b, r) read.2 in
    (read.0.0, read.1 ∙ ap (λ s. Some (read.0.0, s)) (ap (λ p. p.1) made.2), made.1 ∙ ap (λ p. Some p.0) made.2)

unmade : {A : Type 0} (r : List Token) (o : Option A) → option_map (with_rest r) o ≡ None → o ≡ None
unmade r None e = refl
unmade r (Some a) e = absurd (cc)

twice : {A B : Type 0} (g : A → B) (r : List Token) (o : Option A) → option_map (with_rest r) (option_map g o) ≡ parse_map g (option_map (with_rest r) o)
twice g r None = refl
twice g r (Some a) = refl

module _ {A B C : Type 0} (f : A → Option B) (g : C → A) where
  through : {D : Type 0} (h : C → Option D) (k : D → B) → ((c : C) → f (g c) ≡ option_map k (h c)) → (o : Option (C × List Token)) → converted f (parse_map g o) ≡ parse_map k (converted h o)
  through h k e None = refl
  through h k e (Some p) = rw (e p.0) (twice k p.1 (h p.0))

  unchanged : (h : C → Option B) → ((c : C) → f (g c) ≡ h c) → (o : Option (C × List Token)) → converted f (parse_map g o) ≡ converted h o
  unchanged h e None = refl
  unchanged h e (Some p) = rw (e p.0) refl

  gone : ((c : C) → f (g c) ≡ None) → (o : Option (C × List Token)) → converted f (parse_map g o) ≡ None
  gone e None = refl
  gone e (Some p) = rw (e p.0) refl

-- what is refused at its first part is refused
refused_first : {A B C D E : Type 0} (f : D → Option B) (h : A → Option C) (g : A → E → D) (more : Parse E) → ((a : A) (e : E) → h a ≡ None → f (g a e) ≡ None)
    → (o : Option (A × List Token)) → converted h o ≡ None → converted f (option_and_then (λ q. parse_map (g q.0) (more q.1)) o) ≡ None
refused_first f h g more k None e = refl
refused_first f h g more k (Some q) e = gone f (g q.0) (λ c. k q.0 c (unmade q.1 (h q.0) e)) (more q.1)

-- ---- an opening bracket or brace

module _ (depth : ℕ) (ts : List Token) (some : 0 < depth) where
  pub array_read : converted of_json (value depth (Token.begin_array ∷ ts)) ≡ parse_map array (converted of_items (items (value (depth - 1)) (length ts) ts))
  array_read = ap (converted of_json) (value-begin_array depth ts some) ∙ through of_json text.array of_items array (λ c. refl) (items (value (depth - 1)) (length ts) ts)

  pub object_read : converted of_json (value depth (Token.begin_object ∷ ts)) ≡ parse_map object (converted (λ xs. of_members xs no_members) (members (value (depth - 1)) (length ts) ts))
  object_read = ap (converted of_json) (value-begin_object depth ts some) ∙ through of_json text.object (λ xs. of_members xs no_members) object (λ c. refl) (members (value (depth - 1)) (length ts) ts)

-- ---- items

module _ (p : Parse text.Json) where
  pub item_read : (n : ℕ) (ts r : List Token) (d : Data) → 0 < n → after_end_array ts ≡ None → converted of_json (p ts) ≡ Some (d, r)
      → converted of_items (items p n ts) ≡ parse_map (item d) (converted of_items (items p (n - 1) r))
  item_read n ts r d some going e =
      let j = converted_is of_json (p ts) d r e in
      ap (converted of_items) (items_more p n ts r j.0 some going j.1) ∙ through of_items (text.item j.0) of_items (item d) (λ c. rw j.2 refl) (items p (n - 1) r)

  pub item_refused : (n : ℕ) (ts : List Token) → after_end_array ts ≡ None → converted of_json (p ts) ≡ None → converted of_items (items p n ts) ≡ None
  unfolding items
  item_refused zero ts going e = refl
  item_refused (suc n) ts going e = ap (λ o. converted of_items (items_step p (items p n) ts o)) going ∙ refused_first of_items of_json text.item (items p n) (λ j js none. rw none refl) (p ts) e

  pub items_over : (n : ℕ) (ts r : List Token) → length ts ≤ n → after_end_array ts ≡ Some r → converted of_items (items p n ts) ≡ Some (no_items, r)
  items_over n ts r enough e = ap (converted of_items) (items_end p n ts r enough e)

-- ---- members

module _ (p : Parse text.Json) (old : Members) where
  pub member_read : (n : ℕ) (k : List ℕ) (ts s r : List Token) (d : Data) → 0 < n → read_key ts ≡ Some (Some k, s) → converted of_json (p s) ≡ Some (d, r)
      → converted (λ xs. of_members xs old) (members p n ts) ≡ converted (λ xs. of_members xs (put k d old)) (members p (n - 1) r)
  member_read n k ts s r d some key e =
      let j = converted_is of_json (p s) d r e in
      ap (converted (λ xs. of_members xs old)) (members_more p n k ts s r j.0 some key j.1)
      ∙ unchanged (λ xs. of_members xs old) (text.member k j.0) (λ xs. of_members xs (put k d old)) (λ c. rw j.2 refl) (members p (n - 1) r)

  pub member_refused : (n : ℕ) (k : List ℕ) (ts s : List Token) → read_key ts ≡ Some (Some k, s) → converted of_json (p s) ≡ None → converted (λ xs. of_members xs old) (members p n ts) ≡ None
  unfolding members
  member_refused zero k ts s key e = refl
  member_refused (suc n) k ts s key e = rw key (refused_first (λ xs. of_members xs old) of_json (text.member k) (members p n) (λ j js none. rw none refl) (p s) e)

  pub key_refused : (n : ℕ) (ts : List Token) → read_key ts ≡ None → converted (λ xs. of_members xs old) (members p n ts) ≡ None
  key_refused n ts e = ap (converted (λ xs. of_members xs old)) (members_no_key p n ts e)

  pub members_over : (n : ℕ) (ts r : List Token) → length ts ≤ n → read_key ts ≡ Some (None, r) → converted (λ xs. of_members xs old) (members p n ts) ≡ Some (old, r)
  members_over n ts r enough e = ap (converted (λ xs. of_members xs old)) (members_end p n ts r enough e)
