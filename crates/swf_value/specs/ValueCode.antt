-- A code for values, by which a ghost name tells them apart.
use Rattle.std.specs.Prelude.{◌≡◌, ℕ}
use Rattle.std.specs.Coded.{Coded, coded_ℕ, coded_ℤ, coded_bool, coded_list}
use base.Stored.{Gv, gnil, gnum, gcons}
use mathlib.Core.Path.{ap, sym, subst}
use Rattle.swf_value.specs.Value.{Value, null, boolean, int, text, list, object, Items, no_items, item, Members, no_members, member}

abbrev head : Gv → Gv
head gnil = gnil
head (gnum n) = gnil
head (gcons a b) = a

abbrev tail : Gv → Gv
tail gnil = gnil
tail (gnum n) = gnil
tail (gcons a b) = b

abbrev IsCons : Gv → Type 0
IsCons gnil = ⊥
IsCons (gnum n) = ⊥
IsCons (gcons a b) = Unit {0}

-- a number that tells two shapes apart, and what the shape holds
abbrev tagged : ℕ → Gv → Gv
tagged n g = gcons (gnum n) g

abbrev mutual
  pub code_value : Value → Gv
  code_value null = tagged 0 gnil
  code_value (boolean b) = tagged 1 (coded_bool.code b)
  code_value (int z) = tagged 2 (coded_ℤ.code z)
  code_value (text t) = tagged 3 ((coded_list coded_ℕ).code t)
  code_value (list ds) = tagged 4 (code_items ds)
  code_value (object ms) = tagged 5 (code_members ms)

  pub code_items : Items → Gv
  code_items no_items = gnil
  code_items (item d ds) = gcons (code_value d) (code_items ds)

  pub code_members : Members → Gv
  code_members no_members = gnil
  code_members (member k d ms) = gcons ((coded_list coded_ℕ).code k) (gcons (code_value d) (code_members ms))

mutual
  pub code_value_inj : (x y : Value) → code_value x ≡ code_value y → x ≡ y
  code_value_inj null null p = λ i. null
  code_value_inj (boolean a) (boolean b) p = ap boolean (coded_bool.inj a b (ap tail p))
  code_value_inj (int a) (int b) p = ap int (coded_ℤ.inj a b (ap tail p))
  code_value_inj (text a) (text b) p = ap text ((coded_list coded_ℕ).inj a b (ap tail p))
  code_value_inj (list a) (list b) p = ap list (code_items_inj a b (ap tail p))
  code_value_inj (object a) (object b) p = ap object (code_members_inj a b (ap tail p))
  code_value_inj x y p = cc

  pub code_items_inj : (x y : Items) → code_items x ≡ code_items y → x ≡ y
  code_items_inj no_items no_items p = λ i. no_items
  code_items_inj (item a ds) (item b es) p = λ i. item (code_value_inj a b (ap head p) i) (code_items_inj ds es (ap tail p) i)
  code_items_inj no_items (item b es) p = absurd (subst IsCons (sym p) tt)
  code_items_inj (item a ds) no_items p = absurd (subst IsCons p tt)

  pub code_members_inj : (x y : Members) → code_members x ≡ code_members y → x ≡ y
  code_members_inj no_members no_members p = λ i. no_members
  code_members_inj (member k a ms) (member l b ns) p = λ i. member ((coded_list coded_ℕ).inj k l (ap head p) i) (code_value_inj a b (ap (λ g. head (tail g)) p) i) (code_members_inj ms ns (ap (λ g. tail (tail g)) p) i)
  code_members_inj no_members (member l b ns) p = absurd (subst IsCons (sym p) tt)
  code_members_inj (member k a ms) no_members p = absurd (subst IsCons p tt)

abbrev pub value_code : Coded Value
value_code = record { code = code_value; inj = code_value_inj }

abbrev pub members_code : Coded Members
members_code = record { code = code_members; inj = code_members_inj }
