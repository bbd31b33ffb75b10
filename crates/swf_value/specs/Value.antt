-- What a JSON value is: whole numbers, texts as lists of characters, and finite maps by ascending name (RFC 8259, sections 3 to 7).
use Rattle.std.specs.Prelude.{◌≡◌, ◌-◌, ◌^◌, ℕ, suc, max, ℤ, pos, neg_ℤ, ◌≤ℤ◌, List, Bool, true}
use Rattle.std.specs.Ordering.{nat_cmp}
use Rattle.std.specs.declared.cmp.Ordering.TheVariants.{Less}
use Rattle.std.specs.Cmp.Lexicographic.{slice_cmp}
use Rattle.std.specs.Str.{all_scalars}

mutual
  pub data Value : Type 0 where
    null : Value
    boolean : Bool → Value
    int : ℤ → Value
    text : List ℕ → Value
    list : Items → Value
    object : Members → Value

  pub data Items : Type 0 where
    no_items : Items
    item : Value → Items → Items

  pub data Members : Type 0 where
    no_members : Members
    member : List ℕ → Value → Members → Members

-- the greatest whole number, 9007199254740991
abbrev pub greatest : ℤ
greatest = pos (2 ^ 53 - 1)

abbrev pub InRange : ℤ → Type 0
InRange z = (neg_ℤ greatest ≤ℤ z) × (z ≤ℤ greatest)

-- the first text stands before the second, by code points
abbrev pub IsBefore : List ℕ → List ℕ → Type 0
IsBefore a b = slice_cmp nat_cmp a b ≡ Less

-- the name stands before the first of the members
abbrev pub LeadsMembers : List ℕ → Members → Type 0
LeadsMembers k no_members = Unit {0}
LeadsMembers k (member l d ms) = IsBefore k l

-- the members stand by ascending name, each name once
abbrev pub Ascending : Members → Type 0
Ascending no_members = Unit {0}
Ascending (member k d ms) = LeadsMembers k ms × Ascending ms

-- what each level of a value keeps
abbrev pub IsLevel : Value → Type 0
IsLevel null = Unit {0}
IsLevel (boolean b) = Unit {0}
IsLevel (int z) = InRange z
IsLevel (text t) = Unit {0}
IsLevel (list ds) = Unit {0}
IsLevel (object ms) = Ascending ms

-- numbers in range, texts of characters and members in order, at every level
abbrev mutual
  pub IsValue : Value → Type 0
  IsValue null = Unit {0}
  IsValue (boolean b) = Unit {0}
  IsValue (int z) = InRange z
  IsValue (text t) = all_scalars t ≡ true
  IsValue (list ds) = AreItems ds
  IsValue (object ms) = Ascending ms × AreMembers ms

  pub AreItems : Items → Type 0
  AreItems no_items = Unit {0}
  AreItems (item d ds) = IsValue d × AreItems ds

  pub AreMembers : Members → Type 0
  AreMembers no_members = Unit {0}
  AreMembers (member k d ms) = (all_scalars k ≡ true) × IsValue d × AreMembers ms

-- how deep lists and objects nest
abbrev mutual
  pub depth : Value → ℕ
  depth null = 0
  depth (boolean b) = 0
  depth (int z) = 0
  depth (text t) = 0
  depth (list ds) = suc (depth_items ds)
  depth (object ms) = suc (depth_members ms)

  pub depth_items : Items → ℕ
  depth_items no_items = 0
  depth_items (item d ds) = max (depth d) (depth_items ds)

  pub depth_members : Members → ℕ
  depth_members no_members = 0
  depth_members (member k d ms) = max (depth d) (depth_members ms)
