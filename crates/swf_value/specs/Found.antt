-- What is found of data that are read, beside the data.
use Rattle.std.specs.Prelude.{◌≡◌, ◌-◌, ◌^◌, ℕ, ℤ, max, min, option_map, option_and_then, List, [], ◌∷◌, Option, Some, None, IfSome}
use Rattle.std.specs.Borrow.{Bor}
use Rattle.json.specs.Token.{Token}
use Rattle.json.specs.Json as json
use Rattle.serde_json.specs.Read.{of_json}
use Rattle.serde_json.specs.Data.{Num, Data, Items, no_items, item, Members, no_members, member, depth}
use Rattle.swf_value.specs.Value.{int, InRange, IsValue}
use Rattle.swf_value.specs.Read.{whole, whole_number}
use Rattle.swf_value.specs.declared.whole.Found.{Found}

-- b stands for what there is, and nothing for nothing
abbrev pub Finds : {A B : Type 0} → (A → B → Type 0) → Option A → Option B → Type 0
Finds R o None = o ≡ None
Finds {A} R o (Some b) = (a : A) × (o ≡ Some a) × R a b

-- the same, where `rest` is what is left to read
abbrev pub FindsNext : {A B : Type 0} → (A → B → Type 0) → Option (A × List Token) → List Token → Option B → Type 0
FindsNext R o rest None = o ≡ None
FindsNext {A} R o rest (Some b) = (a : A) × (o ≡ Some (a, rest)) × R a b

-- the data that stand alone in the tokens that are left
abbrev pub read_whole : List Token → Option Data
read_whole ts = option_and_then of_json (option_and_then (λ p. json.if_last p.0 p.1) (json.value 127 ts))

-- the whole number in range that n is, where it is one
abbrev pub IsInt : Num → Option ℤ → Type 0
IsInt n o = (option_map int o ≡ whole_number n) × IfSome o InRange

-- the value that the data are, and their depth as a `u32`
pub record IsFound (d : Data) (f : Found) : Type 0 where
  pub value_is : f.value ≡ whole d
  pub depth_is : f.depth ≡ min (depth d) (2 ^ 32 - 1)
  pub valid : IfSome f.value IsValue

-- each item is found, in order
abbrev pub AreFound : Items → List Found → Type 0
AreFound no_items [] = Unit {0}
AreFound no_items (f ∷ fs) = ⊥
AreFound (item d ds) [] = ⊥
AreFound (item d ds) (f ∷ fs) = IsFound d f × AreFound ds fs

-- each member is found, in order and by its name
abbrev pub MembersFound : Members → List (Bor (List ℕ) × Found) → Type 0
MembersFound no_members [] = Unit {0}
MembersFound no_members (e ∷ es) = ⊥
MembersFound (member k d ms) [] = ⊥
MembersFound (member k d ms) (e ∷ es) = (e.0.now ≡ k) × IsFound d e.1 × MembersFound ms es

-- the greatest depth
abbrev pub deepest_item : List Found → ℕ
deepest_item [] = 0
deepest_item (f ∷ fs) = max f.depth (deepest_item fs)

abbrev pub deepest_member : List (Bor (List ℕ) × Found) → ℕ
deepest_member [] = 0
deepest_member (e ∷ es) = max e.1.depth (deepest_member es)
