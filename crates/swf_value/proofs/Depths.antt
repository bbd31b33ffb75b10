-- A value that is read nests no deeper than is allowed.
use Rattle.std.proofs.Common.{◌≡◌, refl, sym, ap, ℕ, ◌≤◌, List, Bool, true, false, ltb, lt-ltb, Option, Some, None, option_map, option_and_then, Result, Ok, Err, IfOk, cond, inl, inr, arith}
use Rattle.std.proofs.lemmas.Bool.{cases_lt}
use Rattle.std.specs.Str.{is_utf8}
use Rattle.serde_json.specs.Data as json
use Rattle.serde_json.specs.Find.{as_integer}
use Rattle.serde_json.specs.Read.{read}
use Rattle.swf_value.specs.Value.{Value, null, boolean, int, list, object, Items, no_items, item, Members, no_members, member, depth, depth_items, depth_members}
use Rattle.swf_value.specs.Read.{in_range, whole_number, whole, whole_items, whole_members, whole_or_fault, value_or_fault, read_within}
use Rattle.swf_value.specs.declared.fault.ValueFault.{ValueFault}

-- what is made of something that is there
pub mapped : {A B : Type 0} (f : A → B) (o : Option A) (y : B) → option_map f o ≡ Some y → (x : A) × (o ≡ Some x) × (f x ≡ y)
mapped f None y e = cc
mapped f (Some x) y e = (x, refl, cc)

pub chained : {A B : Type 0} (f : A → Option B) (o : Option A) (y : B) → option_and_then f o ≡ Some y → (x : A) × (o ≡ Some x) × (f x ≡ Some y)
chained f None y e = cc
chained f (Some x) y e = (x, refl, e)

if_some : {A : Type 0} (b : Bool) (x y : A) → cond b (Some x) None ≡ Some y → x ≡ y
if_some true x y e = cc
if_some false x y e = cc

number_depth : (n : json.Num) (v : Value) → whole_number n ≡ Some v → depth v ≤ 0
number_depth n v e =
    let p = chained (λ z. cond (in_range z) (Some (int z)) None) (as_integer n) v e in
    let is : int p.0 ≡ v = if_some (in_range p.0) (int p.0) v p.2 in
    omega (arith, ap depth is)

mutual
  depth-whole : (d : json.Data) (v : Value) → whole d ≡ Some v → depth v ≤ json.depth d
  depth-whole json.null v e = let is : null ≡ v = cc in omega (arith, ap depth is)
  depth-whole (json.boolean b) v e = let is : boolean b ≡ v = cc in omega (arith, ap depth is)
  depth-whole (json.number n) v e = number_depth n v e
  depth-whole (json.string s) v e = let p = if_some true _ v e in omega (arith, ap depth p)
  depth-whole (json.array ds) v e =
      let p = mapped list (whole_items ds) v e in
      omega (arith, ap depth p.2, depth-whole_items ds p.0 p.1)
  depth-whole (json.object ms) v e =
      let p = mapped object (whole_members ms) v e in
      omega (arith, ap depth p.2, depth-whole_members ms p.0 p.1)

  depth-whole_items : (ds : json.Items) (vs : Items) → whole_items ds ≡ Some vs → depth_items vs ≤ json.items_depth ds
  depth-whole_items json.no_items vs e = let is : no_items ≡ vs = cc in omega (arith, ap depth_items is)
  depth-whole_items (json.item d ds) vs e =
      let p = chained (λ v. option_map (item v) (whole_items ds)) (whole d) vs e in
      let q = mapped (item p.0) (whole_items ds) vs p.2 in
      omega (arith, ap depth_items q.2, depth-whole d p.0 p.1, depth-whole_items ds q.0 q.1)

  depth-whole_members : (ms : json.Members) (vs : Members) → whole_members ms ≡ Some vs → depth_members vs ≤ json.members_depth ms
  depth-whole_members json.no_members vs e = let is : no_members ≡ vs = cc in omega (arith, ap depth_members is)
  depth-whole_members (json.member k d ms) vs e =
      let p = chained (λ v. option_map (member _ v) (whole_members ms)) (whole d) vs e in
      let q = mapped (member _ p.0) (whole_members ms) vs p.2 in
      omega (arith, ap depth_members q.2, depth-whole d p.0 p.1, depth-whole_members ms q.0 q.1)

-- what is no fault
unfaulted : (o : Option Value) (v : Value) → whole_or_fault o ≡ Ok v → o ≡ Some v
unfaulted None v e = cc
unfaulted (Some x) v e = let is : x ≡ v = cc in ap Some is

within : (most : ℕ) (d : json.Data) (b : Bool) (v : Value) → ltb most (json.depth d) ≡ b → cond b (Err ValueFault.TooDeep) (whole_or_fault (whole d)) ≡ Ok v → depth v ≤ most
within most d true v t e = cc
within most d false v t e = elim (cases_lt most (json.depth d)) [
  | inl deep ↦ let past : ltb most (json.depth d) ≡ true = lt-ltb _ _ deep in absurd (cc)
  | inr enough ↦ omega (arith, depth-whole d v (unfaulted (whole d) v e))
]

of_data : (most : ℕ) (o : Option json.Data) (v : Value) → value_or_fault most o ≡ Ok v → depth v ≤ most
of_data most None v e = cc
of_data most (Some d) v e = within most d (ltb most (json.depth d)) v refl e

of_text : (most : ℕ) (bytes : List ℕ) (b : Bool) (v : Value) → cond b (value_or_fault most (read bytes)) (Err ValueFault.NotJson) ≡ Ok v → depth v ≤ most
of_text most bytes true v e = of_data most (read bytes) v e
of_text most bytes false v e = cc

pub depth-read : (most : ℕ) (bytes : List ℕ) (v : Value) → read_within most bytes ≡ Ok v → depth v ≤ most
depth-read most bytes v e = of_text most bytes (is_utf8 bytes) v e

pub read_shallow : (most : ℕ) (bytes : List ℕ) (r : Result Value ValueFault) → r ≡ read_within most bytes → IfOk r (λ v. depth v ≤ most)
read_shallow most bytes (Ok v) e = depth-read most bytes v (sym e)
read_shallow most bytes (Err f) e = tt
