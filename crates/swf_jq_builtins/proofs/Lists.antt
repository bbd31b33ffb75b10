-- Lists of values, as the data and as std's lists.
use Rattle.std.proofs.Common.{◌≡◌, ◌∙◌, List, [], ◌∷◌, ◌++◌, suc, length, refl, ap, Result, Ok, Err, IfOk, OnOk}
use Rattle.std.specs.List.{AppendsClones, each_same}
use Rattle.swf_value.specs.Value.{Value, Items, no_items, item}
use Rattle.swf_value.specs.Members.{values_of, member_values}
use Rattle.swf_value.specs.Node.{items_of, members_of}
use Rattle.swf_value.specs.declared.value.Member.{Member}

pub values_of_items_of : (xs : List Value) → values_of (items_of xs) ≡ xs
values_of_items_of [] = refl
values_of_items_of (x ∷ xs) = ap (λ ys. x ∷ ys) (values_of_items_of xs)

pub items_of_values_of : (ds : Items) → items_of (values_of ds) ≡ ds
items_of_values_of no_items = refl
items_of_values_of (item d ds) = ap (item d) (items_of_values_of ds)

-- as many values as members
pub length_members : (ms : List Member) → length (member_values (members_of ms)) ≡ length ms
length_members [] = refl
length_members (m ∷ ms) = ap suc (length_members ms)

-- what holds of a value where something does that does
pub where_so : {X E : Type 0} (P : Type 0) (Q : X → Type 0) (r : Result X E) → P → IfOk r (λ v. P → Q v) → IfOk r Q
where_so P Q (Ok v) p h = h p
where_so P Q (Err e) p h = tt

-- a copy is the same value
pub appended : {X E : Type 0} (r : Result (Unit {0}) E) (old new more : List X) → OnOk r (AppendsClones (λ x y. y ≡ x) old new more) → OnOk r (new ≡ old ++ more)
appended (Ok u) old new more h = h.1 ∙ ap (λ l. old ++ l) (each_same more h.0 h.2)
appended (Err e) old new more h = tt
