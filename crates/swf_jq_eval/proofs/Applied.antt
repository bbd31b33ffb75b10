-- What applications of built-ins take.
use Rattle.std.proofs.Common.{◌≡◌, ◌-◌, ◌≤◌, ◌++◌, ◌∷◌, [], List, ℕ, zero, suc, length, refl, sym, ap, arith, Bool, true, false, if◌then◌else◌, Result, Ok, Err}
use Rattle.std.specs.Prelude.{nat_le, Option, Some, None, option_map}
use Rattle.std.specs.List.{join_by}
use Rattle.swf_value.specs.Size.{size}
use Rattle.swf_value.specs.Node.{items_of}
use Rattle.swf_value.specs.Value.{Value, int, text, list, object, depth_items}
use Rattle.swf_expr.specs.declared.builtin.Builtin.{Builtin}
use Rattle.swf_expr.specs.declared.builtin.Builtin.TheVariants as builtins
use Rattle.swf_evaluation.specs.Builtins.{with_one, has, join, split, text_begins, text_ends, text_or, cannot, pieces_of, range_of, characters, split_from, parts_between, begins_with}
use Rattle.swf_value.specs.Members.{values_of}
use Rattle.swf_jq_builtins.specs.Outcome.{answer_size, count_of}
use Rattle.swf_evaluation.specs.Outputs.{ranged}
use Rattle.swf_evaluation.specs.Run.{clean, gave, spend, spread, across, made, made_of, is_shallow}

-- a range takes a turn for each number
range_turns_by : (r : Result (List Value) Value) (a b : Value) → range_of a b ≡ r → count_of (range_of a b) ≡ (ranged a b).turns
range_turns_by (Ok vs) a b e = rw e (omega arith)
range_turns_by (Err m) a b e = rw e refl

ranged_by : (r : Result (List Value) Value) → across r (λ ns. spend (length ns) (gave ns clean)) ≡ spend (count_of r) (spread r)
ranged_by (Ok vs) = refl
ranged_by (Err m) = refl

pub ranged_is : (a b : Value) → spend (count_of (range_of a b)) (spread (range_of a b)) ≡ ranged a b
ranged_is a b = sym (ranged_by (range_of a b))

pub range_turns : (a b : Value) → count_of (range_of a b) ≡ (ranged a b).turns
range_turns a b = range_turns_by (range_of a b) a b refl

-- the parts of a text nest nowhere
characters_flat : (t : List ℕ) → depth_items (items_of (characters t)) ≡ 0
characters_flat [] = refl
characters_flat (c ∷ t) = omega (arith, characters_flat t)

split_flat_by : (s p t : List ℕ) (c : ℕ) (b : Bool) → depth_items (items_of (split_from s (length s - 1) [] t)) ≡ 0 → depth_items (items_of (split_from s 0 (p ++ c ∷ []) t)) ≡ 0
    → depth_items (items_of (if b then text p ∷ split_from s (length s - 1) [] t else split_from s 0 (p ++ c ∷ []) t)) ≡ 0
split_flat_by s p t c true e f = omega (arith, e)
split_flat_by s p t c false e f = f

split_flat : (s : List ℕ) (k : ℕ) (p t : List ℕ) → depth_items (items_of (split_from s k p t)) ≡ 0
split_flat s k p [] = refl
split_flat s (suc k) p (c ∷ t) = split_flat s k p t
split_flat s zero p (c ∷ t) = split_flat_by s p t c (begins_with (c ∷ t) s) (split_flat s (length s - 1) [] t) (split_flat s 0 (p ++ c ∷ []) t)

pub parts_flat : (s t : List ℕ) → depth_items (items_of (parts_between s t)) ≡ 0
parts_flat [] t = characters_flat t
parts_flat (d ∷ s) [] = refl
parts_flat (d ∷ s) (c ∷ t) = split_flat (d ∷ s) 0 [] (c ∷ t)

-- what is made takes as many turns as its size
made_turns : (v : Value) → is_shallow v ≡ true → size v ≤ (made v).turns
made_turns v e = rw e (omega arith)

has_made : (v k : Value) → answer_size (has v k) ≤ (made_of (has v k)).turns
has_made (object ms) (text k) = omega arith
has_made (list ds) (int z) = omega arith
has_made v k = omega arith

text_made : (f : Builtin) (o : Option (List ℕ)) → answer_size (text_or (cannot f) o) ≤ (made_of (text_or (cannot f) o)).turns
text_made f None = omega arith
text_made f (Some t) = omega arith

join_made : (v s : Value) → answer_size (join v s) ≤ (made_of (join v s)).turns
join_made (list ds) (text s) = text_made builtins.Join (option_map (join_by (λ t. t) s) (pieces_of (values_of ds)))
join_made v s = omega arith

split_made : (v s : Value) → answer_size (split v s) ≤ (made_of (split v s)).turns
split_made (text t) (text s) = made_turns (list (items_of (parts_between s t))) (ap (λ n. nat_le (suc n) 64) (parts_flat s t))
split_made v s = omega arith

begins_made : (v s : Value) → answer_size (text_begins v s) ≤ (made_of (text_begins v s)).turns
begins_made (text t) (text s) = omega arith
begins_made v s = omega arith

ends_made : (v s : Value) → answer_size (text_ends v s) ≤ (made_of (text_ends v s)).turns
ends_made (text t) (text s) = omega arith
ends_made v s = omega arith

pub size_made : (f : Builtin) (v a : Value) → answer_size (with_one f v a) ≤ (made_of (with_one f v a)).turns
size_made builtins.Has v a = has_made v a
size_made builtins.Join v a = join_made v a
size_made builtins.Split v a = split_made v a
size_made builtins.StartsWith v a = begins_made v a
size_made builtins.EndsWith v a = ends_made v a
size_made builtins.ErrorWith v a = omega arith
size_made f v a = omega arith
