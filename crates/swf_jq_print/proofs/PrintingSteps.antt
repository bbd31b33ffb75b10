-- An expression's text, part by part.
use Rattle.std.proofs.Common.{◌≡◌, ◌∙◌, ap, refl, subst, ℕ, zero, suc, ◌+◌, ◌<◌, ◌≤◌, List, [], ◌∷◌, ◌++◌, length, get_or, Result, Ok, Err, OnOk, append_assoc, append-nil, arith}
use Rattle.swf_expr.specs.Builtin.{builtin_name}
use Rattle.swf_expr.specs.Expr.{Tree, Trees, no_trees, tree, apply}
use Rattle.swf_expr.specs.ExprNode.{trees_of, pairs_of, value_or_here, weight, weight_trees, weight_pairs}
use Rattle.swf_expr.specs.declared.builtin.Builtin.{Builtin}
use Rattle.swf_expr.specs.declared.expr.ExprMember.{ExprMember}
use Rattle.swf_jq_print.specs.Print.{print_of, arguments_text}

-- ---- what stands in a row weighs no more than all of it

pub weight_argument : (es : List Tree) (i : ℕ) (e : Tree) → i < length es → e ≡ get_or es i e → weight e ≤ weight_trees (trees_of es)
weight_argument [] i e h p = absurd (omega arith)
weight_argument (x ∷ xs) zero e h p = omega (arith, ap weight p)
weight_argument (x ∷ xs) (suc i) e h p = omega (arith, weight_argument xs i e (omega arith) p)

pub weight_member : (ms : List ExprMember) (i : ℕ) (m : ExprMember) → i < length ms → m ≡ get_or ms i m
    → weight m.key + weight (value_or_here m.key m.value) ≤ weight_pairs (pairs_of ms)
weight_member [] i m h p = absurd (omega arith)
weight_member (x ∷ xs) zero m h p = omega (arith, ap (λ n. weight n.key + weight (value_or_here n.key n.value)) p)
weight_member (x ∷ xs) (suc i) m h p = omega (arith, weight_member xs i m (omega arith) p)

-- what follows from a clause holds where that does
pub on_ok : {A E P Q : Type 0} (r : Result A E) → (P → Q) → OnOk r P → OnOk r Q
on_ok (Ok x) f h = f h
on_ok (Err e) f h = tt

-- ---- a built-in with its arguments

pub apply_text : (f : Builtin) (es : Trees) → builtin_name f ++ arguments_text es ≡ print_of (apply f es)
apply_text f no_trees = append-nil (builtin_name f)
apply_text f (tree e es) = refl

pub apply_last : (f : Builtin) (es : Trees) (whole : Tree) (old named new : List ℕ) → apply f es ≡ whole → named ≡ old ++ builtin_name f
    → new ≡ named ++ arguments_text es → new ≡ old ++ print_of whole
apply_last f es whole old named new e p q = subst (λ (x : Tree). new ≡ old ++ print_of x) e
    (q ∙ ap (λ l. l ++ arguments_text es) p ∙ append_assoc old (builtin_name f) (arguments_text es) ∙ ap (λ l. old ++ l) (apply_text f es))
