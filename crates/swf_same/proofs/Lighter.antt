-- What stands in a list weighs no more than all of it.
use Rattle.std.proofs.Common.{◌≡◌, ap, ℕ, zero, suc, ◌+◌, ◌<◌, ◌≤◌, List, [], ◌∷◌, length, get_or, arith}
use Rattle.swf_expr.specs.Expr.{Tree}
use Rattle.swf_expr.specs.ExprNode.{trees_of, pairs_of, value_or_here, weight, weight_trees, weight_pairs}
use Rattle.swf_expr.specs.declared.expr.ExprMember.{ExprMember}
use Rattle.swf_document.specs.Template as filled
use Rattle.swf_document.specs.Template.{Template}
use Rattle.swf_document.specs.TemplateNode.{templates_of, fields_of}
use Rattle.swf_document.specs.declared.template.Field.{Field}

pub weight_tree : (es : List Tree) (i : ℕ) (e : Tree) → i < length es → e ≡ get_or es i e → weight e ≤ weight_trees (trees_of es)
weight_tree [] i e h p = absurd (omega arith)
weight_tree (x ∷ xs) zero e h p = omega (arith, ap weight p)
weight_tree (x ∷ xs) (suc i) e h p = omega (arith, weight_tree xs i e (omega arith) p)

pub weight_member : (ms : List ExprMember) (i : ℕ) (m : ExprMember) → i < length ms → m ≡ get_or ms i m → weight m.key + weight (value_or_here m.key m.value) ≤ weight_pairs (pairs_of ms)
weight_member [] i m h p = absurd (omega arith)
weight_member (x ∷ xs) zero m h p = omega (arith, ap (λ n. weight n.key + weight (value_or_here n.key n.value)) p)
weight_member (x ∷ xs) (suc i) m h p = omega (arith, weight_member xs i m (omega arith) p)

pub weight_template : (ts : List Template) (i : ℕ) (t : Template) → i < length ts → t ≡ get_or ts i t → filled.weight t ≤ filled.weight_templates (templates_of ts)
weight_template [] i t h p = absurd (omega arith)
weight_template (x ∷ xs) zero t h p = omega (arith, ap filled.weight p)
weight_template (x ∷ xs) (suc i) t h p = omega (arith, weight_template xs i t (omega arith) p)

pub weight_field : (fs : List Field) (i : ℕ) (f : Field) → i < length fs → f ≡ get_or fs i f → filled.weight f.value ≤ filled.weight_fields (fields_of fs)
weight_field [] i f h p = absurd (omega arith)
weight_field (x ∷ xs) zero f h p = omega (arith, ap (λ g. filled.weight g.value) p)
weight_field (x ∷ xs) (suc i) f h p = omega (arith, weight_field xs i f (omega arith) p)
