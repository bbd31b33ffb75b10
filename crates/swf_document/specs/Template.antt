-- What a template is: a constant, an expression, or a list or an object of templates (DSL 1.0.0, "Runtime Expressions").
use Rattle.std.specs.Prelude.{◌+◌, ℕ, List}
use Rattle.swf_value.specs.Value.{Value}
use Rattle.swf_expr.specs.Expr.{Tree}

mutual
  pub data Template : Type 0 where
    constant : Value → Template
    run : Tree → Template
    list : Templates → Template
    object : Fields → Template

  pub data Templates : Type 0 where
    no_templates : Templates
    template : Template → Templates → Templates

  pub data Fields : Type 0 where
    no_fields : Fields
    field : List ℕ → Template → Fields → Fields

-- a number that is greater than that of each template inside
abbrev mutual
  pub weight : Template → ℕ
  weight (constant v) = 1
  weight (run e) = 1
  weight (list ts) = 4 + weight_templates ts
  weight (object fs) = 4 + weight_fields fs

  pub weight_templates : Templates → ℕ
  weight_templates no_templates = 0
  weight_templates (template t ts) = weight t + weight_templates ts

  pub weight_fields : Fields → ℕ
  weight_fields no_fields = 0
  weight_fields (field k t fs) = weight t + weight_fields fs
