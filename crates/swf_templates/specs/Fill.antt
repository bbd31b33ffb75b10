-- What expressions and templates give (DSL, "Runtime expressions", "Data flow").
use Rattle.std.specs.Prelude.{◌&&◌, ℕ, List, [], ◌∷◌, Bool, chars, nat_le, Option, Some, None, if◌then◌else◌}
use Rattle.swf_value.specs.Members.{put}
use Rattle.swf_value.specs.Node.{items_of}
use Rattle.swf_value.specs.Size.{size}
use Rattle.swf_value.specs.Value.{Value, text, list, object, Members, no_members, depth}
use Rattle.swf_value.specs.Written.{written}
use Rattle.swf_expr.specs.Expr.{Tree}
use Rattle.swf_evaluation.specs.Evaluate.{first_shown}
use Rattle.swf_evaluation.specs.Scopes.{scope_from}
use Rattle.swf_evaluation.specs.Outputs.{run as outputs}
use Rattle.swf_evaluation.specs.declared.answer.First.{First}
use Rattle.swf_evaluation.specs.declared.answer.First.TheVariants as firsts
use Rattle.swf_evaluation.specs.declared.vars.Variable.{Variable}
use Rattle.swf_document.specs.Template.{Template, constant, run, list as list_of, object as object_of, Templates, no_templates, template, Fields, no_fields, field}
use Rattle.swf_templates.specs.declared.got.Got.{Got}
use Rattle.swf_templates.specs.declared.got.Got.TheVariants as gots

-- the greatest size of a value that a task gives
abbrev pub most_size : ℕ
most_size = 4194304

-- how deep such a value may nest
abbrev pub most_depth : ℕ
most_depth = 64

abbrev pub is_within : Value → Bool
is_within v = nat_le (size v) most_size && nat_le (depth v) most_depth

abbrev pub got_first : First → Got Value
got_first (firsts.Value v) = gots.Value v
got_first (firsts.Raised m) = gots.Raised m
got_first firsts.Limit = gots.Limit

-- the value of an expression: its first output, and null where there is none and no error
abbrev pub first_of : Tree → List Variable → Value → Got Value
first_of e r v = got_first (first_shown (outputs e (scope_from r) v))

-- goes on with what was got, and stops at the first error
abbrev pub and_then : {A B : Type 0} → (A → Got B) → Got A → Got B
and_then f (gots.Value a) = f a
and_then f (gots.Raised m) = gots.Raised m
and_then f gots.TooLarge = gots.TooLarge
and_then f gots.Limit = gots.Limit

abbrev mutual
  -- a template filled on an input: an expression becomes its value
  pub filled : List Variable → Value → Template → Got Value
  filled r v (constant w) = gots.Value w
  filled r v (run e) = first_of e r v
  filled r v (list_of ts) = and_then (λ ws. gots.Value (list (items_of ws))) (filled_items r v ts)
  filled r v (object_of fs) = filled_fields r v no_members fs

  -- its items in order
  pub filled_items : List Variable → Value → Templates → Got (List Value)
  filled_items r v no_templates = gots.Value []
  filled_items r v (template t ts) = and_then (λ w. and_then (λ ws. gots.Value (w ∷ ws)) (filled_items r v ts)) (filled r v t)

  -- its members by their order, beside those that are filled
  pub filled_fields : List Variable → Value → Members → Fields → Got Value
  filled_fields r v ms no_fields = gots.Value (object ms)
  filled_fields r v ms (field k t fs) = and_then (λ w. filled_fields r v (put k w ms) fs) (filled r v t)

abbrev pub limited : Value → Got Value
limited w = if is_within w then gots.Value w else gots.TooLarge

-- Fill: what a template gives, within the limits of a value
abbrev pub fill : Template → List Variable → Value → Got Value
fill t r v = and_then limited (filled r v t)

-- the same of a template that may not be there, which then leaves the value as it is
abbrev pub transformed : Option Template → List Variable → Value → Got Value
transformed None r v = gots.Value v
transformed (Some t) r v = fill t r v

-- what is told of a raised value: a text itself, else its JSON text
abbrev pub message : Value → List ℕ
message (text t) = t
message v = chars (written v)
