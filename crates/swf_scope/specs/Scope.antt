-- What the parts of a document may name where they stand, and the faults of the expressions there (DSL 1.0.0, "Runtime Expressions").
use Rattle.std.specs.Prelude.{◌∷◌, [], ◌++◌, ◌+◌, ℕ, List, Bool, Option, Some, None, codes, if◌then◌else◌}
use Rattle.std.specs.Fmt.{decimal}
use Rattle.swf_expr.specs.Expr.{Tree}
use Rattle.swf_document.specs.Template.{Template, constant, run, list, object, Templates, no_templates, template, Fields, no_fields, field}
use Rattle.swf_document.specs.declared.fault.Fault.{Fault}
use Rattle.swf_document.specs.declared.fault.FaultKind.{FaultKind}
use Rattle.swf_document.specs.declared.fault.FaultKind.TheVariants.{UnknownVariable}
use Rattle.swf_scope.specs.Names.{Places}
use Rattle.swf_scope.specs.Variables.{all_known}

-- the names in a document's `use`
pub record Known : Type 0 where
  pub functions : Places
  pub errors : Places
  pub retries : Places

-- what a task may name
pub record Scope : Type 0 where
  pub known : Known
  -- the tasks to which its `then` may go
  pub targets : Places
  -- whether a branch of a `fork` is around it
  pub in_branch : Bool
  -- the variables that its `input.from` has
  pub around : List (List ℕ)

abbrev pub Spot : Type 0
Spot = List (List ℕ)

abbrev pub under : Spot → List ℕ → Spot
under p n = p ++ n ∷ []

abbrev pub fault : Spot → FaultKind → List Fault
fault p k = (record { place = p; kind = k }) ∷ []

-- a fault where something does not hold
abbrev pub fault_unless : Bool → Spot → FaultKind → List Fault
fault_unless b p k = if b then [] else fault p k

-- the variables of a task's own definition (DSL 1.0.0, "Runtime Expression Arguments")
abbrev pub own : List (List ℕ) → List (List ℕ)
own around = codes "input" ∷ around

abbrev pub expression_faults : List (List ℕ) → Spot → Tree → List Fault
expression_faults vars p e = fault_unless (all_known vars e) p UnknownVariable

abbrev pub condition_faults : List (List ℕ) → Spot → Option Tree → List Fault
condition_faults vars p None = []
condition_faults vars p (Some e) = expression_faults vars p e

abbrev mutual
  pub template_faults : List (List ℕ) → Spot → Template → List Fault
  template_faults vars p (constant v) = []
  template_faults vars p (run e) = expression_faults vars p e
  template_faults vars p (list ts) = item_faults vars p 0 ts
  template_faults vars p (object fs) = field_faults vars p fs

  pub item_faults : List (List ℕ) → Spot → ℕ → Templates → List Fault
  item_faults vars p i no_templates = []
  item_faults vars p i (template t ts) = template_faults vars (under p (decimal i)) t ++ item_faults vars p (i + 1) ts

  pub field_faults : List (List ℕ) → Spot → Fields → List Fault
  field_faults vars p no_fields = []
  field_faults vars p (field k t fs) = template_faults vars (under p k) t ++ field_faults vars p fs

abbrev pub filled_faults : List (List ℕ) → Spot → Option Template → List Fault
filled_faults vars p None = []
filled_faults vars p (Some t) = template_faults vars p t
