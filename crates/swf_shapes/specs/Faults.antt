-- Every fault of a value that is no document, in the order of their places.
use Rattle.std.specs.Prelude.{◌&&◌, ◌+◌, ℕ, ℤ, pos, int_le, List, [], ◌∷◌, ◌++◌, Bool, true, false, not, Option, Some, None, if◌then◌else◌}
use Rattle.std.specs.Fmt.{decimal}
use Rattle.swf_value.specs.Value.{Value, null, boolean, int, text, list, object, Items, no_items, item, Members, no_members, member}
use Rattle.swf_document.specs.declared.fault.Fault.{Fault}
use Rattle.swf_document.specs.declared.fault.FaultKind.{FaultKind}
use Rattle.swf_document.specs.declared.fault.FaultKind.TheVariants as kind
use Rattle.swf_shapes.specs.declared.layout.Layout.{Layout}
use Rattle.swf_forms.specs.declared.form.Form.TheVariants as form
use Rattle.swf_shapes.specs.declared.shape.Object.TheVariants as objects
use Rattle.swf_shapes.specs.declared.shape.Range.{Range}
use Rattle.swf_shapes.specs.declared.shape.Range.TheVariants as range
use Rattle.swf_shapes.specs.declared.shape.Rest.TheVariants as rest
use Rattle.swf_shapes.specs.declared.shape.Shape.{Shape}
use Rattle.swf_shapes.specs.declared.shape.Shape.TheVariants as shape
use Rattle.swf_shapes.specs.declared.shape.Table.TheVariants as table
use Rattle.swf_shapes.specs.declared.shape.Top.TheVariants as top
use Rattle.swf_forms.specs.Forms.{text_verdict, unless}
use Rattle.swf_forms.specs.Expression.{is_duration}
use Rattle.swf_shapes.specs.Layout.{has, plain, closed, object_layout, shape_at}
use Rattle.swf_shapes.specs.Shapes.{Row, rows}

-- the fault of a value of a kind that the shape says nothing of
abbrev pub kind_fault : Shape → Option FaultKind
kind_fault shape.Any = None
kind_fault (shape.Refused k) = Some k
kind_fault shape.Template = None
kind_fault shape.Duration = Some kind.BadText
kind_fault s = Some kind.WrongKind

abbrev pub flag_fault : Shape → Bool → Option FaultKind
flag_fault shape.Flag b = None
flag_fault shape.True b = unless b kind.NotInProfile
flag_fault s b = kind_fault s

abbrev pub is_in : Range → ℤ → Bool
is_in range.Status z = int_le (pos 100) z && int_le z (pos 599)
is_in range.Count z = int_le (pos 0) z && int_le z (pos 1000000)

abbrev pub number_fault : Shape → ℤ → Option FaultKind
number_fault (shape.Number r) z = unless (is_in r z) kind.BadText
number_fault s z = kind_fault s

abbrev pub text_fault : Shape → List ℕ → Option FaultKind
text_fault (shape.Text f) t = text_verdict f t
text_fault (shape.TextOr f o) t = text_verdict f t
text_fault shape.Template t = text_verdict form.Template t
text_fault shape.Duration t = unless (is_duration (text t)) kind.BadText
text_fault s t = kind_fault s

abbrev pub is_some_item : Items → Bool
is_some_item no_items = false
is_some_item (item d ds) = true

-- a list of nothing is not in the profile
abbrev pub list_fault : Shape → Items → Option FaultKind
list_fault (shape.List o) ds = unless (is_some_item ds) kind.NotInProfile
list_fault s ds = kind_fault s

-- what the items of a list may be
abbrev pub item_shape : Shape → Shape
item_shape (shape.List o) = shape.Object o
item_shape shape.Template = shape.Template
item_shape s = shape.Any

-- how the members of an object are judged
abbrev pub layout : Bool → Shape → Members → Layout
layout f (shape.Object o) ms = object_layout f o ms
layout f (shape.TextOr g o) ms = object_layout f o ms
layout f shape.Template ms = plain f (table.Top top.Empty) rest.Template
layout f shape.Duration ms = closed f (unless (is_duration (object ms)) kind.BadText)
layout f s ms = closed f (kind_fault s)

abbrev pub fault_at : List (List ℕ) → FaultKind → Fault
fault_at p k = record { place = p; kind = k }

abbrev pub faults_at : List (List ℕ) → Option FaultKind → List Fault
faults_at p None = []
faults_at p (Some k) = fault_at p k ∷ []

-- each required member that the object lacks
abbrev pub missing : List (List ℕ) → List Row → Members → List Fault
missing p [] ms = []
missing p (r ∷ rs) ms = (if r.is_required && not (has r.name ms) then fault_at p kind.Missing ∷ [] else []) ++ missing p rs ms

-- the faults of a value at a place, inside a function or not: its own, and then those of what is in it, in order
abbrev mutual
  pub faults_in : Bool → Shape → List (List ℕ) → Value → List Fault
  faults_in f s p null = faults_at p (kind_fault s)
  faults_in f s p (boolean b) = faults_at p (flag_fault s b)
  faults_in f s p (int z) = faults_at p (number_fault s z)
  faults_in f s p (text t) = faults_at p (text_fault s t)
  faults_in f s p (list ds) = faults_at p (list_fault s ds) ++ item_faults f (item_shape s) p 0 ds
  faults_in f s p (object ms) = faults_at p (layout f s ms).fault ++ (missing p (rows (layout f s ms).table) ms ++ member_faults (layout f s ms) p ms)

  pub item_faults : Bool → Shape → List (List ℕ) → ℕ → Items → List Fault
  item_faults f s p i no_items = []
  item_faults f s p i (item d ds) = faults_in f s (p ++ decimal i ∷ []) d ++ item_faults f s p (i + 1) ds

  pub member_faults : Layout → List (List ℕ) → Members → List Fault
  member_faults l p no_members = []
  member_faults l p (member k d ms) = faults_in l.inside (shape_at l k) (p ++ k ∷ []) d ++ member_faults l p ms

-- the faults of a value as a document
abbrev pub read_faults : Value → List Fault
read_faults v = faults_in false (shape.Object (objects.Of (table.Top top.Document) rest.Unknown)) [] v
