-- What the strands of an instance listen for: of each filter of a `listen` that has begun, and has not heard all, the type of the
-- events that it takes; none where it takes events of more than one.
use Rattle.std.specs.Prelude.{ℕ, List, [], ◌∷◌, codes, flat_map, map, Option, Some, None, if◌then◌else◌}
use Rattle.swf_text.specs.Same.{same}
use Rattle.swf_value.specs.Value.{text}
use Rattle.swf_document.specs.Task.{Task}
use Rattle.swf_document.specs.Template.{Template, constant}
use Rattle.swf_document.specs.declared.event.Filter.{Filter}
use Rattle.swf_document.specs.declared.event.ListenSpec.{ListenSpec}
use Rattle.swf_document.specs.declared.template.Field.{Field}
use Rattle.swf_meaning.specs.Listen.{is_heard}
use Rattle.swf_meaning.specs.Node.{Node}
use Rattle.swf_meaning.specs.Parts.{kind_of, listen_in}
use Rattle.swf_meaning.specs.Strands.{tops}
use Rattle.swf_meaning.specs.Top.{Top, Hears}
use Rattle.swf_meaning.specs.declared.heard.Heard.{Heard}

-- the text of a template that is a constant
abbrev pub text_in : Template → Option (List ℕ)
text_in (constant (text t)) = Some t
text_in t = None

-- the type that attributes name
abbrev pub type_told : List Field → Option (List ℕ)
type_told [] = None
type_told (a ∷ others) = if same a.name (codes "type") then text_in a.value else type_told others

abbrev pub types_told : List Filter → List (Option (List ℕ))
types_told filters = map (λ f. type_told f.with) filters

abbrev pub types_of : Option ListenSpec → List (Option (List ℕ))
types_of None = []
types_of (Some l) = types_told l.filters

-- of a task that heard these
abbrev pub types_left : Task → List Heard → List (Option (List ℕ))
types_left t hs = if is_heard t hs then [] else types_of (listen_in (kind_of t))

-- of a strand with this on top
abbrev pub types_top : Top → List (Option (List ℕ))
types_top (Hears r bound hs) = types_left r.task hs
types_top t = []

-- of all strands of a node, ascending by strand
abbrev pub event_types : Node → List (Option (List ℕ))
event_types n = flat_map (λ s. types_top s.1) (tops n)
