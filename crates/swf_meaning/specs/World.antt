-- The world at a moment: what was loaded, started, used and sent (DSL, "Runtime").
use Rattle.std.specs.Prelude.{◌+◌, ℕ, List, [], Option}
use Rattle.swf_value.specs.Value.{Value, null}
use Rattle.swf_cloudevents.specs.declared.event.Event.{Event}
use Rattle.swf_document.specs.declared.document.Document.{Document}
use Rattle.swf_meaning.specs.Documents.{Loaded}
use Rattle.swf_meaning.specs.Node.{Node, Fresh}
use Rattle.swf_meaning.specs.declared.key.Key.{Key}
use Rattle.swf_meaning.specs.Complete.{Stepped}
use Rattle.swf_meaning.specs.Line.{Line, Site}
use Rattle.swf_meaning.specs.Local.{local}
use Rattle.swf_meaning.specs.Parts.{workflow}
use Rattle.swf_meaning.specs.Strands.{branches_in}

-- an instance: its document, its raw input, when it started, its context, its tree, and the number of its next event
pub record Instance : Type 0 where
  pub id : List ℕ
  pub document : Document
  pub input : Value
  pub started : ℕ
  pub context : Value
  pub node : Node
  pub number : ℕ

-- the documents in load order, the instances in start order, the used keys with their places, the moment,
-- the events that were emitted, and how many labels came before
pub record World : Type 0 where
  pub documents : List Loaded
  pub instances : List Instance
  pub keys : List (Key × ℕ)
  pub now : ℕ
  pub outbox : List Event
  pub count : ℕ

abbrev pub empty : World
empty = record { documents = []; instances = []; keys = []; now = 0; outbox = []; count = 0 }

-- what every step of an instance goes by, outside all tasks
abbrev pub line_of : Instance → Line
line_of i = record { document = i.document; id = i.id; started = i.started; input = i.input; context = i.context; around = []; depth = 0 }

-- and what some go by besides, at a moment, where these documents are loaded
abbrev pub site_of : ℕ → List Loaded → Instance → Site
site_of now ds i = record { number = i.number; branches = branches_in i.node; now = now; documents = ds }

-- the step of a strand of an instance then
abbrev pub step_at : ℕ → List Loaded → List ℕ → Instance → Option Stepped
step_at now ds bs i = local (site_of now ds i) (line_of i) bs i.node

-- an instance that has just begun
abbrev pub new_instance : List ℕ → Value → ℕ → Document → Instance
new_instance id input now d = record { id = id; document = d; input = input; started = now; context = null; node = Fresh (workflow d) input; number = 0 }

abbrev pub with_step : Instance → Stepped → Instance
with_step i m = record i { node = m.node; context = m.context; number = i.number + m.used }
