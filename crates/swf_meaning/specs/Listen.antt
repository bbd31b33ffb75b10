-- `listen` (DSL reference, "Listen", "Event Consumption Strategy" and "Correlation").
use Rattle.std.specs.Prelude.{◌==◌, ◌+◌, ℕ, zero, List, [], ◌∷◌, ◌++◌, Bool, true, false, codes, length, map, flat_map, nat_le, nat_lt, Option, Some, None, Result, Ok, if◌then◌else◌}
use Rattle.std.specs.List.{list_any}
use Rattle.swf_value.specs.Members.{at, put}
use Rattle.swf_value.specs.Node.{items_of}
use Rattle.swf_value.specs.Value.{Value, null, text, list, Members, no_members}
use Rattle.swf_evaluation.specs.Operations.{is_same}
use Rattle.swf_evaluation.specs.declared.vars.Variable.{Variable}
use Rattle.swf_cloudevents.specs.Event.{event_value}
use Rattle.swf_cloudevents.specs.declared.event.Event.{Event}
use Rattle.swf_cloudevents.specs.declared.event.Payload.{Payload}
use Rattle.swf_cloudevents.specs.declared.event.Payload.TheVariants as payloads
use Rattle.swf_document.specs.Task.{Task}
use Rattle.swf_document.specs.Template.{Template}
use Rattle.swf_document.specs.declared.error.ErrorKind.TheVariants as kinds
use Rattle.swf_document.specs.declared.error.Problem.{Problem}
use Rattle.swf_document.specs.declared.event.Correlation.{Correlation}
use Rattle.swf_document.specs.declared.event.Filter.{Filter}
use Rattle.swf_document.specs.declared.event.ListenMode.{ListenMode}
use Rattle.swf_document.specs.declared.event.ListenMode.TheVariants.{One, Any, All}
use Rattle.swf_document.specs.declared.event.ListenSpec.{ListenSpec}
use Rattle.swf_templates.specs.Fill.{fill}
use Rattle.swf_templates.specs.Filter.{correlated}
use Rattle.swf_meaning.specs.Complete.{Stepped, becomes, complete}
use Rattle.swf_meaning.specs.Line.{Line, within}
use Rattle.swf_meaning.specs.Node.{Live, Hear, Running}
use Rattle.swf_meaning.specs.Parts.{kind_of, listen_in}
use Rattle.swf_meaning.specs.Rule.{◌>>=◌, fails, value_of}
use Rattle.swf_meaning.specs.declared.heard.Heard.{Heard}

-- a name is bound once, or again to the same value
abbrev pub bound_with : Task → List ℕ → Value → Option Value → Members → Result Members Problem
bound_with t x w None bound = Ok (put x w bound)
bound_with t x w (Some y) bound = if is_same y w then Ok (put x w bound) else fails t kinds.Expression (codes "cannot correlate")

-- an `expect` that is there is filled, and its value is bound to the name
abbrev pub expecting : Task → List Variable → Value → List ℕ → Option Template → Members → Result Members Problem
expecting t vars u x None bound = Ok bound
expecting t vars u x (Some e) bound = do
  w ← value_of t (fill e vars u)
  bound_with t x w (at x bound) bound

-- those of correlations in order
abbrev pub bound_by : Task → List Variable → Value → List Correlation → Members → Result Members Problem
bound_by t vars u [] bound = Ok bound
bound_by t vars u (c ∷ cs) bound = do
  more ← expecting t vars u c.name c.expect bound
  bound_by t vars u cs more

-- the correlations of all filters, in the order of the filters and of names
abbrev pub correlations : List Filter → List Correlation
correlations fs = flat_map (λ f. f.correlate) fs

-- a `listen` begins
abbrev pub listening : Line → Running → ListenSpec → Result Stepped Problem
listening l r spec = do
  bound ← bound_by r.task (within l r) r.input (correlations spec.filters) no_members
  Ok (becomes l (Live r (Hear bound [])))

-- one event satisfies `one` and `any`, and one for each filter `all`
abbrev pub suffices : ListenMode → ℕ → ℕ → Bool
suffices One filters events = nat_lt 0 events
suffices Any filters events = nat_lt 0 events
suffices All filters events = nat_le filters events

abbrev pub is_satisfied : ListenSpec → List Heard → Bool
is_satisfied l hs = suffices l.mode (length l.filters) (length hs)

-- the filter of that place has an event
abbrev pub is_met : ℕ → List Heard → Bool
is_met n hs = list_any (λ h. n == h.filter) hs

abbrev pub or_else : Option (Members × List Heard) → Option (Members × List Heard) → Option (Members × List Heard)
or_else None rest = rest
or_else (Some p) rest = Some p

-- the filter of that place has this event now
abbrev pub hears : ℕ → Event → List Heard → Option Members → Option (Members × List Heard)
hears n e hs None = None
hears n e hs (Some bound) = Some (bound, hs ++ (record { filter = n; event = e }) ∷ [])

-- the first filter that has no event and takes this one, from that place on
abbrev pub taken_from : ℕ → List Filter → Members → List Heard → Event → Option (Members × List Heard)
taken_from n [] bound hs e = None
taken_from n (f ∷ fs) bound hs e = or_else (if is_met n hs then None else hears n e hs (correlated f bound e)) (taken_from (n + 1) fs bound hs e)

-- what a `listen` has bound and heard after an event that it takes; none where it does not, as where it is satisfied
abbrev pub takes : ListenSpec → Members → List Heard → Event → Option (Members × List Heard)
takes l bound hs e = if is_satisfied l hs then None else taken_from zero l.filters bound hs e

-- the data of an event: null where it has none, and the base64 of bytes
abbrev pub data_of : Payload → Value
data_of payloads.Absent = null
data_of (payloads.Value v) = v
data_of (payloads.Base64 t) = text t

-- an event whole, or its data
abbrev pub read_as : Bool → Event → Value
read_as true e = event_value e
read_as false e = data_of e.payload

-- what a `listen` gives: the events in the order in which it took them
abbrev pub events_of : ListenSpec → List Heard → Value
events_of l hs = list (items_of (map (λ h. read_as l.envelope h.event) hs))

abbrev pub is_heard_by : List Heard → Option ListenSpec → Bool
is_heard_by hs None = false
is_heard_by hs (Some l) = is_satisfied l hs

-- the task listens no more
abbrev pub is_heard : Task → List Heard → Bool
is_heard t hs = is_heard_by hs (listen_in (kind_of t))

abbrev pub heard_by : Line → Running → List Heard → Option ListenSpec → Option (Result Stepped Problem)
heard_by l r hs None = None
heard_by l r hs (Some spec) = if is_satisfied spec hs then Some (complete l r (events_of spec hs)) else None

-- Wake: a `listen` that is satisfied is complete
abbrev pub heard : Line → Running → List Heard → Option (Result Stepped Problem)
heard l r hs = heard_by l r hs (listen_in (kind_of r.task))
