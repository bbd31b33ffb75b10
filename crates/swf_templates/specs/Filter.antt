-- Which events a filter takes, and what it binds (DSL 1.0.0, reference, "Event Filter", "Correlation" and "Event Consumption
-- Strategy").
use Rattle.std.specs.Prelude.{ℕ, List, [], ◌∷◌, Bool, false, Option, Some, None, option_and_then, unwrap_or, if◌then◌else◌}
use Rattle.std.specs.List.{list_all}
use Rattle.swf_value.specs.Members.{at, member_at, put}
use Rattle.swf_value.specs.Value.{Value, null, Members}
use Rattle.swf_evaluation.specs.Operations.{is_same, is_true}
use Rattle.swf_document.specs.Template.{Template, constant, run}
use Rattle.swf_document.specs.declared.event.Correlation.{Correlation}
use Rattle.swf_document.specs.declared.event.Filter.{Filter}
use Rattle.swf_cloudevents.specs.Event.{event_value}
use Rattle.swf_cloudevents.specs.declared.event.Event.{Event}
use Rattle.swf_templates.specs.Fill.{first_of, fill}
use Rattle.swf_templates.specs.declared.got.Got.{Got}
use Rattle.swf_templates.specs.declared.got.Got.TheVariants as gots

-- got is a true value
abbrev pub is_true_got : Got Value → Bool
is_true_got (gots.Value v) = is_true v
is_true_got g = false

-- got is this value
abbrev pub is_got : Value → Got Value → Bool
is_got v (gots.Value w) = is_same v w
is_got v g = false

-- whether an attribute matches, which may be absent. An expression is evaluated on it, with null for one that is absent; a list or
-- an object is filled on it. Neither sees a variable
abbrev pub attribute_matches : Template → Option Value → Bool
attribute_matches (run e) v = is_true_got (first_of e [] (unwrap_or v null))
attribute_matches t None = false
attribute_matches (constant w) (Some v) = is_same v w
attribute_matches t (Some v) = is_got v (fill t [] v)

-- a filter matches an event where each attribute of `with` does: the member of that name of the value that the event is written as
abbrev pub filter_matches : Filter → Event → Bool
filter_matches f e = list_all (λ a. attribute_matches a.value (member_at a.name (event_value e))) f.with

-- a name is bound to a value, or has it already
abbrev pub bound_to : List ℕ → Value → Option Value → Members → Option Members
bound_to k v None ms = Some (put k v ms)
bound_to k v (Some w) ms = if is_same v w then Some ms else None

-- the bindings with what was got for a name, which has to be a value that is not null
abbrev pub bound_got : List ℕ → Got Value → Members → Option Members
bound_got k (gots.Value null) ms = None
bound_got k (gots.Value v) ms = bound_to k v (at k ms) ms
bound_got k g ms = None

-- the bindings with a correlation, whose expression is evaluated on the whole event
abbrev pub bind : Correlation → Value → Members → Option Members
bind c v ms = bound_got c.name (first_of c.from [] v) ms

abbrev pub bind_all : List Correlation → Value → Members → Option Members
bind_all [] v ms = Some ms
bind_all (c ∷ cs) v ms = option_and_then (bind_all cs v) (bind c v ms)

-- the bindings after an event that a filter takes: it matches, and agrees with what is bound
abbrev pub correlated : Filter → Members → Event → Option Members
correlated f ms e = if filter_matches f e then bind_all f.correlate (event_value e) ms else None
