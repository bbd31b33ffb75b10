-- The faults of scope of what has no tasks inside (DSL 1.0.0, reference, "Flow Directive", "Error", "Retry", "Call" and "Listen").
use Rattle.std.specs.Prelude.{◌∷◌, [], ◌++◌, ◌+◌, ℕ, List, codes, is_some}
use Rattle.std.specs.Fmt.{decimal}
use Rattle.swf_document.specs.TemplateNode.{fields_of}
use Rattle.swf_document.specs.declared.call.Callee.{Callee}
use Rattle.swf_document.specs.declared.call.Callee.TheVariants as callees
use Rattle.swf_document.specs.declared.call.Endpoint.{Endpoint}
use Rattle.swf_document.specs.declared.call.Endpoint.TheVariants as endpoints
use Rattle.swf_document.specs.declared.call.HttpSpec.{HttpSpec}
use Rattle.swf_document.specs.declared.common.Flow.{Flow}
use Rattle.swf_document.specs.declared.common.Flow.TheVariants as flows
use Rattle.swf_document.specs.declared.error.ErrorRef.{ErrorRef}
use Rattle.swf_document.specs.declared.error.ErrorRef.TheVariants as raises
use Rattle.swf_document.specs.declared.error.ErrorSpec.{ErrorSpec}
use Rattle.swf_document.specs.declared.event.Correlation.{Correlation}
use Rattle.swf_document.specs.declared.event.Filter.{Filter}
use Rattle.swf_document.specs.declared.event.ListenMode.{ListenMode}
use Rattle.swf_document.specs.declared.event.ListenMode.TheVariants as modes
use Rattle.swf_document.specs.declared.fault.Fault.{Fault}
use Rattle.swf_document.specs.declared.fault.FaultKind.TheVariants.{UnknownTarget, UnknownFunction, UnknownError}
use Rattle.swf_document.specs.declared.retry.RetryPolicy.{RetryPolicy}
use Rattle.swf_scope.specs.Names.{Places}
use Rattle.swf_scope.specs.Scope.{Scope, Spot, under, fault_unless, own, expression_faults, condition_faults, template_faults, field_faults, filled_faults}

-- a `then` names a task of the same list
abbrev pub flow_faults : Places → Spot → Flow → List Fault
flow_faults targets p flows.Continue = []
flow_faults targets p flows.Exit = []
flow_faults targets p flows.End = []
flow_faults targets p (flows.Task n) = fault_unless (is_some (targets n)) p UnknownTarget

-- the templates of an error
abbrev pub error_faults : List (List ℕ) → Spot → ErrorSpec → List Fault
error_faults vars p e =
    filled_faults vars (under p (codes "detail")) e.detail
    ++ (filled_faults vars (under p (codes "instance")) e.instance
    ++ (filled_faults vars (under p (codes "title")) e.title
    ++ template_faults vars (under p (codes "type")) e.uri))

-- the conditions of a retry policy
abbrev pub retry_faults : List (List ℕ) → Spot → RetryPolicy → List Fault
retry_faults vars p r = condition_faults vars (under p (codes "exceptWhen")) r.except ++ condition_faults vars (under p (codes "when")) r.cond

-- ---- call

abbrev pub callee_faults : Places → Spot → Callee → List Fault
callee_faults functions p (callees.Http h) = []
callee_faults functions p (callees.Function n w) = fault_unless (is_some (functions n)) p UnknownFunction

abbrev pub endpoint_faults : List (List ℕ) → Spot → Endpoint → List Fault
endpoint_faults vars p (endpoints.Pattern t) = []
endpoint_faults vars p (endpoints.Run e) = expression_faults vars p e
endpoint_faults vars p (endpoints.Uri e) = expression_faults vars (under p (codes "uri")) e

abbrev pub http_faults : List (List ℕ) → Spot → HttpSpec → List Fault
http_faults vars p h =
    filled_faults vars (under p (codes "body")) h.body
    ++ (endpoint_faults vars (under p (codes "endpoint")) h.endpoint
    ++ (field_faults vars (under p (codes "headers")) (fields_of h.headers)
    ++ field_faults vars (under p (codes "query")) (fields_of h.query)))

abbrev pub with_faults : List (List ℕ) → Spot → Callee → List Fault
with_faults vars p (callees.Http h) = http_faults vars p h
with_faults vars p (callees.Function n w) = filled_faults vars p w

-- ---- listen: what a filter looks at is the event alone

abbrev pub correlation_faults : List (List ℕ) → Spot → Correlation → List Fault
correlation_faults vars p c = filled_faults vars (under p (codes "expect")) c.expect ++ expression_faults [] (under p (codes "from")) c.from

abbrev pub correlations_faults : List (List ℕ) → Spot → List Correlation → List Fault
correlations_faults vars p [] = []
correlations_faults vars p (c ∷ cs) = correlation_faults vars (under p c.name) c ++ correlations_faults vars p cs

abbrev pub filter_faults : List (List ℕ) → Spot → Filter → List Fault
filter_faults vars p f = correlations_faults vars (under p (codes "correlate")) f.correlate ++ field_faults [] (under p (codes "with")) (fields_of f.with)

-- one filter stands by itself, several in a list
abbrev pub filter_spot : ListenMode → Spot → ℕ → Spot
filter_spot modes.One p i = under p (codes "one")
filter_spot modes.Any p i = under (under p (codes "any")) (decimal i)
filter_spot modes.All p i = under (under p (codes "all")) (decimal i)

abbrev pub filters_faults : List (List ℕ) → ListenMode → Spot → ℕ → List Filter → List Fault
filters_faults vars mode p i [] = []
filters_faults vars mode p i (f ∷ fs) = filter_faults vars (filter_spot mode p i) f ++ filters_faults vars mode p (i + 1) fs

-- ---- raise

abbrev pub raise_faults : Scope → Spot → ErrorRef → List Fault
raise_faults s p (raises.Named n) = fault_unless (is_some (s.known.errors n)) p UnknownError
raise_faults s p (raises.Written e) = error_faults (own s.around) p e
