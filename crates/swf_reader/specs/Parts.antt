-- The parts of a document that hold no tasks, as a value gives them (DSL 1.0.0, reference). What a value without faults
-- cannot lack is something plain where it is lacking.
use Rattle.std.specs.Prelude.{◌&&◌, ℕ, pos, List, [], ◌∷◌, Bool, true, false, not, codes, nat_le, Option, Some, None, option_map, option_and_then, unwrap_or, if◌then◌else◌}
use Rattle.std.specs.Option.{option_map_or}
use Rattle.std.specs.Result.{result_unwrap_or}
use Rattle.swf_text.specs.Same.{same}
use Rattle.swf_value.specs.Value.{Value, null, boolean, int, text, list, object, Items, no_items, item, Members, no_members, member}
use Rattle.swf_value.specs.Members.{member_at}
use Rattle.swf_expr.specs.Expr.{Tree, here}
use Rattle.swf_duration.specs.Duration.{duration_of}
use Rattle.swf_document.specs.Template.{Template, constant, run, list as filled_list, object as filled_object, Templates, no_templates, template, Fields, no_fields, field}
use Rattle.swf_document.specs.declared.call.Callee.{Callee}
use Rattle.swf_document.specs.declared.call.Callee.TheVariants as callee
use Rattle.swf_document.specs.declared.call.Endpoint.{Endpoint}
use Rattle.swf_document.specs.declared.call.Endpoint.TheVariants as endpoint
use Rattle.swf_document.specs.declared.call.HttpSpec.{HttpSpec}
use Rattle.swf_calls.specs.declared.method.Method.{Method}
use Rattle.swf_calls.specs.declared.method.Method.TheVariants as method
use Rattle.swf_document.specs.declared.common.Case.{Case}
use Rattle.swf_document.specs.declared.common.Common.{Common}
use Rattle.swf_document.specs.declared.common.Flow.{Flow}
use Rattle.swf_document.specs.declared.common.Flow.TheVariants as flow
use Rattle.swf_document.specs.declared.document.DocKey.{DocKey}
use Rattle.swf_document.specs.declared.error.ErrorFilter.{ErrorFilter}
use Rattle.swf_document.specs.declared.error.ErrorRef.{ErrorRef}
use Rattle.swf_document.specs.declared.error.ErrorRef.TheVariants as error
use Rattle.swf_document.specs.declared.error.ErrorSpec.{ErrorSpec}
use Rattle.swf_document.specs.declared.event.Correlation.{Correlation}
use Rattle.swf_document.specs.declared.event.Filter.{Filter}
use Rattle.swf_document.specs.declared.event.ListenMode.TheVariants as mode
use Rattle.swf_document.specs.declared.event.ListenSpec.{ListenSpec}
use Rattle.swf_document.specs.declared.retry.RetryPolicy.{RetryPolicy}
use Rattle.swf_document.specs.declared.retry.RetryRef.{RetryRef}
use Rattle.swf_document.specs.declared.retry.RetryRef.TheVariants as retry
use Rattle.swf_document.specs.declared.run.RunSpec.{RunSpec}
use Rattle.swf_document.specs.declared.template.Field.{Field}
use Rattle.swf_forms.specs.Expression.{expression_of}
use Rattle.swf_forms.specs.Forms.{trimmed, is_enclosed, inner, bare, method_of}

-- the characters of a text
abbrev pub text_in : Value → List ℕ
text_in (text t) = t
text_in v = []

-- a member, or null
abbrev pub part : List ℕ → Value → Value
part k v = unwrap_or (member_at k v) null

-- a member of a member
abbrev pub part_of_part : List ℕ → List ℕ → Value → Option Value
part_of_part k j v = option_and_then (member_at j) (member_at k v)

abbrev pub flag_in : Value → Bool
flag_in (boolean b) = b
flag_in v = false

abbrev pub flag_at : List ℕ → Value → Bool
flag_at k v = flag_in (part k v)

abbrev pub number_in : Value → ℕ
number_in (int (pos n)) = n
number_in v = 0

-- the status of an error
abbrev pub status_in : Value → ℕ
status_in v = if nat_le (number_in v) 599 then number_in v else 0

abbrev pub tree_of : List ℕ → Tree
tree_of t = unwrap_or (expression_of t) here

-- the expression in an expression place
abbrev pub expression_in : Value → Tree
expression_in v = tree_of (bare (trimmed (text_in v)))

abbrev pub expression_at : List ℕ → Value → Option Tree
expression_at k v = option_map expression_in (member_at k v)

-- no text in the value is an expression
abbrev mutual
  pub is_constant : Value → Bool
  is_constant null = true
  is_constant (boolean b) = true
  is_constant (int z) = true
  is_constant (text t) = not (is_enclosed (trimmed t))
  is_constant (list ds) = are_constant ds
  is_constant (object ms) = have_constants ms

  pub are_constant : Items → Bool
  are_constant no_items = true
  are_constant (item d ds) = is_constant d && are_constant ds

  pub have_constants : Members → Bool
  have_constants no_members = true
  have_constants (member k d ms) = is_constant d && have_constants ms

-- the template in a template place
abbrev mutual
  pub template_in : Value → Template
  template_in null = constant null
  template_in (boolean b) = constant (boolean b)
  template_in (int z) = constant (int z)
  template_in (text t) = if is_enclosed (trimmed t) then run (tree_of (inner (trimmed t))) else constant (text t)
  template_in (list ds) = if are_constant ds then constant (list ds) else filled_list (templates_in ds)
  template_in (object ms) = if have_constants ms then constant (object ms) else filled_object (fields_in ms)

  pub templates_in : Items → Templates
  templates_in no_items = no_templates
  templates_in (item d ds) = template (template_in d) (templates_in ds)

  pub fields_in : Members → Fields
  fields_in no_members = no_fields
  fields_in (member k d ms) = field k (template_in d) (fields_in ms)

abbrev pub template_at : List ℕ → Value → Option Template
template_at k v = option_map template_in (member_at k v)

-- the members of an object, each a template
abbrev pub named_templates : Members → List Field
named_templates no_members = []
named_templates (member k d ms) = (record { name = k; value = template_in d }) ∷ named_templates ms

abbrev pub named_templates_of : Value → List Field
named_templates_of (object ms) = named_templates ms
named_templates_of v = []

-- `from` and `as`
abbrev pub transform_in : Value → Template
transform_in (text t) = run (expression_in (text t))
transform_in v = template_in v

abbrev pub transform_at : List ℕ → List ℕ → Value → Option Template
transform_at k j v = option_map transform_in (part_of_part k j v)

abbrev pub flow_in : List ℕ → Flow
flow_in t =
    if same t (codes "continue") then flow.Continue
    else (if same t (codes "exit") then flow.Exit
    else (if same t (codes "end") then flow.End
    else flow.Task t))

abbrev pub flow_at : Value → Option Flow
flow_at v = option_map (λ w. flow_in (text_in w)) (member_at (codes "then") v)

-- what every task may have
abbrev pub common_in : List (List ℕ) → Value → Common
common_in p v = record {
  cond = expression_at (codes "if") v;
  input_from = transform_at (codes "input") (codes "from") v;
  output_as = transform_at (codes "output") (codes "as") v;
  export_as = transform_at (codes "export") (codes "as") v;
  flow = unwrap_or (flow_at v) flow.Continue;
  place = p;
}

-- an expression that gives an endpoint, in an object or in its place
abbrev pub endpoint_run : Bool → Tree → Endpoint
endpoint_run in_object e = if in_object then endpoint.Uri e else endpoint.Run e

abbrev pub endpoint_text : Bool → List ℕ → Endpoint
endpoint_text in_object t = if is_enclosed (trimmed t) then endpoint_run in_object (tree_of (inner (trimmed t))) else endpoint.Pattern t

abbrev pub endpoint_in : Value → Endpoint
endpoint_in (text t) = endpoint_text false t
endpoint_in v = endpoint_text true (text_in (part (codes "uri") v))

abbrev pub method_in : Value → Method
method_in v = unwrap_or (method_of (text_in v)) method.Get

abbrev pub response_in : Value → Bool
response_in v = same (text_in (part (codes "output") v)) (codes "response")

abbrev pub http_in : Value → HttpSpec
http_in v = record {
  method = method_in (part (codes "method") v);
  endpoint = endpoint_in (part (codes "endpoint") v);
  headers = named_templates_of (part (codes "headers") v);
  query = named_templates_of (part (codes "query") v);
  body = template_at (codes "body") v;
  response = response_in v;
  redirect = flag_at (codes "redirect") v;
}

-- what a task calls
abbrev pub callee_in : Value → Callee
callee_in v =
    let name = text_in (part (codes "call") v) in
    if same name (codes "http") then callee.Http (http_in (part (codes "with") v))
    else callee.Function name (template_at (codes "with") v)

abbrev pub error_in : Value → ErrorSpec
error_in v = record {
  uri = template_in (part (codes "type") v);
  status = status_in (part (codes "status") v);
  title = template_at (codes "title") v;
  detail = template_at (codes "detail") v;
  instance = template_at (codes "instance") v;
}

abbrev pub raised_in : Value → ErrorRef
raised_in (text t) = error.Named t
raised_in v = error.Written (error_in v)

abbrev pub key_in : List ℕ → Value → DocKey
key_in version v = record { namespace = text_in (part (codes "namespace") v); name = text_in (part (codes "name") v); version = version }

-- the latest version, where none is given
abbrev pub version_in : Value → List ℕ
version_in v = option_map_or text_in (member_at (codes "version") v) (codes "latest")

-- the workflow that a task runs
abbrev pub run_in : Value → RunSpec
run_in v = record {
  key = key_in (version_in v) v;
  input = template_at (codes "input") v;
}

abbrev pub correlations_in : Members → List Correlation
correlations_in no_members = []
correlations_in (member k d ms) = (record { name = k; from = expression_in (part (codes "from") d); expect = template_at (codes "expect") d }) ∷ correlations_in ms

abbrev pub correlations_of : Value → List Correlation
correlations_of (object ms) = correlations_in ms
correlations_of v = []

abbrev pub filter_in : Value → Filter
filter_in v = record { with = named_templates_of (part (codes "with") v); correlate = correlations_of (part (codes "correlate") v) }

abbrev pub filters_in : Items → List Filter
filters_in no_items = []
filters_in (item d ds) = filter_in d ∷ filters_in ds

abbrev pub filters_of : Value → List Filter
filters_of (list ds) = filters_in ds
filters_of v = []

-- which events are heard: one, any of some, or all of them
abbrev pub heard_in : Bool → Value → Option Value → Option Value → ListenSpec
heard_in e v (Some w) any = record { mode = mode.One; filters = filter_in w ∷ []; envelope = e }
heard_in e v None (Some w) = record { mode = mode.Any; filters = filters_of w; envelope = e }
heard_in e v None None = record { mode = mode.All; filters = filters_of (part (codes "all") v); envelope = e }

abbrev pub listen_in : Value → ListenSpec
listen_in v =
    let to = part (codes "to") v in
    heard_in (same (text_in (part (codes "read") v)) (codes "envelope")) to (member_at (codes "one") to) (member_at (codes "any") to)

abbrev pub case_in : List ℕ → Value → Case
case_in k v = record { name = k; cond = expression_at (codes "when") v; flow = flow_at v }

-- the case that an item is, an object of one member
abbrev pub case_of_members : Members → Option Case
case_of_members (member k d no_members) = Some (case_in k d)
case_of_members ms = None

abbrev pub case_of : Value → Option Case
case_of (object ms) = case_of_members ms
case_of v = None

abbrev pub with_case : Option Case → List Case → List Case
with_case (Some c) cs = c ∷ cs
with_case None cs = cs

abbrev pub cases_in : Items → List Case
cases_in no_items = []
cases_in (item d ds) = with_case (case_of d) (cases_in ds)

abbrev pub cases_of : Value → List Case
cases_of (list ds) = cases_in ds
cases_of v = []

-- the milliseconds of a duration
abbrev pub duration_in : Value → ℕ
duration_in v = result_unwrap_or (duration_of v) 0

abbrev pub delay_at : Value → ℕ
delay_at v = option_map_or duration_in (member_at (codes "delay") v) 0

-- how many further attempts there are at most
abbrev pub count_at : Value → Option ℕ
count_at v = option_map number_in (option_and_then (member_at (codes "count")) (part_of_part (codes "limit") (codes "attempt") v))

abbrev pub policy_in : Value → RetryPolicy
policy_in v = record {
  delay = delay_at v;
  count = count_at v;
  cond = expression_at (codes "when") v;
  except = expression_at (codes "exceptWhen") v;
}

abbrev pub retry_in : Value → RetryRef
retry_in (text t) = retry.Named t
retry_in v = retry.Written (policy_in v)

abbrev pub retry_at : Value → Option RetryRef
retry_at v = option_map retry_in (member_at (codes "retry") v)

abbrev pub text_at : List ℕ → Value → Option (List ℕ)
text_at k v = option_map text_in (member_at k v)

abbrev pub status_at : Value → Option ℕ
status_at v = option_map status_in (member_at (codes "status") v)

-- `details` is read as `detail`, where that is absent
abbrev pub either : Option Value → Option (List ℕ) → Option (List ℕ)
either (Some w) t = Some (text_in w)
either None t = t

abbrev pub detail_at : Value → Option (List ℕ)
detail_at v = either (member_at (codes "detail") v) (text_at (codes "details") v)

-- what a caught error must have
abbrev pub errors_in : Value → ErrorFilter
errors_in v = record {
  uri = text_at (codes "type") v;
  status = status_at v;
  instance = text_at (codes "instance") v;
  title = text_at (codes "title") v;
  detail = detail_at v;
}
