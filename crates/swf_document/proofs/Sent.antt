-- Every type of a document may go to another thread, and be lent to several. A lemma for each type, by those of its parts.
use denote.RattleType.{RattleType}
use denote.Param.Send.{IsSend, IsSync, sendable}
use Rattle.std.proofs.Crossing.{crosses}
use Rattle.std.proofs.option.Option.TheSendSync as option
use Rattle.swf_text.proofs.text.Text.TheSendSync as text_law
use Rattle.swf_text.proofs.place.Place.TheSendSync as place_law
use Rattle.swf_text.specs.contracts.text.Text as text
use Rattle.swf_text.specs.contracts.place.Place as place
use Rattle.swf_value.proofs.list.JsonList.TheLaws.TheKnot as json_knot
use Rattle.swf_value.specs.contracts.value.Json as json
use Rattle.swf_expr.proofs.constant.ConstantObject.TheLaws.TheKnot as expr_knot
use Rattle.swf_expr.proofs.builtin.Builtin.TheSendSync as builtin
use Rattle.swf_expr.proofs.name.Name.TheSendSync as name
use Rattle.swf_expr.proofs.op.Op.TheSendSync as op
use Rattle.swf_expr.specs.contracts.expr.Expr as expr
use Rattle.swf_document.proofs.template.Template.TheLaws.TheKnot as template_knot
use Rattle.swf_document.proofs.tasks.Tasks.TheLaws.TheKnot as tasks_knot
use Rattle.swf_document.specs.contracts.template.Template as template
use Rattle.swf_document.specs.contracts.template.Field as field
use Rattle.swf_document.specs.contracts.error.ErrorSpec as spec
use Rattle.swf_document.specs.contracts.error.ErrorRef as reference
use Rattle.swf_document.specs.contracts.error.ErrorFilter as error_filter
use Rattle.swf_document.specs.contracts.error.Problem as problem
use Rattle.swf_document.specs.contracts.retry.RetryPolicy as policy
use Rattle.swf_document.specs.contracts.retry.RetryRef as retry
use Rattle.swf_document.specs.contracts.common.Flow as flow
use Rattle.swf_document.specs.contracts.common.Case as case
use Rattle.swf_document.specs.contracts.common.Common as common
use Rattle.swf_document.specs.contracts.boxed.Boxed as boxed
use Rattle.swf_document.specs.contracts.listing.Listing as listing
use Rattle.swf_document.specs.contracts.call.Endpoint as endpoint
use Rattle.swf_calls.specs.contracts.method.Method as method
use Rattle.swf_document.specs.contracts.call.HttpSpec as http
use Rattle.swf_document.specs.contracts.call.Callee as callee
use Rattle.swf_document.specs.contracts.event.Correlation as correlation
use Rattle.swf_document.specs.contracts.event.Filter as filter
use Rattle.swf_document.specs.contracts.event.ListenMode as mode
use Rattle.swf_document.specs.contracts.event.ListenSpec as listen
use Rattle.swf_document.specs.contracts.document.DocKey as key
use Rattle.swf_document.specs.contracts.run.RunSpec as run
use Rattle.swf_document.specs.contracts.tasks.Tasks as tasks
use Rattle.swf_document.specs.contracts.document.NamedError as named_error
use Rattle.swf_document.specs.contracts.document.NamedRetry as named_retry
use Rattle.swf_document.specs.contracts.document.Document as document

-- ---- what the crates below have
pub text_send : IsSend text.the_row
text_send = text_law.the_send

pub text_sync : IsSync text.the_row
text_sync = text_law.the_sync

pub place_send : IsSend place.the_row
place_send = place_law.the_send

pub place_sync : IsSync place.the_row
place_sync = place_law.the_sync

pub json_send : IsSend json.the_row
json_send = search (sendable, crosses, json_knot.crosses, text_send, text_sync) depth 20

pub json_sync : IsSync json.the_row
json_sync = search (sendable, crosses, json_knot.crosses, text_send, text_sync) depth 20

pub expr_send : IsSend expr.the_row
expr_send = search (sendable, crosses, expr_knot.crosses, json_send, builtin.the_send, name.the_send, op.the_send) depth 20

pub expr_sync : IsSync expr.the_row
expr_sync = search (sendable, crosses, expr_knot.crosses, json_sync, json_send, name.the_send, op.the_send, builtin.the_sync, name.the_sync, op.the_sync) depth 20

-- ---- boxes and lists
pub boxed_send : (T : RattleType) → IsSend T → IsSend (boxed.the_row T)
boxed_send T s = search (sendable, crosses) depth 20

pub boxed_sync : (T : RattleType) → IsSync T → IsSync (boxed.the_row T)
boxed_sync T y = search (sendable, crosses) depth 20

pub listing_send : (T : RattleType) → IsSend T → IsSync T → IsSend (listing.the_row T)
listing_send T s y = search (sendable, crosses) depth 20

pub listing_sync : (T : RattleType) → IsSend T → IsSync T → IsSync (listing.the_row T)
listing_sync T s y = search (sendable, crosses) depth 20

-- ---- the parts
pub template_send : IsSend template.the_row
template_send = search (sendable, crosses, template_knot.crosses, json_send, expr_send, text_send) depth 20

pub template_sync : IsSync template.the_row
template_sync = search (sendable, crosses, template_knot.crosses, json_sync, expr_sync, text_sync) depth 20

pub field_inside_send : IsSend (field.the_field).row
field_inside_send = search (sendable, text_send, template_send) depth 20

pub field_send : IsSend field.the_row
field_send = search (sendable, field_inside_send) depth 4

pub field_inside_sync : IsSync (field.the_field).row
field_inside_sync = search (sendable, text_sync, template_sync) depth 20

pub field_sync : IsSync field.the_row
field_sync = search (sendable, field_inside_sync) depth 4

pub spec_inside_send : IsSend (spec.the_field).row
spec_inside_send = search (sendable, template_send, option.the_field_send) depth 20

pub spec_send : IsSend spec.the_row
spec_send = search (sendable, spec_inside_send) depth 4

pub spec_inside_sync : IsSync (spec.the_field).row
spec_inside_sync = search (sendable, template_sync, option.the_field_sync) depth 20

pub spec_sync : IsSync spec.the_row
spec_sync = search (sendable, spec_inside_sync) depth 4

pub reference_inside_send : IsSend (reference.the_field).row
reference_inside_send = search (sendable, text_send, spec_inside_send) depth 20

pub reference_send : IsSend reference.the_row
reference_send = search (sendable, reference_inside_send) depth 4

pub reference_inside_sync : IsSync (reference.the_field).row
reference_inside_sync = search (sendable, text_sync, spec_inside_sync) depth 20

pub reference_sync : IsSync reference.the_row
reference_sync = search (sendable, reference_inside_sync) depth 4

pub error_filter_inside_send : IsSend (error_filter.the_field).row
error_filter_inside_send = search (sendable, text_send, option.the_field_send) depth 20

pub error_filter_send : IsSend error_filter.the_row
error_filter_send = search (sendable, error_filter_inside_send) depth 4

pub error_filter_inside_sync : IsSync (error_filter.the_field).row
error_filter_inside_sync = search (sendable, text_sync, option.the_field_sync) depth 20

pub error_filter_sync : IsSync error_filter.the_row
error_filter_sync = search (sendable, error_filter_inside_sync) depth 4

pub policy_inside_send : IsSend (policy.the_field).row
policy_inside_send = search (sendable, expr_send, option.the_field_send, boxed_send) depth 20

pub policy_send : IsSend policy.the_row
policy_send = search (sendable, policy_inside_send) depth 4

pub policy_inside_sync : IsSync (policy.the_field).row
policy_inside_sync = search (sendable, expr_sync, option.the_field_sync, boxed_sync) depth 20

pub policy_sync : IsSync policy.the_row
policy_sync = search (sendable, policy_inside_sync) depth 4

pub problem_inside_send : IsSend (problem.the_field).row
problem_inside_send = search (sendable, text_send, option.the_field_send) depth 20

pub problem_send : IsSend problem.the_row
problem_send = search (sendable, problem_inside_send) depth 4

pub problem_inside_sync : IsSync (problem.the_field).row
problem_inside_sync = search (sendable, text_sync, option.the_field_sync) depth 20

pub problem_sync : IsSync problem.the_row
problem_sync = search (sendable, problem_inside_sync) depth 4

pub retry_inside_send : IsSend (retry.the_field).row
retry_inside_send = search (sendable, text_send, policy_inside_send) depth 20

pub retry_send : IsSend retry.the_row
retry_send = search (sendable, retry_inside_send) depth 4

pub retry_inside_sync : IsSync (retry.the_field).row
retry_inside_sync = search (sendable, text_sync, policy_inside_sync) depth 20

pub retry_sync : IsSync retry.the_row
retry_sync = search (sendable, retry_inside_sync) depth 4

pub flow_inside_send : IsSend (flow.the_field).row
flow_inside_send = search (sendable, text_send) depth 20

pub flow_send : IsSend flow.the_row
flow_send = search (sendable, flow_inside_send) depth 4

pub flow_inside_sync : IsSync (flow.the_field).row
flow_inside_sync = search (sendable, text_sync) depth 20

pub flow_sync : IsSync flow.the_row
flow_sync = search (sendable, flow_inside_sync) depth 4

pub case_inside_send : IsSend (case.the_field).row
case_inside_send = search (sendable, text_send, expr_send, option.the_field_send, boxed_send, flow_inside_send) depth 20

pub case_send : IsSend case.the_row
case_send = search (sendable, case_inside_send) depth 4

pub case_inside_sync : IsSync (case.the_field).row
case_inside_sync = search (sendable, text_sync, expr_sync, option.the_field_sync, boxed_sync, flow_inside_sync) depth 20

pub case_sync : IsSync case.the_row
case_sync = search (sendable, case_inside_sync) depth 4

pub common_inside_send : IsSend (common.the_field).row
common_inside_send = search (sendable, expr_send, option.the_field_send, boxed_send, template_send, flow_inside_send, place_send) depth 20

pub common_send : IsSend common.the_row
common_send = search (sendable, common_inside_send) depth 4

pub common_inside_sync : IsSync (common.the_field).row
common_inside_sync = search (sendable, expr_sync, option.the_field_sync, boxed_sync, template_sync, flow_inside_sync, place_sync) depth 20

pub common_sync : IsSync common.the_row
common_sync = search (sendable, common_inside_sync) depth 4

pub endpoint_inside_send : IsSend (endpoint.the_field).row
endpoint_inside_send = search (sendable, text_send, expr_send) depth 20

pub endpoint_send : IsSend endpoint.the_row
endpoint_send = search (sendable, endpoint_inside_send) depth 4

pub endpoint_inside_sync : IsSync (endpoint.the_field).row
endpoint_inside_sync = search (sendable, text_sync, expr_sync) depth 20

pub endpoint_sync : IsSync endpoint.the_row
endpoint_sync = search (sendable, endpoint_inside_sync) depth 4

pub method_inside_send : IsSend (method.the_field).row
method_inside_send = search sendable depth 20

pub method_send : IsSend method.the_row
method_send = search (sendable, method_inside_send) depth 4

pub method_inside_sync : IsSync (method.the_field).row
method_inside_sync = search sendable depth 20

pub method_sync : IsSync method.the_row
method_sync = search (sendable, method_inside_sync) depth 4

pub http_inside_send : IsSend (http.the_field).row
http_inside_send = search (sendable, method_inside_send, endpoint_inside_send, field_send, field_sync, listing_send, template_send, option.the_field_send) depth 20

pub http_send : IsSend http.the_row
http_send = search (sendable, http_inside_send) depth 4

pub http_inside_sync : IsSync (http.the_field).row
http_inside_sync = search (sendable, method_inside_sync, endpoint_inside_sync, field_send, field_sync, listing_sync, template_sync, option.the_field_sync) depth 20

pub http_sync : IsSync http.the_row
http_sync = search (sendable, http_inside_sync) depth 4

pub callee_inside_send : IsSend (callee.the_field).row
callee_inside_send = search (sendable, http_send, boxed_send, text_send, template_send, option.the_field_send) depth 20

pub callee_send : IsSend callee.the_row
callee_send = search (sendable, callee_inside_send) depth 4

pub callee_inside_sync : IsSync (callee.the_field).row
callee_inside_sync = search (sendable, http_sync, boxed_sync, text_sync, template_sync, option.the_field_sync) depth 20

pub callee_sync : IsSync callee.the_row
callee_sync = search (sendable, callee_inside_sync) depth 4

pub correlation_inside_send : IsSend (correlation.the_field).row
correlation_inside_send = search (sendable, text_send, expr_send, template_send, option.the_field_send) depth 20

pub correlation_send : IsSend correlation.the_row
correlation_send = search (sendable, correlation_inside_send) depth 4

pub correlation_inside_sync : IsSync (correlation.the_field).row
correlation_inside_sync = search (sendable, text_sync, expr_sync, template_sync, option.the_field_sync) depth 20

pub correlation_sync : IsSync correlation.the_row
correlation_sync = search (sendable, correlation_inside_sync) depth 4

pub filter_inside_send : IsSend (filter.the_field).row
filter_inside_send = search (sendable, field_send, field_sync, correlation_send, correlation_sync, listing_send) depth 20

pub filter_send : IsSend filter.the_row
filter_send = search (sendable, filter_inside_send) depth 4

pub filter_inside_sync : IsSync (filter.the_field).row
filter_inside_sync = search (sendable, field_send, field_sync, correlation_send, correlation_sync, listing_sync) depth 20

pub filter_sync : IsSync filter.the_row
filter_sync = search (sendable, filter_inside_sync) depth 4

pub mode_inside_send : IsSend (mode.the_field).row
mode_inside_send = search sendable depth 20

pub mode_send : IsSend mode.the_row
mode_send = search (sendable, mode_inside_send) depth 4

pub mode_inside_sync : IsSync (mode.the_field).row
mode_inside_sync = search sendable depth 20

pub mode_sync : IsSync mode.the_row
mode_sync = search (sendable, mode_inside_sync) depth 4

pub listen_inside_send : IsSend (listen.the_field).row
listen_inside_send = search (sendable, mode_inside_send, filter_send, filter_sync, listing_send) depth 20

pub listen_send : IsSend listen.the_row
listen_send = search (sendable, listen_inside_send) depth 4

pub listen_inside_sync : IsSync (listen.the_field).row
listen_inside_sync = search (sendable, mode_inside_sync, filter_send, filter_sync, listing_sync) depth 20

pub listen_sync : IsSync listen.the_row
listen_sync = search (sendable, listen_inside_sync) depth 4

pub key_inside_send : IsSend (key.the_field).row
key_inside_send = search (sendable, text_send) depth 20

pub key_send : IsSend key.the_row
key_send = search (sendable, key_inside_send) depth 4

pub key_inside_sync : IsSync (key.the_field).row
key_inside_sync = search (sendable, text_sync) depth 20

pub key_sync : IsSync key.the_row
key_sync = search (sendable, key_inside_sync) depth 4

pub run_inside_send : IsSend (run.the_field).row
run_inside_send = search (sendable, key_inside_send, template_send, option.the_field_send) depth 20

pub run_send : IsSend run.the_row
run_send = search (sendable, run_inside_send) depth 4

pub run_inside_sync : IsSync (run.the_field).row
run_inside_sync = search (sendable, key_inside_sync, template_sync, option.the_field_sync) depth 20

pub run_sync : IsSync run.the_row
run_sync = search (sendable, run_inside_sync) depth 4

pub tasks_send : IsSend tasks.the_row
tasks_send = search (sendable, crosses, tasks_knot.crosses, callee_send, callee_sync, template_send, template_sync, listen_send, listen_sync, reference_send, reference_sync, run_send, run_sync, case_send, case_sync, listing_send, listing_sync, text_send, text_sync, expr_send, expr_sync, boxed_send, boxed_sync, option.the_send, option.the_sync, common_send, common_sync, error_filter_send, error_filter_sync, retry_send, retry_sync) depth 20

pub tasks_sync : IsSync tasks.the_row
tasks_sync = search (sendable, crosses, tasks_knot.crosses, callee_send, callee_sync, template_send, template_sync, listen_send, listen_sync, reference_send, reference_sync, run_send, run_sync, case_send, case_sync, listing_send, listing_sync, text_send, text_sync, expr_send, expr_sync, boxed_send, boxed_sync, option.the_send, option.the_sync, common_send, common_sync, error_filter_send, error_filter_sync, retry_send, retry_sync) depth 20

pub named_error_inside_send : IsSend (named_error.the_field).row
named_error_inside_send = search (sendable, text_send, spec_inside_send) depth 20

pub named_error_send : IsSend named_error.the_row
named_error_send = search (sendable, named_error_inside_send) depth 4

pub named_error_inside_sync : IsSync (named_error.the_field).row
named_error_inside_sync = search (sendable, text_sync, spec_inside_sync) depth 20

pub named_error_sync : IsSync named_error.the_row
named_error_sync = search (sendable, named_error_inside_sync) depth 4

pub named_retry_inside_send : IsSend (named_retry.the_field).row
named_retry_inside_send = search (sendable, text_send, policy_inside_send) depth 20

pub named_retry_send : IsSend named_retry.the_row
named_retry_send = search (sendable, named_retry_inside_send) depth 4

pub named_retry_inside_sync : IsSync (named_retry.the_field).row
named_retry_inside_sync = search (sendable, text_sync, policy_inside_sync) depth 20

pub named_retry_sync : IsSync named_retry.the_row
named_retry_sync = search (sendable, named_retry_inside_sync) depth 4

pub document_inside_send : IsSend (document.the_field).row
document_inside_send = search (sendable, key_inside_send, template_send, option.the_field_send, tasks_send, listing_send, named_error_send, named_error_sync, named_retry_send, named_retry_sync) depth 20

pub document_send : IsSend document.the_row
document_send = search (sendable, document_inside_send) depth 4

pub document_inside_sync : IsSync (document.the_field).row
document_inside_sync = search (sendable, key_inside_sync, template_sync, option.the_field_sync, tasks_sync, listing_sync, named_error_send, named_error_sync, named_retry_send, named_retry_sync) depth 20

pub document_sync : IsSync document.the_row
document_sync = search (sendable, document_inside_sync) depth 4
