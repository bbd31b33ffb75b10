use Rattle.std.proofs.Common.{◌∙◌, ap, sym, subst, codes}
use Rattle.swf_value.specs.Value.{member, Ascending}
use Rattle.swf_value.specs.Node.{members_of}
use Rattle.swf_meaning.specs.Answer.{with_error, with_output}
use Rattle.swf_reports.proofs.ReportLemmas.{report_ascends}
use Rattle.swf_reports.proofs.reports.report.Goals as goal

pub object-requires : goal.object-requires
object-requires c =
    let node = c.args.instance.now.node in
    subst Ascending
    (sym (c.in_ok-lead-3.ensures ∙ ap (member (codes "context") c.in_ok-copy-2.field-0) (c.in_ok-lead_error.ensures ∙ ap (with_error node)
    (c.in_ok-lead-2.ensures ∙ ap (member (codes "id") c.text-2.result) (c.in_ok-lead_output.ensures ∙ ap (with_output node)
    (c.in_ok-lead.ensures ∙ ap (λ ms. member (codes "status") c.text.result (members_of ms)) c.new-members.ensures.items))))))
    (report_ascends node c.in_ok-copy-2.field-0 c.text-2.result c.text.result)
