use Rattle.std.proofs.Common.{◌∙◌, ◌++◌, ◌∷◌, [], ap}
use Rattle.swf_meaning.specs.Pending.{call_value}
use Rattle.swf_reports.proofs.PendingLemmas.{one_more}
use Rattle.swf_reports.proofs.calls.call_values.Goals as goal

pub loop-call-preserved : goal.loop-call-preserved
loop-call-preserved c =
    one_more call_value c.args.calls.now c.loop-call.call-index c.call-item.result c.loop-call.values.items c.push.new.self.items _ c.loop-call-test.true c.call-item.is
    (c.in_ok-push.ensures.items ∙ ap (λ v. c.loop-call.values.items ++ v ∷ []) c.in_ok-call_json.ensures) c.loop-call.invariant
