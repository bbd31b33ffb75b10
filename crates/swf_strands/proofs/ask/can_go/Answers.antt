use Rattle.std.proofs.Common.{◌∙◌, ap, nat_le, refl, sym}
use Rattle.swf_meaning.specs.Listen.{is_heard}
use Rattle.swf_stack.specs.Stands.{inward}
use Rattle.swf_strands.proofs.AskLemmas.{goes-fresh, goes-done, goes-fault, goes-waiting, goes-hearing, goes-awaiting, goes-forked}
use Rattle.swf_strands.proofs.StrandLemmas.{empty-inward}
use Rattle.swf_strands.proofs.ask.can_go.Goals as goal

pub returns-in-Fresh : goal.returns-in-Fresh
returns-in-Fresh c = λ ns. goes-fresh c.args.now (inward c.args.stand.now.around) c.args.stand.now.top ns _ _ (sym c.get.ensures ∙ c.in-Fresh.is)

pub returns-in-Done : goal.returns-in-Done
returns-in-Done c = λ ns. goes-done c.args.now (inward c.args.stand.now.around) c.args.stand.now.top ns _ _ _ c.is_empty.result (sym c.get.ensures ∙ c.in-Done.is) refl (c.is_empty.ensures ∙ empty-inward c.args.stand.now.around)

pub returns-in-Fault : goal.returns-in-Fault
returns-in-Fault c = λ ns.
    goes-fault c.args.now (inward c.args.stand.now.around) c.args.stand.now.top ns _ _ c.is_empty-in-Fault.result (sym c.get.ensures ∙ c.in-Fault.is) refl (c.is_empty-in-Fault.ensures ∙ empty-inward c.args.stand.now.around)

pub returns-in-Waiting : goal.returns-in-Waiting
returns-in-Waiting c = λ ns.
    ap (nat_le c.in-Waiting.until) c.milliseconds.ensures.value ∙ goes-waiting c.args.now (inward c.args.stand.now.around) c.args.stand.now.top ns _ _ c.in-Waiting.until (sym c.get.ensures ∙ c.in-Waiting.is)

pub returns-in-Hearing : goal.returns-in-Hearing
returns-in-Hearing c = λ ns.
    c.is_heard.ensures ∙ (λ i. is_heard (c.task.ensures i) (c.as_slice.ensures i)) ∙ goes-hearing c.args.now (inward c.args.stand.now.around) c.args.stand.now.top ns c.in-Hearing.running _ c.in-Hearing.heard (sym c.get.ensures ∙ c.in-Hearing.is)

pub returns-in-Awaiting : goal.returns-in-Awaiting
returns-in-Awaiting c = λ ns.
    c.is_some.ensures ∙ goes-awaiting c.args.now (inward c.args.stand.now.around) c.args.stand.now.top ns c.in-Awaiting.running c.in-Awaiting.activity c.in-Awaiting.request c.in-Awaiting.answer (sym c.get.ensures ∙ c.in-Awaiting.is)

pub returns-in-Forked : goal.returns-in-Forked
returns-in-Forked c = λ ns. goes-forked c.args.now (inward c.args.stand.now.around) c.args.stand.now.top ns _ (sym c.get.ensures ∙ c.in-Forked.is)
