use Rattle.std.proofs.Common.{◌≡◌, ◌∙◌, ap, codes, map, take, arith}
use Rattle.std.proofs.lemmas.List.{take_all}
use Rattle.std.proofs.lemmas.Result.{IfOk-weaker}
use Rattle.swf_value.specs.Node.{items_of}
use Rattle.swf_value.specs.Value.{list, member, no_members, object}
use Rattle.swf_meaning.specs.Pending.{call_value, calls, listens, listen_value, timers, timer_value, listening, waiting}
use Rattle.swf_meaning.specs.World.{Instance}
use Rattle.swf_reports.proofs.CallLemmas.{told_calls}
use Rattle.swf_reports.proofs.StrandsLemmas.{told_more}
use Rattle.swf_reports.proofs.waits.pending.Goals as goal

pub loop-number-preserved : goal.loop-number-preserved
loop-number-preserved c =
    let is = c.args.instances.now.instances in
    let k = c.loop-number.number in
    let i = c.at.result.now in
    let at = c.at.ensures.there in
    record {
      listens = told_more (λ (j : Instance). map (listen_value j) (listening j.node)) is k i _ _ at c.in_ok-push_instance.ensures.listens c.loop-number.invariant.listens;
      timers = told_more (λ (j : Instance). map (timer_value j) (waiting j.node)) is k i _ _ at c.in_ok-push_instance.ensures.timers c.loop-number.invariant.timers;
    }

pub returns : goal.returns
returns c =
    let is = c.args.instances.now.instances in
    let all : take c.loop-number.number is ≡ is = take_all c.loop-number.number is (omega (arith, c.loop-number-test.false, c.len-number-end.ensures.len)) in
    let told : c.in_ok-calls.calls.items ≡ calls is = c.in_ok-calls.ensures ∙ ap (map call_value) (c.deref.ensures.value ∙ c.in_ok-open_calls.ensures) ∙ told_calls is in
    let heard : c.loop-number.listens.items ≡ listens is = c.loop-number.invariant.listens ∙ ap listens all in
    let waited : c.loop-number.timers.items ≡ timers is = c.loop-number.invariant.timers ∙ ap timers all in
    IfOk-weaker c.waits_value.result _ _
    (λ v e. e ∙ (λ i. object (member (codes "calls") (list (items_of (told i))) (member (codes "listens") (list (items_of (heard i))) (member (codes "timers") (list (items_of (waited i))) no_members)))))
    c.waits_value.ensures
