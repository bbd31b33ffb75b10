use Rattle.std.proofs.Common.{None, ◌≡◌, ◌∙◌, [], ap, subst, sym, true, List}
use Rattle.swf_calls.specs.Request.{Request}
use Rattle.swf_meaning.specs.Call.{answered_by}
use Rattle.swf_meaning.specs.Listen.{is_heard}
use Rattle.swf_meaning.specs.Parts.{http_in, kind_of}
use Rattle.swf_scene.specs.Halts.{Makes}
use Rattle.swf_meaning.specs.Strands.{can_go}
use Rattle.swf_meaning.specs.declared.heard.Heard.{Heard}
use Rattle.swf_scene.specs.Setting.{line_of, site_of}
use Rattle.swf_stack.specs.Stack.{plug, top_node}
use Rattle.swf_stack.specs.declared.made.Top.TheVariants as tops
use Rattle.swf_stack.specs.Stands.{inward}
use Rattle.swf_strands.proofs.TreeLemmas.{yes-no}
use Rattle.swf_strands.proofs.StrandLemmas.{some-done, some-failed, no-fork}
use Rattle.swf_tasks.specs.Taken.{IsListened}
use Rattle.swf_tasks.proofs.StepLemmas.{made-fresh, made-waiting, made-hearing, made-awaiting, made-moved, made-failed, enabled-awaiting, enabled-hearing}
use Rattle.swf_tasks.proofs.step.ruled.Goals as goal

pub returns-in-Fresh : goal.returns-in-Fresh
returns-in-Fresh c = λ l seen. made-fresh (site_of c.args.scene.now) l (line_of c.args.scene.now) c.args.stand.now c.in-Fresh.task c.in-Fresh.raw c.enter.result (sym c.get.ensures ∙ c.in-Fresh.is) seen c.enter.ensures

pub returns-in-Waiting : goal.returns-in-Waiting
returns-in-Waiting c = λ l seen.
    made-waiting (site_of c.args.scene.now) l (line_of c.args.scene.now) c.args.stand.now c.in-Waiting.running c.in-Waiting.retries c.in-Waiting.until c.woken.result (sym c.get.ensures ∙ c.in-Waiting.is) c.requires seen c.woken.ensures

pub listened-requires : goal.listened-requires
listened-requires c =
    ap (is_heard c.in-Hearing.running.task) c.as_slice.ensures ∙ enabled-hearing c.args.scene.now.site.now c.args.stand.now c.in-Hearing.running _ c.in-Hearing.heard (sym c.get.ensures ∙ c.in-Hearing.is) ∙ c.requires

pub returns-in-Hearing : goal.returns-in-Hearing
returns-in-Hearing c = λ l seen.
    let z = line_of c.args.scene.now in
    made-hearing (site_of c.args.scene.now) l z c.args.stand.now c.in-Hearing.running _ c.in-Hearing.heard c.listened.result (sym c.get.ensures ∙ c.in-Hearing.is) c.requires seen
    (subst (λ (hs : List Heard). IsListened z c.in-Hearing.running hs c.listened.result) c.as_slice.ensures c.listened.ensures)

pub unreachable-requires : goal.unreachable-requires
unreachable-requires c =
    let w = c.in-Awaiting in
    yes-no (sym (enabled-awaiting c.args.scene.now.site.now c.args.stand.now w.running w.activity w.request None (sym c.get.ensures ∙ w.is ∙ ap (tops.Awaiting w.running w.activity w.request) c.in_default.is) ∙ c.requires))

pub returns-in-Some : goal.returns-in-Some
returns-in-Some c = λ l seen.
    let w = c.in-Awaiting in
    let z = line_of c.args.scene.now in
    made-awaiting (site_of c.args.scene.now) l z c.args.stand.now w.running w.activity w.request c.in-Some.reply c.answered.result (sym c.get.ensures ∙ w.is ∙ ap (tops.Awaiting w.running w.activity w.request) c.in-Some.is) seen
    (subst (λ (q : Request). Makes z (answered_by z w.running q c.in-Some.reply (http_in (kind_of w.running.task))) c.answered.result) c.get-in-Awaiting.ensures c.answered.ensures)

pub unreachable-requires-in-Forked : goal.unreachable-requires-in-Forked
unreachable-requires-in-Forked c =
    let fs = inward c.args.stand.now.around in
    no-fork c.args.scene.now.site.now fs c.in-Forked.field-0 (subst (λ t. can_go c.args.scene.now.site.now [] (plug fs (top_node t)) ≡ true) (sym c.get.ensures ∙ c.in-Forked.is) c.requires)

pub innermost-requires : goal.innermost-requires
innermost-requires c = some-done c.args.scene.now.site.now c.args.stand.now c.in-Done.output c.in-Done.flow (sym c.get.ensures ∙ c.in-Done.is) c.requires

pub returns-in-Done : goal.returns-in-Done
returns-in-Done c = λ l seen.
    made-moved (site_of c.args.scene.now) l (line_of c.args.scene.now) c.args.stand.now c.in-Done.output c.in-Done.flow c.innermost.result.now c.moved_on.result (sym c.get.ensures ∙ c.in-Done.is) c.innermost.ensures seen c.moved_on.ensures

pub innermost-requires-in-Fault : goal.innermost-requires-in-Fault
innermost-requires-in-Fault c = some-failed c.args.scene.now.site.now c.args.stand.now c.in-Fault.problem (sym c.get.ensures ∙ c.in-Fault.is) c.requires

pub returns-in-Fault : goal.returns-in-Fault
returns-in-Fault c = λ l seen.
    made-failed (site_of c.args.scene.now) l (line_of c.args.scene.now) c.args.stand.now c.in-Fault.problem c.innermost-in-Fault.result.now c.failed.result (sym c.get.ensures ∙ c.in-Fault.is) c.innermost-in-Fault.ensures seen c.failed.ensures
