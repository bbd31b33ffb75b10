use Rattle.std.proofs.Common.{◌≡◌, ◌∙◌, Option, Some, None, ap, subst, sym, false, true}
use Rattle.std.specs.List.{reduce}
use Rattle.std.specs.Prelude.{min}
use Rattle.swf_calls.specs.declared.reply.CallReply.{CallReply}
use Rattle.swf_frames.specs.Tree.{Tree}
use Rattle.swf_meaning.proofs.ReplyLemmas.{waits_replied}
use Rattle.swf_meaning.specs.Reply.{is_open, with_reply}
use Rattle.swf_meaning.specs.World.{Instance}
use Rattle.swf_offers.proofs.AnswerLemmas.{IsIn}
use Rattle.swf_offers.proofs.AnsweredLemmas.{answered-all, unanswered-all}
use Rattle.swf_scene.specs.Setting.{instance_of}
use Rattle.swf_stack.specs.declared.made.Stand.{Stand}
use Rattle.swf_strands.proofs.TreeLemmas.{root-held}
use Rattle.swf_strands.specs.Alarm.{alarm_of}
use Rattle.swf_strands.specs.Strands.{IsGrown, root_node}
use Rattle.swf_tasks.proofs.machine.Machine.deliver_reply.Goals as goal

pub answer_in-requires : goal.answer_in-requires
answer_in-requires c = root-held c.self.inside.forest c.root-root.result c.root-root.ensures.root c.root-root.ensures.distinct c.self.invariant.0

pub invariant_of-self : goal.invariant_of-self
invariant_of-self c =
    let old = c.self.inside.forest in
    let new = c.answer_in.new.forest in
    let is : IsIn c.args.activity.now c.args.reply c.root-root.result old new (Some c.in-Some.reply) =
    subst (λ (o : Option CallReply). IsIn c.args.activity.now c.args.reply c.root-root.result old new o) c.in-Some.is c.answer_in.ensures in
    let none = unanswered-all c.args.activity.now c.args.reply c.in-Some.reply old new c.root-root.result c.root-root.ensures.root c.self.invariant.0 is in
    subst (λ (t : Tree Stand). IsGrown t.strands × (c.self.inside.alarm ≡ alarm_of (root_node t.strands))) (sym none.1.1) c.self.invariant

pub returns-in-Some-clause-closed : goal.returns-in-Some-clause-closed
returns-in-Some-clause-closed c =
    let a = c.args.activity.now in
    let old = c.self.inside.forest in
    let new = c.answer_in.new.forest in
    let is : IsIn a c.args.reply c.root-root.result old new (Some c.in-Some.reply) =
    subst (λ (o : Option CallReply). IsIn a c.args.reply c.root-root.result old new o) c.in-Some.is c.answer_in.ensures in
    let none = unanswered-all a c.args.reply c.in-Some.reply old new c.root-root.result c.root-root.ensures.root c.self.invariant.0 is in
    (subst (λ (i : Instance). is_open a i.node ≡ false) c.self.view_is none.0, none.1.0)

pub returns-in-Some-clause-err : goal.returns-in-Some-clause-err
returns-in-Some-clause-err c =
    let old = c.self.inside.forest in
    let new = c.answer_in.new.forest in
    let is : IsIn c.args.activity.now c.args.reply c.root-root.result old new (Some c.in-Some.reply) =
    subst (λ (o : Option CallReply). IsIn c.args.activity.now c.args.reply c.root-root.result old new o) c.in-Some.is c.answer_in.ensures in
    let none = unanswered-all c.args.activity.now c.args.reply c.in-Some.reply old new c.root-root.result c.root-root.ensures.root c.self.invariant.0 is in
    ap (λ (t : Tree Stand). instance_of c.self.inside.setting (root_node t.strands)) none.1.1 ∙ c.self.view_is

pub invariant_of-self-2 : goal.invariant_of-self-2
invariant_of-self-2 c =
    let a = c.args.activity.now in
    let p = c.args.reply in
    let old = c.self.inside.forest in
    let new = c.answer_in.new.forest in
    let is : IsIn a p c.root-root.result old new None = subst (λ (o : Option CallReply). IsIn a p c.root-root.result old new o) c.in_default.is c.answer_in.ensures in
    let all = answered-all a p old new c.root-root.result c.root-root.ensures.root c.self.invariant.0 is in
    (all.grown, c.self.invariant.1 ∙ ap (reduce min) (sym (waits_replied a p (root_node old.strands))) ∙ ap alarm_of (sym all.node))

pub returns-clause-ok : goal.returns-clause-ok
returns-clause-ok c =
    let a = c.args.activity.now in
    let p = c.args.reply in
    let s = c.self.inside.setting in
    let old = c.self.inside.forest in
    let new = c.answer_in.new.forest in
    let is : IsIn a p c.root-root.result old new None = subst (λ (o : Option CallReply). IsIn a p c.root-root.result old new o) c.in_default.is c.answer_in.ensures in
    let all = answered-all a p old new c.root-root.result c.root-root.ensures.root c.self.invariant.0 is in
    subst (λ (i : Instance). (is_open a i.node ≡ true) × (instance_of s (root_node new.strands) ≡ record i { node = with_reply a p i.node })) c.self.view_is (all.was, ap (instance_of s) all.node)
