use Rattle.std.proofs.Common.{◌≡◌, ◌∙◌, ◌∷◌, [], Some, ap, sym, subst}
use Rattle.swf_jq_tokens.specs.Gives.{Gives}
use Rattle.swf_jq_tokens.proofs.Choices.{chosen, other}
use Rattle.swf_jq_parse.specs.declared.stack.Item.TheVariants as items
use Rattle.swf_jq_parse.proofs.Having.{have_tested, have_left_of, have_joined, tight_enough, too_loose}
use Rattle.swf_jq_parse.proofs.follow.have.Goals as goal

pub returns-in-Some : goal.returns-in-Some
returns-in-Some c =
    let tested = have_tested c.loop-follower.stack c.loop-follower.tight c.context.result c.loop-follower.value c.args.at _ (Some c.in-Some.follower) c.context.ensures c.in-Some.ensures in
    let enough = tight_enough _ _ _ (ap (λ b. b.1) c.follower_binds.ensures) c.if-follower_binds-tight.true in
    subst (Gives _ c.followed.result) (sym (tested ∙ chosen _ _ _ enough) ∙ c.loop-follower.invariant) c.followed.ensures

pub returns-in-Some-2 : goal.returns-in-Some-2
returns-in-Some-2 c =
    let tested = have_tested c.loop-follower.stack c.loop-follower.tight c.context.result c.loop-follower.value c.args.at _ (Some c.in-Some.follower) c.context.ensures c.in-Some.ensures in
    let loose = too_loose _ _ _ (ap (λ b. b.1) c.follower_binds.ensures) c.if-follower_binds-tight.false in
    rw c.refuse.ensures (sym c.loop-follower.invariant ∙ tested ∙ other _ _ _ loose)

pub loop-follower-preserved : goal.loop-follower-preserved
loop-follower-preserved c =
    have_joined c.loop-follower.stack c.pop_front.new.self c.in-Some-Pending.pending c.loop-follower.tight c.context.result c.pending_binds-tight.result.0
    c.loop-follower.value c.in_ok-value-in-Some-Pending.value c.args.at _ c.context.ensures c.in-None.ensures
    (c.in-Some-Pending.ensures.items ∙ ap (λ x. x ∷ c.pop_front.new.self) c.in-Some-Pending.field-0-is)
    (ap (λ b. b.0) c.pending_binds-tight.ensures) c.in_ok-value-in-Some-Pending.ensures
    ∙ c.loop-follower.invariant

pub returns-in-Some-Open : goal.returns-in-Some-Open
returns-in-Some-Open c =
    let on : c.loop-follower.stack ≡ items.Open c.in-Some-Open.opening ∷ c.pop_front.new.self = c.in-Some-Open.ensures.items ∙ ap (λ x. x ∷ c.pop_front.new.self) c.in-Some-Open.field-0-is in
    let left = have_left_of c.loop-follower.stack _ c.loop-follower.tight c.context.result c.loop-follower.value c.args.at _ c.context.ensures c.in-None.ensures on in
    subst (Gives _ c.close.result) (sym left ∙ c.loop-follower.invariant) c.close.ensures

pub returns-in-None-pop_front : goal.returns-in-None-pop_front
returns-in-None-pop_front c =
    let left = have_left_of c.loop-follower.stack [] c.loop-follower.tight c.context.result c.loop-follower.value c.args.at _ c.context.ensures c.in-None.ensures c.in-None-pop_front.ensures.cases.0 in
    rw c.refuse_token.ensures (sym c.loop-follower.invariant ∙ left)
