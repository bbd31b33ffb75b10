use Rattle.std.proofs.Common.{◌≡◌, ◌∙◌, ap, sym, Some, None}
use Rattle.swf_meaning.specs.Answer.{instance_at}
use Rattle.swf_meaning.specs.Reply.{before_last}
use Rattle.swf_instances.proofs.Lookups.{instance_numbered, instance_unnumbered}
use Rattle.swf_instances.proofs.ReplyLemmas.{found_named, named_by, open_found, open_nowhere}
use Rattle.swf_instances.proofs.instances.Instances.awaiting.Goals as goal

pub returns-in_default-clause-open : goal.returns-in_default-clause-open
returns-in_default-clause-open c = open_nowhere c.args.activity.now c.args.self.now.instances (sym c.in_default.is ∙ c.in_ok-id.ensures)

pub returns-in_default-number_of-clause-open : goal.returns-in_default-number_of-clause-open
returns-in_default-number_of-clause-open c =
    let a = c.args.activity.now in
    let id = c.in-Some.id in
    let is = c.args.self.now.instances in
    let named : Some id ≡ before_last 47 a = sym c.in-Some.is ∙ c.in_ok-id.ensures in
    let at : instance_at id is ≡ None = instance_unnumbered id is (sym c.number_of.ensures ∙ c.in_default-number_of.is) in
    sym (open_found a id c.self.inside.machines.entries is None (ap (λ h. h.instances) c.self.view_is) named c.self.invariant.held.placed c.self.invariant.held.apart at)

pub returns-then-is_open-clause-open : goal.returns-then-is_open-clause-open
returns-then-is_open-clause-open c =
    let a = c.args.activity.now in
    let id = c.in-Some.id in
    let is = c.args.self.now.instances in
    let i = c.at.result.now in
    let named : Some id ≡ before_last 47 a = sym c.in-Some.is ∙ c.in_ok-id.ensures in
    let at : instance_at id is ≡ Some i = instance_numbered id is c.in-Some-number_of.number (sym c.number_of.ensures ∙ c.in-Some-number_of.is) ∙ c.at.ensures.there in
    sym (open_found a id c.self.inside.machines.entries is (Some i) (ap (λ h. h.instances) c.self.view_is) named c.self.invariant.held.placed c.self.invariant.held.apart at ∙ sym c.is_open.ensures ∙ c.if-is_open.true)

pub returns-then-is_open-clause-there : goal.returns-then-is_open-clause-there
returns-then-is_open-clause-there c =
    let a = c.args.activity.now in
    let id = c.in-Some.id in
    let is = c.args.self.now.instances in
    let i = c.at.result.now in
    let named : Some id ≡ before_last 47 a = sym c.in-Some.is ∙ c.in_ok-id.ensures in
    let at : instance_at id is ≡ Some i = instance_numbered id is c.in-Some-number_of.number (sym c.number_of.ensures ∙ c.in-Some-number_of.is) ∙ c.at.ensures.there in
    (i, c.at.ensures.there, named_by a id i.id named ∙ found_named id is i at, sym c.is_open.ensures ∙ c.if-is_open.true)

pub returns-clause-open : goal.returns-clause-open
returns-clause-open c =
    let a = c.args.activity.now in
    let id = c.in-Some.id in
    let is = c.args.self.now.instances in
    let i = c.at.result.now in
    let named : Some id ≡ before_last 47 a = sym c.in-Some.is ∙ c.in_ok-id.ensures in
    let at : instance_at id is ≡ Some i = instance_numbered id is c.in-Some-number_of.number (sym c.number_of.ensures ∙ c.in-Some-number_of.is) ∙ c.at.ensures.there in
    sym (open_found a id c.self.inside.machines.entries is (Some i) (ap (λ h. h.instances) c.self.view_is) named c.self.invariant.held.placed c.self.invariant.held.apart at ∙ sym c.is_open.ensures ∙ c.if-is_open.false)
