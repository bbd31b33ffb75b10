use Rattle.std.proofs.Common.{◌≡◌, ap, subst, sym}
use Rattle.swf_frames.specs.Tree.{Tree}
use Rattle.swf_meaning.specs.Offer.{offered_one, takers_in}
use Rattle.swf_meaning.specs.World.{Instance}
use Rattle.swf_scene.specs.Setting.{instance_of}
use Rattle.swf_stack.specs.declared.made.Stand.{Stand}
use Rattle.swf_strands.specs.Strands.{IsGrown, root_node}
use Rattle.swf_offers.proofs.OfferLemmas.{AreOffered, offered-all}
use Rattle.swf_strands.proofs.AlarmLemmas.{alarm-root}
use Rattle.swf_strands.proofs.TreeLemmas.{root-held}
use Rattle.swf_tasks.proofs.machine.Machine.deliver_event.Goals as goal

pub offer_in-requires : goal.offer_in-requires
offer_in-requires c =
    root-held c.in_ok-forest.forest c.root-root.result c.root-root.ensures.root c.root-root.ensures.distinct (subst (λ (t : Tree Stand). IsGrown t.strands) (sym c.in_ok-forest.ensures) c.self.invariant.0)

pub alarm_in-self-inside-requires : goal.alarm_in-self-inside-requires
alarm_in-self-inside-requires c =
    let grown = subst (λ (t : Tree Stand). IsGrown t.strands) (sym c.in_ok-forest.ensures) c.self.invariant.0 in
    let all = offered-all c.args.offer.now c.in_ok-forest.forest c.offer_in.new.forest c.root-root.result c.in_ok-taken.taken c.root-root.ensures.root grown c.in_ok-taken.ensures in
    root-held c.offer_in.new.forest c.root.result c.root.ensures.root c.root.ensures.distinct all.grown

pub invariant_of-self : goal.invariant_of-self
invariant_of-self c =
    let grown = subst (λ (t : Tree Stand). IsGrown t.strands) (sym c.in_ok-forest.ensures) c.self.invariant.0 in
    let all = offered-all c.args.offer.now c.in_ok-forest.forest c.offer_in.new.forest c.root-root.result c.in_ok-taken.taken c.root-root.ensures.root grown c.in_ok-taken.ensures in
    (all.grown, alarm-root c.offer_in.new.forest c.root.result c.alarm_in-self-inside.result c.root.ensures.root all.grown c.alarm_in-self-inside.ensures)

pub returns-clause-ok : goal.returns-clause-ok
returns-clause-ok c =
    let e = c.args.offer.now in
    let k = c.in_ok-taken.taken in
    let new = c.offer_in.new.forest.strands in
    let s = c.self.inside.setting in
    let grown = subst (λ (t : Tree Stand). IsGrown t.strands) (sym c.in_ok-forest.ensures) c.self.invariant.0 in
    let all = offered-all e c.in_ok-forest.forest c.offer_in.new.forest c.root-root.result k c.root-root.ensures.root grown c.in_ok-taken.ensures in
    let off : AreOffered e c.self.inside.forest.strands new k = subst (λ (t : Tree Stand). AreOffered e t.strands new k) c.in_ok-forest.ensures all in
    subst (λ (i : Instance). (k ≡ takers_in e i) × (instance_of s (root_node new) ≡ offered_one e i)) c.self.view_is (off.takers, ap (instance_of s) off.node)
