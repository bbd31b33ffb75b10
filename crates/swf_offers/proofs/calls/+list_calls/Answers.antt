use Rattle.std.proofs.Common.{◌∙◌, ap, arith, sym}
use Rattle.swf_stack.specs.Stands.{top_of}
use Rattle.swf_strands.proofs.AskLemmas.{child-place, fewer}
use Rattle.swf_strands.proofs.TreeLemmas.{child-held}
use Rattle.swf_offers.proofs.CallLemmas.{called-first, called-more, called-all}
use Rattle.swf_offers.proofs.calls.+list_calls.Goals as goal

pub loop-child-init : goal.loop-child-init
loop-child-init t c = (
  omega arith,
  called-first c.args.forest.now c.args.strand c.get.result.now c.args.calls.now.items c.list_own.new.calls.items c.requires (λ b f. c.get.ensures ∙ sym (ap top_of (c.stand_of.ensures b f))) c.in_ok-list_own.ensures,
)

pub list_calls-requires : goal.list_calls-requires
list_calls-requires t c =
    let less = fewer c.args.forest.now c.args.strand c.loop-child.number c.in-Some.child c.requires c.in-Some.ensures.child in
    (omega (arith, less), child-held c.args.forest.now c.args.strand c.loop-child.number c.in-Some.child c.requires c.in-Some.ensures.child)

pub loop-child-smaller : goal.loop-child-smaller
loop-child-smaller t c =
    let place = child-place c.args.forest.now c.args.strand c.loop-child.number c.in-Some.child c.requires c.in-Some.ensures.child in
    omega (arith, place)

pub loop-child-preserved : goal.loop-child-preserved
loop-child-preserved t c =
    let place = child-place c.args.forest.now c.args.strand c.loop-child.number c.in-Some.child c.requires c.in-Some.ensures.child in (
      omega (arith, place),
      called-more c.args.forest.now c.args.strand c.loop-child.number c.in-Some.child c.args.calls.now.items c.loop-child.calls.items c.list_calls.new.calls.items
          c.in-Some.ensures.child c.loop-child.invariant.1 c.in_ok-list_calls.ensures,
    )

pub returns : goal.returns
returns t c =
    called-all c.args.forest.now c.args.strand c.loop-child.number c.args.calls.now.items c.loop-child.calls.items c.in_default.ensures.none c.loop-child.invariant.1
