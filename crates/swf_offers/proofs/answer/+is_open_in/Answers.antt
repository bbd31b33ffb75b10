use Rattle.std.proofs.Common.{◌∙◌, arith, ap, sym}
use Rattle.swf_stack.specs.Stands.{top_of}
use Rattle.swf_strands.proofs.AskLemmas.{child-place, fewer}
use Rattle.swf_strands.proofs.TreeLemmas.{child-held}
use Rattle.swf_offers.specs.Answers.{is_open_in_top}
use Rattle.swf_offers.proofs.OpenLemmas.{closed-first, closed-more, closed-all, open-here, open-child}
use Rattle.swf_offers.proofs.answer.+is_open_in.Goals as goal

pub returns-then-is_open : goal.returns-then-is_open
returns-then-is_open t c =
    open-here c.args.activity.now c.args.forest.now c.args.strand c.is_open.result c.requires (λ b f. c.is_open.ensures ∙ ap (is_open_in_top c.args.activity.now) (c.get.ensures ∙ sym (ap top_of (c.stand_of.ensures b f)))) c.if-is_open.true

pub loop-child-init : goal.loop-child-init
loop-child-init t c = (
  omega arith,
  closed-first c.args.activity.now c.args.forest.now c.args.strand c.is_open.result (λ b f. c.is_open.ensures ∙ ap (is_open_in_top c.args.activity.now) (c.get.ensures ∙ sym (ap top_of (c.stand_of.ensures b f)))) c.if-is_open.false,
)

pub is_open_in-requires : goal.is_open_in-requires
is_open_in-requires t c =
    let less = fewer c.args.forest.now c.args.strand c.loop-child.number c.in-Some.child c.requires c.in-Some.ensures.child in
    (omega (arith, less), child-held c.args.forest.now c.args.strand c.loop-child.number c.in-Some.child c.requires c.in-Some.ensures.child)

pub returns-then-is_open_in : goal.returns-then-is_open_in
returns-then-is_open_in t c =
    open-child c.args.activity.now c.args.forest.now c.args.strand c.loop-child.number c.in-Some.child c.is_open_in.result c.requires c.in-Some.ensures.child c.is_open_in.ensures c.if-is_open_in.true

pub loop-child-smaller : goal.loop-child-smaller
loop-child-smaller t c =
    let place = child-place c.args.forest.now c.args.strand c.loop-child.number c.in-Some.child c.requires c.in-Some.ensures.child in
    omega (arith, place)

pub loop-child-preserved : goal.loop-child-preserved
loop-child-preserved t c =
    let place = child-place c.args.forest.now c.args.strand c.loop-child.number c.in-Some.child c.requires c.in-Some.ensures.child in (
      omega (arith, place),
      closed-more c.args.activity.now c.args.forest.now c.args.strand c.loop-child.number c.in-Some.child c.is_open_in.result c.in-Some.ensures.child c.loop-child.invariant.1 c.is_open_in.ensures c.if-is_open_in.false,
    )

pub returns : goal.returns
returns t c = closed-all c.args.activity.now c.args.forest.now c.args.strand c.loop-child.number c.requires c.loop-child.invariant.1 c.in_default.ensures.none
