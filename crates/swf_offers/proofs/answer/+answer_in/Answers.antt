use Rattle.std.proofs.Common.{arith, subst, sym, Option}
use Rattle.swf_calls.specs.declared.reply.CallReply.{CallReply}
use Rattle.swf_strands.proofs.AskLemmas.{child-place}
use Rattle.swf_strands.proofs.TreeLemmas.{child-held}
use Rattle.swf_offers.proofs.AnswerLemmas.{IsIn, in-here, un-first, un-held, un-fewer, un-more, un-answered, un-all}
use Rattle.swf_offers.proofs.answer.+answer_in.Goals as goal

pub returns-in_err-reply : goal.returns-in_err-reply
returns-in_err-reply t c =
    subst (λ (o : Option CallReply). IsIn c.args.activity.now c.args.reply c.args.strand c.args.forest.now c.answer_here.new.forest o) (sym c.from_residual.ensures)
    (in-here c.args.activity.now c.args.reply c.args.strand c.args.forest.now c.answer_here.new.forest c.requires c.in_err-reply.ensures)

pub loop-child-init : goal.loop-child-init
loop-child-init t c = (omega arith, un-first c.args.activity.now c.args.reply c.args.strand c.args.forest.now c.answer_here.new.forest c.in_ok-reply.reply c.requires c.in_ok-reply.ensures)

pub child_of-requires : goal.child_of-requires
child_of-requires t c = un-held c.args.activity.now c.args.reply c.args.strand c.args.forest.now c.loop-child.number c.loop-child.forest c.loop-child.reply c.requires c.loop-child.invariant.1

pub answer_in-requires : goal.answer_in-requires
answer_in-requires t c =
    let held = un-held c.args.activity.now c.args.reply c.args.strand c.args.forest.now c.loop-child.number c.loop-child.forest c.loop-child.reply c.requires c.loop-child.invariant.1 in
    let less = un-fewer c.args.activity.now c.args.reply c.args.strand c.args.forest.now c.loop-child.number c.loop-child.forest c.loop-child.reply c.in-Some.child c.requires c.loop-child.invariant.1 c.in-Some.ensures.child in
    (omega (arith, less), child-held c.loop-child.forest c.args.strand c.loop-child.number c.in-Some.child held c.in-Some.ensures.child)

pub returns-in_err-reply-2 : goal.returns-in_err-reply-2
returns-in_err-reply-2 t c =
    subst (λ (o : Option CallReply). IsIn c.args.activity.now c.args.reply c.args.strand c.args.forest.now c.answer_in.new.forest o) (sym c.from_residual-in_err-reply-2.ensures)
    (un-answered c.args.activity.now c.args.reply c.args.strand c.args.forest.now c.loop-child.number c.loop-child.forest c.answer_in.new.forest c.loop-child.reply c.in-Some.child c.requires c.loop-child.invariant.1 c.in-Some.ensures.child c.in_err-reply-2.ensures)

pub loop-child-smaller : goal.loop-child-smaller
loop-child-smaller t c =
    let held = un-held c.args.activity.now c.args.reply c.args.strand c.args.forest.now c.loop-child.number c.loop-child.forest c.loop-child.reply c.requires c.loop-child.invariant.1 in
    let place = child-place c.loop-child.forest c.args.strand c.loop-child.number c.in-Some.child held c.in-Some.ensures.child in
    omega (arith, place)

pub loop-child-preserved : goal.loop-child-preserved
loop-child-preserved t c =
    let held = un-held c.args.activity.now c.args.reply c.args.strand c.args.forest.now c.loop-child.number c.loop-child.forest c.loop-child.reply c.requires c.loop-child.invariant.1 in
    let place = child-place c.loop-child.forest c.args.strand c.loop-child.number c.in-Some.child held c.in-Some.ensures.child in (
      omega (arith, place),
      un-more c.args.activity.now c.args.reply c.args.strand c.args.forest.now c.loop-child.number c.loop-child.forest c.answer_in.new.forest c.loop-child.reply c.in_ok-reply-2.reply c.in-Some.child c.requires c.loop-child.invariant.1 c.in-Some.ensures.child c.in_ok-reply-2.ensures,
    )

pub returns : goal.returns
returns t c = un-all c.args.activity.now c.args.reply c.args.strand c.args.forest.now c.loop-child.number c.loop-child.forest c.loop-child.reply c.requires c.loop-child.invariant.1 c.in_default.ensures.none
