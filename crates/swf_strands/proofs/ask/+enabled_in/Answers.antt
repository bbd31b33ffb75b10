use Rattle.std.proofs.Common.{arith}
use Rattle.swf_strands.proofs.AskLemmas.{child-place, fewer, left-all, left-here, left-more, left-found, left-none}
use Rattle.swf_strands.proofs.TreeLemmas.{child-held}
use Rattle.swf_strands.proofs.ask.+enabled_in.Goals as goal

pub returns-then-enabled_here : goal.returns-then-enabled_here
returns-then-enabled_here t c = left-here c.args.now c.args.forest.now c.args.strand c.enabled_here.result c.requires c.enabled_here.ensures c.if-enabled_here.true

pub loop-child-init : goal.loop-child-init
loop-child-init t c = (omega arith, left-all c.args.now c.args.forest.now c.args.strand c.enabled_here.result c.requires c.enabled_here.ensures c.if-enabled_here.false)

pub enabled_in-requires : goal.enabled_in-requires
enabled_in-requires t c =
    let less = fewer c.args.forest.now c.args.strand c.loop-child.number c.in-Some.child c.requires c.in-Some.ensures.child in
    (omega (arith, less), child-held c.args.forest.now c.args.strand c.loop-child.number c.in-Some.child c.requires c.in-Some.ensures.child)

pub returns-then-enabled_in : goal.returns-then-enabled_in
returns-then-enabled_in t c =
    left-found c.args.now c.args.forest.now c.args.strand c.loop-child.number c.in-Some.child c.enabled_in.result c.in-Some.ensures.child c.loop-child.invariant.1 c.enabled_in.ensures c.if-enabled_in.true

pub loop-child-smaller : goal.loop-child-smaller
loop-child-smaller t c =
    let place = child-place c.args.forest.now c.args.strand c.loop-child.number c.in-Some.child c.requires c.in-Some.ensures.child in
    omega (arith, place)

pub loop-child-preserved : goal.loop-child-preserved
loop-child-preserved t c =
    let place = child-place c.args.forest.now c.args.strand c.loop-child.number c.in-Some.child c.requires c.in-Some.ensures.child in (
      omega (arith, place),
      left-more c.args.now c.args.forest.now c.args.strand c.loop-child.number c.in-Some.child c.enabled_in.result c.in-Some.ensures.child c.loop-child.invariant.1 c.enabled_in.ensures c.if-enabled_in.false,
    )

pub returns : goal.returns
returns t c = left-none c.args.now c.args.forest.now c.args.strand c.loop-child.number c.in_default.ensures.none c.loop-child.invariant.1
