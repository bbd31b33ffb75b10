use Rattle.std.proofs.Common.{arith, subst, sym, Option, ℕ, ◌+◌}
use Rattle.swf_strands.proofs.AlarmLemmas.{IsRung, rung-own, rung-more, rung-all}
use Rattle.swf_strands.proofs.AskLemmas.{child-place, fewer}
use Rattle.swf_strands.proofs.TreeLemmas.{child-held}
use Rattle.swf_strands.proofs.alarm.+alarm_in.Goals as goal

pub loop-child-init : goal.loop-child-init
loop-child-init t c = (omega arith, rung-own c.args.forest.now c.args.strand c.own_until-alarm.result c.requires c.own_until-alarm.ensures)

pub alarm_in-requires : goal.alarm_in-requires
alarm_in-requires t c =
    let less = fewer c.args.forest.now c.args.strand c.loop-child.number c.in-Some.child c.requires c.in-Some.ensures.child in
    (omega (arith, less), child-held c.args.forest.now c.args.strand c.loop-child.number c.in-Some.child c.requires c.in-Some.ensures.child)

pub loop-child-smaller : goal.loop-child-smaller
loop-child-smaller t c =
    let place = child-place c.args.forest.now c.args.strand c.loop-child.number c.in-Some.child c.requires c.in-Some.ensures.child in
    omega (arith, place)

pub loop-child-preserved : goal.loop-child-preserved
loop-child-preserved t c =
    let place = child-place c.args.forest.now c.args.strand c.loop-child.number c.in-Some.child c.requires c.in-Some.ensures.child in
    let next = c.loop-child.number + 1 in (
      omega (arith, place),
      subst (λ (a : Option ℕ). IsRung c.args.forest.now c.args.strand next a) (sym c.earlier-alarm.ensures)
          (rung-more c.args.forest.now c.args.strand c.loop-child.number c.in-Some.child c.loop-child.alarm c.alarm_in.result c.in-Some.ensures.child c.loop-child.invariant.1 c.alarm_in.ensures),
    )

pub returns : goal.returns
returns t c = rung-all c.args.forest.now c.args.strand c.loop-child.number c.loop-child.alarm c.in_default.ensures.none c.loop-child.invariant.1
