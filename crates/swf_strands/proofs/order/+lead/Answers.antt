use Rattle.std.proofs.Common.{◌≡◌, ◌∷◌, [], ◌++◌, arith, length, refl, rules}
use Rattle.std.specs.Vec.{vec_len}
use Rattle.swf_strands.proofs.AskLemmas.{child-place, fewer}
use Rattle.swf_strands.proofs.NameLemmas.{last-taken, put-behind}
use Rattle.swf_strands.proofs.OrderLemmas.{from-in, led-here, led-inner, led_from-none, led_in-no, led_in-yes, stuck-first, stuck-more}
use Rattle.swf_strands.proofs.TreeLemmas.{child-held}
use Rattle.swf_strands.proofs.order.+lead.Goals as goal

pub lead_from-loop-child-init : goal.lead_from-loop-child-init
lead_from-loop-child-init t c = (refl, stuck-first c.args.now c.args.forest.now c.args.strand c.args.first)

pub lead_from-overflow_cast-number : goal.lead_from-overflow_cast-number
lead_from-overflow_cast-number t c =
    let place = child-place c.args.forest.now c.args.strand c.loop-child.number c.in-Some.child c.requires.held c.in-Some.ensures.child in
    omega (arith, place)

pub lead_from-lead_in-requires : goal.lead_from-lead_in-requires
lead_from-lead_in-requires t c =
    let less = fewer c.args.forest.now c.args.strand c.loop-child.number c.in-Some.child c.requires.held c.in-Some.ensures.child in
    (omega (arith, less), child-held c.args.forest.now c.args.strand c.loop-child.number c.in-Some.child c.requires.held c.in-Some.ensures.child)

pub lead_from-returns-then-branch : goal.lead_from-returns-then-branch
lead_from-returns-then-branch t c =
    let way = put-behind c.args.path.now.items c.loop-child.path.items c.push.new.self.items c.loop-child.number c.in_ok-push.ensures.items c.loop-child.invariant.0 in
    led-inner c.args.now c.args.forest.now c.args.strand c.loop-child.number c.in-Some.child c.args.path.now.items c.push.new.self.items c.lead_in.new.path.items
    c.requires.held c.in-Some.ensures.child way
    (led_in-yes c.args.now c.args.forest.now c.in-Some.child c.push.new.self.items c.lead_in.new.path.items c.in_ok-lead_in.field-0 c.if-branch.true c.in_ok-lead_in.ensures)

pub lead_from-loop-child-smaller : goal.lead_from-loop-child-smaller
lead_from-loop-child-smaller t c =
    let place = child-place c.args.forest.now c.args.strand c.loop-child.number c.in-Some.child c.requires.held c.in-Some.ensures.child in
    omega (arith, place)

pub lead_from-loop-child-preserved : goal.lead_from-loop-child-preserved
lead_from-loop-child-preserved t c =
    let place = child-place c.args.forest.now c.args.strand c.loop-child.number c.in-Some.child c.requires.held c.in-Some.ensures.child in
    let path = c.args.path.now.items in
    let inner = c.push.new.self.items in
    let after = c.lead_in.new.path in
    let way : inner ≡ path ++ c.loop-child.number ∷ [] = put-behind path c.loop-child.path.items inner c.loop-child.number c.in_ok-push.ensures.items c.loop-child.invariant.0 in
    let len : vec_len after ≡ length after.items = search rules in
    let none = led_in-no c.args.now c.args.forest.now c.args.strand c.loop-child.number c.in-Some.child inner after.items c.in_ok-lead_in.field-0 c.if-branch.false c.requires.held c.in-Some.ensures.child c.in_ok-lead_in.ensures in (
      last-taken path inner after.items c.pop.new.self.items c.loop-child.number (vec_len after) none way len c.pop.ensures.rest,
      stuck-more c.args.now c.args.forest.now c.args.strand c.args.first c.loop-child.number c.in-Some.child inner after.items c.in_ok-lead_in.field-0 c.in-Some.ensures.child c.loop-child.invariant.1 c.if-branch.false c.in_ok-lead_in.ensures,
    )

pub lead_from-returns : goal.lead_from-returns
lead_from-returns t c =
    led_from-none c.args.now c.args.forest.now c.args.strand c.args.first c.loop-child.number c.args.path.now.items c.loop-child.path.items c.loop-child.invariant.1 c.in_default.ensures.none c.loop-child.invariant.0

pub lead_in-lead_from-requires : goal.lead_in-lead_from-requires
lead_in-lead_from-requires t c = (omega arith, c.requires.held)

pub lead_in-returns : goal.lead_in-returns
lead_in-returns t c =
    from-in c.args.now c.args.forest.now c.args.strand c.enabled_here.result c.args.path.now.items c.lead_from.new.path.items c.lead_from.result c.requires.held c.enabled_here.ensures c.if-enabled_here.false c.lead_from.ensures
