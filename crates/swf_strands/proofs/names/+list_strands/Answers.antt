use Rattle.std.proofs.Common.{◌≡◌, ◌++◌, ◌∷◌, [], refl, arith, rules, length}
use Rattle.std.specs.Vec.{vec_len}
use Rattle.swf_strands.proofs.AskLemmas.{child-place, fewer}
use Rattle.swf_strands.proofs.NameLemmas.{listed-first, listed-more, listed-all, put-behind, last-taken}
use Rattle.swf_strands.proofs.TreeLemmas.{child-held}
use Rattle.swf_strands.proofs.names.+list_strands.Goals as goal

pub loop-child-init : goal.loop-child-init
loop-child-init t c =
    let path = c.args.path.now.items in
    let old = c.args.list.now.items in (
      omega arith,
      (
        refl,
        listed-first c.args.forest.now c.args.strand c.in_ok-named.field-0 c.deref.result.now path old c.push.new.self.items c.requires c.in_ok-named.ensures c.deref.ensures.value c.in_ok-push.ensures.items,
      ),
    )

pub overflow_cast-number : goal.overflow_cast-number
overflow_cast-number t c =
    let place = child-place c.args.forest.now c.args.strand c.loop-child.number c.in-Some.child c.requires c.in-Some.ensures.child in
    omega (arith, place)

pub list_strands-requires : goal.list_strands-requires
list_strands-requires t c =
    let less = fewer c.args.forest.now c.args.strand c.loop-child.number c.in-Some.child c.requires c.in-Some.ensures.child in
    (omega (arith, less), child-held c.args.forest.now c.args.strand c.loop-child.number c.in-Some.child c.requires c.in-Some.ensures.child)

pub loop-child-preserved : goal.loop-child-preserved
loop-child-preserved t c =
    let place = child-place c.args.forest.now c.args.strand c.loop-child.number c.in-Some.child c.requires c.in-Some.ensures.child in
    let path = c.args.path.now.items in
    let inner = c.push-in-Some.new.self.items in
    let after = c.list_strands.new.path in
    let way : inner ≡ path ++ c.loop-child.number ∷ [] = put-behind path c.loop-child.path.items inner c.loop-child.number c.in_ok-push-2.ensures.items c.loop-child.invariant.1.0 in
    let len : vec_len after ≡ length after.items = search rules in (
      omega (arith, place),
      (
        last-taken path inner after.items c.pop.new.self.items c.loop-child.number (vec_len after) c.in_ok-list_strands.ensures.path way len c.pop.ensures.rest,
        listed-more c.args.forest.now c.args.strand c.loop-child.number c.in-Some.child path inner c.args.list.now.items c.loop-child.list.items c.list_strands.new.list.items
            c.in-Some.ensures.child way c.loop-child.invariant.1.1 c.in_ok-list_strands.ensures.list,
      ),
    )

pub returns-clause-list : goal.returns-clause-list
returns-clause-list t c =
    listed-all c.args.forest.now c.args.strand c.loop-child.number c.args.path.now.items c.args.list.now.items c.loop-child.list.items c.in_default.ensures.none c.loop-child.invariant.1.1
