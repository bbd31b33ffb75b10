use Rattle.std.proofs.Common.{◌≡◌, ◌∙◌, ap, length, rules, ℕ, Vec}
use Rattle.std.specs.Vec.{vec_len}
use Rattle.std.specs.declared.alloc.Global.{Global}
use Rattle.swf_strands.proofs.NameLemmas.{last-taken}
use Rattle.swf_strands.proofs.OrderLemmas.{from-on, led-inner, led_on-no, led_on-yes}
use Rattle.swf_strands.proofs.TreeLemmas.{child-held}
use Rattle.swf_strands.proofs.order.+lead_on.Goals as goal
use Rattle.swf_strands.proofs.order.+lead_on.Goals.{in-Some+in-Some-child_of+in_ok-push+in_ok-lead_on+else-branch, in-Some+in_default-child_of, in_default}

pub returns-then-branch : goal.returns-then-branch
returns-then-branch t c =
    let led = led_on-yes c.args.now c.args.forest.now c.in-Some-child_of.child c.push.new.self.items c.lead_on.new.path.items c.in_ok-lead_on.field-0 c.if-branch.true c.in_ok-lead_on.ensures in
    led-inner c.args.now c.args.forest.now c.args.strand c.in-Some.branch.now c.in-Some-child_of.child c.args.path.now.items c.push.new.self.items c.lead_on.new.path.items
    c.requires.held c.in-Some-child_of.ensures.child c.in_ok-push.ensures.items led

pub returns : goal.returns
returns t c =
    let path = c.args.path.now.items in
    let same : c.match-split_first.path.items ≡ path = elim c.match-split_first.branch [
      | in-Some+in-Some-child_of+in_ok-push+in_ok-lead_on+else-branch w ↦
          let inner = w.push.new.self.items in
          let after = w.lead_on.new.path in
          let len : vec_len after ≡ length after.items = search rules in
          let held = child-held c.args.forest.now c.args.strand w.in-Some.branch.now w.in-Some-child_of.child c.requires.held w.in-Some-child_of.ensures.child in
          let none = led_on-no c.args.now c.args.forest.now w.in-Some-child_of.child inner after.items w.in_ok-lead_on.field-0 w.if-branch.false held w.in_ok-lead_on.ensures in
          ap (λ (v : Vec ℕ Global). v.items) w.path-is ∙ last-taken path inner after.items w.pop.new.self.items w.in-Some.branch.now (vec_len after) none w.in_ok-push.ensures.items len w.pop.ensures.rest
      | in-Some+in_default-child_of w ↦ ap (λ (v : Vec ℕ Global). v.items) w.path-is
      | in_default w ↦ ap (λ (v : Vec ℕ Global). v.items) w.path-is
    ] in
    from-on c.args.now c.args.forest.now c.args.strand c.match-split_first.number path c.match-split_first.path.items c.lead_from.new.path.items c.lead_from.result same c.lead_from.ensures
