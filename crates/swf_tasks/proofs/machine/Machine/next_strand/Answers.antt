use Rattle.std.proofs.Common.{◌≡◌, ◌∙◌, ap, sym, true, false, ℕ, Vec}
use Rattle.std.specs.declared.alloc.Global.{Global}
use Rattle.swf_meaning.specs.Local.{is_enabled}
use Rattle.swf_meaning.specs.Strands.{can_go}
use Rattle.swf_strands.specs.Strands.{node_of}
use Rattle.swf_strands.proofs.OrderLemmas.{led-first, led_in-none, led_in-yes, led_on-yes, led_on-no}
use Rattle.swf_strands.proofs.TreeLemmas.{root-held, yes-no}
use Rattle.swf_tasks.proofs.WayLemmas.{of-root}
use Rattle.swf_tasks.proofs.machine.Machine.next_strand.Goals as goal
use Rattle.swf_tasks.proofs.machine.Machine.next_strand.Goals.{then-branch, else-branch+in_ok-lead_in}

pub lead_on-requires : goal.lead_on-requires
lead_on-requires c = record { held = root-held c.self.inside.forest c.root-root.result c.root-root.ensures.root c.root-root.ensures.distinct c.self.invariant.0 }

pub lead_in-requires : goal.lead_in-requires
lead_in-requires c = record { held = root-held c.self.inside.forest c.root-root.result c.root-root.ensures.root c.root-root.ensures.distinct c.self.invariant.0 }

pub returns-then-branch-2 : goal.returns-then-branch-2
returns-then-branch-2 c =
    let t = c.self.inside.forest in
    let r = c.root-root.result in
    let held = root-held c.self.inside.forest c.root-root.result c.root-root.ensures.root c.root-root.ensures.distinct c.self.invariant.0 in
    let old = c.new-path.result.items in
    let way = c.lead_on.new.path.items in
    of-root (λ n. can_go c.args.now c.of.result n ≡ true) c.self.inside.setting t r c.args.self.now c.self.view_is c.root-root.ensures.root c.self.invariant.0 (λ b f. elim c.if-branch.branch [
      | then-branch w ↦
          led-first c.args.now (node_of b) old way c.of.result c.new-path.ensures.items (c.of.ensures ∙ ap (λ (v : Vec ℕ Global). v.items) w.path-is)
          (led_on-yes c.args.now t r old way c.in_ok-lead_on.field-0 w.if-branch.true c.in_ok-lead_on.ensures b f)
      | else-branch+in_ok-lead_in w ↦
          led-first c.args.now (node_of b) way w.lead_in.new.path.items c.of.result
          (led_on-no c.args.now t r old way c.in_ok-lead_on.field-0 w.if-branch.false held c.in_ok-lead_on.ensures ∙ c.new-path.ensures.items)
          (c.of.ensures ∙ ap (λ (v : Vec ℕ Global). v.items) w.path-is)
          (led_in-yes c.args.now t r way w.lead_in.new.path.items w.in_ok-lead_in.field-0 (sym w.value-is ∙ c.if-branch-2.true) w.in_ok-lead_in.ensures b f)
    ])

pub returns-else-branch-2 : goal.returns-else-branch-2
returns-else-branch-2 c =
    let t = c.self.inside.forest in
    let r = c.root-root.result in
    let way = c.lead_on.new.path.items in
    of-root (λ n. is_enabled c.args.now n ≡ false) c.self.inside.setting t r c.args.self.now c.self.view_is c.root-root.ensures.root c.self.invariant.0 (λ b f. elim c.if-branch.branch [
      | then-branch w ↦ absurd (yes-no (sym w.if-branch.true ∙ sym w.value-is ∙ c.if-branch-2.false))
      | else-branch+in_ok-lead_in w ↦ led_in-none c.args.now t r way w.lead_in.new.path.items w.in_ok-lead_in.field-0 (sym w.value-is ∙ c.if-branch-2.false) w.in_ok-lead_in.ensures b f
    ])
