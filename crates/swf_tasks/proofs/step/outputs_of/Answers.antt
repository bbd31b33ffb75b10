use Rattle.std.proofs.Common.{◌≡◌, ◌∙◌, ap, sym, subst, suc, add-one, ◌++◌, ◌∷◌, [], Some, arith}
use Rattle.std.specs.Prelude.{option_map}
use Rattle.swf_frames.specs.Tree.{find}
use Rattle.swf_frames.specs.Paths.{Found}
use Rattle.swf_meaning.specs.Fork.{put}
use Rattle.swf_meaning.specs.Node.{Node}
use Rattle.swf_stack.specs.Stack.{top_node}
use Rattle.swf_stack.specs.declared.made.Stand.{Stand}
use Rattle.swf_tasks.specs.Installed.{output_in}
use Rattle.swf_strands.specs.Strands.{nodes_of}
use Rattle.swf_tasks.proofs.OutputLemmas.{AreUpTo, output-of-ended, output-of-other, one-more, not-all, all-done, none-left, below-beside, few-below}
use Rattle.swf_strands.proofs.TreeLemmas.{nth_node}
use Rattle.swf_tasks.proofs.step.outputs_of.Goals as goal
use Rattle.swf_tasks.proofs.step.outputs_of.Goals.{then-next-number, else-next-number}

pub returns-in_default-output : goal.returns-in_default-output
returns-in_default-output c = λ b f.
    let number = c.args.number in
    let next = c.loop-branch.next in
    let ms = put (nodes_of b.below) number (top_node c.args.ended.now) in
    let h = c.in-Some.ensures.child b f in
    let child : Found Stand = record { number = c.in-Some.branch; held = h.0 } in
    let told : (n : Node) × ((nth_node ms next ≡ Some n) × (output_in n ≡ option_map (λ w. w.now) c.if-next-number.output)) =
    elim c.if-next-number.branch [
      | then-next-number w ↦ let o = output-of-ended b number next child c.args.ended.now h.1.0 w.if-next-number.true in (o.0, (o.1.0, o.1.1 ∙ sym (ap (option_map (λ w. w.now)) w.output-is ∙ w.output_of-output.ensures)))
      | else-next-number w ↦ let o = output-of-other b number next child w.stand_of.result.now c.args.ended.now h.1.0 (w.stand_of.ensures h.0 h.1.1.0) (λ e. w.if-next-number.false (sym e)) in (
        o.0,
        (o.1.0, o.1.1 ∙ sym (ap (option_map (λ w. w.now)) w.output-is ∙ w.output_on-output.ensures)),
      )
    ] in
    not-all ms next c.loop-branch.outputs.items told.0 (c.loop-branch.invariant b f) told.1.0 (told.1.1 ∙ ap (option_map (λ w. w.now)) c.in_default-output.is)

pub overflow_add-next : goal.overflow_add-next
overflow_add-next c =
    let b = c.requires.held.1.0 in
    let h = c.in-Some.ensures.child b c.requires.held.1.1.0 in
    let few = few-below b c.loop-branch.next (record { number = c.in-Some.branch; held = h.0 }) c.requires.held.1.1.1 h.1.0 in
    omega (arith, few)

pub loop-branch-smaller : goal.loop-branch-smaller
loop-branch-smaller c =
    let b = c.requires.held.1.0 in
    let h = c.in-Some.ensures.child b c.requires.held.1.1.0 in
    let less = below-beside (find c.args.forest.now.strands c.args.strand) b c.loop-branch.next (record { number = c.in-Some.branch; held = h.0 }) c.requires.held.1.1.0 h.1.0 in
    omega (arith, less)

pub loop-branch-preserved : goal.loop-branch-preserved
loop-branch-preserved c = λ b f.
    let number = c.args.number in
    let next = c.loop-branch.next in
    let ms = put (nodes_of b.below) number (top_node c.args.ended.now) in
    let h = c.in-Some.ensures.child b f in
    let child : Found Stand = record { number = c.in-Some.branch; held = h.0 } in
    let told : (n : Node) × ((nth_node ms next ≡ Some n) × (output_in n ≡ option_map (λ w. w.now) c.if-next-number.output)) =
    elim c.if-next-number.branch [
      | then-next-number w ↦ let o = output-of-ended b number next child c.args.ended.now h.1.0 w.if-next-number.true in (o.0, (o.1.0, o.1.1 ∙ sym (ap (option_map (λ w. w.now)) w.output-is ∙ w.output_of-output.ensures)))
      | else-next-number w ↦ let o = output-of-other b number next child w.stand_of.result.now c.args.ended.now h.1.0 (w.stand_of.ensures h.0 h.1.1.0) (λ e. w.if-next-number.false (sym e)) in (
        o.0,
        (o.1.0, o.1.1 ∙ sym (ap (option_map (λ w. w.now)) w.output-is ∙ w.output_on-output.ensures)),
      )
    ] in
    let w = c.in-Some-output.output.now in
    let items : c.push.new.self.items ≡ c.loop-branch.outputs.items ++ w ∷ [] = c.in_ok-push.ensures.items ∙ ap (λ v. c.loop-branch.outputs.items ++ v ∷ []) c.in_ok-copy.ensures in
    let more = one-more ms next c.loop-branch.outputs.items told.0 w (c.loop-branch.invariant b f) told.1.0 (told.1.1 ∙ ap (option_map (λ w. w.now)) c.in-Some-output.is) in
    subst (λ n. AreUpTo ms n c.push.new.self.items) (sym (add-one next)) (subst (AreUpTo ms (suc next)) (sym items) more)

pub returns : goal.returns
returns c = λ b f.
    ap Some c.in_ok-list.ensures ∙ all-done (put (nodes_of b.below) c.args.number (top_node c.args.ended.now)) c.loop-branch.next c.loop-branch.outputs.items (c.loop-branch.invariant b f) (none-left b c.args.number c.loop-branch.next (top_node c.args.ended.now) (c.in_default.ensures.none b f))
