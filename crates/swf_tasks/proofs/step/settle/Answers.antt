use Rattle.std.proofs.Common.{option_to_list, ◌++◌, ◌≡◌, ◌∙◌, ◌+◌, ap, sym, subst, refl, Option, Some, None, Ok, Result}
use Rattle.std.specs.Prelude.{option_map}
use Rattle.swf_document.specs.declared.error.Problem.{Problem}
use Rattle.swf_meaning.specs.Complete.{Stepped, step_of}
use Rattle.swf_meaning.specs.Fork.{competes}
use Rattle.swf_meaning.specs.Line.{Line}
use Rattle.swf_rules.specs.Settles.{ending, MakesSome}
use Rattle.swf_stack.specs.Stands.{frames_of, top_of}
use Rattle.swf_stack.specs.Stack.{seen_in, stepped_of}
use Rattle.swf_scene.specs.Setting.{line_of, site_of}
use Rattle.swf_stack.specs.declared.made.Top.TheVariants as tops
use Rattle.swf_tasks.specs.Stepped.{IsChange, ended_at}
use Rattle.swf_strands.specs.Strands.{node_of}
use Rattle.swf_tasks.specs.declared.prepared.Strands.TheVariants as strands
use Rattle.swf_tasks.proofs.ChangeLemmas.{goes-deeper, settle-on, settle-off, settles-to, halted, none-of, some-of}
use Rattle.swf_strands.proofs.TreeLemmas.{held-is}
use Rattle.swf_tasks.proofs.step.settle.Goals as goal
use Rattle.swf_tasks.proofs.step.settle.Goals.{in-Ok-Some, in-Err+in_ok-made-in-Err}

pub returns-in_default : goal.returns-in_default
returns-in_default c = λ b l way inner f seen change.
    let at = site_of c.args.scene in
    goes-deeper at l way c.args.depth b c.args.number change.0 inner c.args.prepared _ (held-is c.args.forest.now c.args.above b c.requires.held f) change.1.0
    (subst (λ z. IsChange at z way (c.args.depth + 1) inner (node_of change.0.held) c.args.prepared) seen change.1.1)
    (none-of (λ t. t.now) c.ended.result (ended_at (c.args.depth + 1) c.args.prepared.strands) c.ended.ensures c.in_default.not-Some)
    refl

pub returns-in-Ok-None : goal.returns-in-Ok-None
returns-in-Ok-None c = λ b l way inner f seen change.
    let at = site_of c.args.scene in
    let x = c.in-Some.ended.now in
    let z = line_of c.args.scene in
    let w = c.in-Forked in
    let e = ending z w.running (competes w.running.task) c.in_ok-outputs.outputs x in
    let none : e ≡ None = subst (λ r. MakesSome z e r) (c.in-Ok-None.is ∙ ap Ok c.in-Ok-None.field-0-is) c.settled-given.ensures in
    settle-on at l way c.args.depth b c.args.number change.0 inner c.args.prepared _ x (held-is c.args.forest.now c.args.above b c.requires.held f) change.1.0
    (subst (λ y. IsChange at y way (c.args.depth + 1) inner (node_of change.0.held) c.args.prepared) seen change.1.1)
    (some-of (λ t. t.now) c.ended.result (ended_at (c.args.depth + 1) c.args.prepared.strands) c.in-Some.ended c.ended.ensures c.in-Some.is)
    (settles-to z (seen_in l (frames_of b.frames)) b c.args.number x w.running (competes w.running.task) c.in_ok-outputs.outputs None seen
    refl (c.in_ok-outputs.ensures b f) (ap (option_map (step_of z)) none) (sym (sym (ap top_of (c.stand_of.ensures b f))) ∙ sym c.get.ensures ∙ w.is))
    refl

pub returns : goal.returns
returns c = λ b l way inner f seen change.
    let at = site_of c.args.scene in
    let x = c.in-Some.ended.now in
    let z = line_of c.args.scene in
    let w = c.in-Forked in
    let made = c.match-given.made in
    let top : top_of b.frames ≡ tops.Forked w.running = sym (sym (ap top_of (c.stand_of.ensures b f))) ∙ sym c.get.ensures ∙ w.is in
    let e : Option (Result Stepped Problem) = ending z w.running (competes w.running.task) c.in_ok-outputs.outputs x in
    let gives : option_map (step_of z) e ≡ Some (stepped_of z made) = elim c.match-given.branch [
      | in-Ok-Some v ↦ ap (option_map (step_of z)) (subst (λ r. MakesSome z e r) (v.in-Ok-Some.is ∙ ap Ok v.in-Ok-Some.field-0-is) c.settled-given.ensures) ∙ ap (λ m. Some (stepped_of z m)) (sym v.made-is)
      | in-Err+in_ok-made-in-Err v ↦ halted z w.running e v.in-Err.halt v.in_ok-made-in-Err.made (subst (λ r. MakesSome z e r) v.in-Err.is c.settled-given.ensures) v.in_ok-made-in-Err.ensures ∙ ap (λ m. Some (stepped_of z m)) (sym v.made-is)
    ] in
    settle-off at l way c.args.depth b c.args.number change.0 inner c.args.prepared _ x made c.stand_of.result.now c.in_ok-stand.stand (held-is c.args.forest.now c.args.above b c.requires.held f) change.1.0
    (subst (λ y. IsChange at y way (c.args.depth + 1) inner (node_of change.0.held) c.args.prepared) seen change.1.1)
    (some-of (λ t. t.now) c.ended.result (ended_at (c.args.depth + 1) c.args.prepared.strands) c.in-Some.ended c.ended.ensures c.in-Some.is)
    (λ q t. settles-to z (seen_in l (frames_of b.frames)) b c.args.number x w.running (competes w.running.task) c.in_ok-outputs.outputs (Some (stepped_of z made)) seen
    refl (c.in_ok-outputs.ensures b f) gives top q t ∙ ap (λ (y : Line). Some (stepped_of y made)) seen)
    (c.stand_of.ensures b f) (c.in_ok-stand.ensures.around ∙ ap (λ fs. option_to_list made.frame ++ fs) c.in_ok-kept.ensures.around) c.in_ok-stand.ensures.top
    (λ j. record c.args.prepared { strands = strands.One c.args.depth c.in_ok-stand.stand; context = c.in_ok-kept.ensures.context j })
