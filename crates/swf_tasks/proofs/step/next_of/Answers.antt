use Rattle.std.proofs.Common.{◌≡◌, ◌∙◌, [], ap, subst, sym, true}
use Rattle.swf_meaning.specs.Line.{Site}
use Rattle.swf_meaning.specs.Strands.{can_go}
use Rattle.swf_scene.specs.Setting.{line_of, site_of}
use Rattle.swf_stack.specs.Stands.{inward}
use Rattle.swf_stack.specs.Stack.{seen_in}
use Rattle.swf_tasks.specs.Installed.{IsRuled, IsSeen, own_node}
use Rattle.swf_tasks.proofs.StepLemmas.{made-step}
use Rattle.swf_tasks.proofs.step.next_of.Goals as goal

pub ruled-given-requires : goal.ruled-given-requires
ruled-given-requires c = subst (λ n. can_go n [] (own_node c.args.stand.now) ≡ true) (sym (ap (λ (x : Site). x.now) c.in_ok-scene.ensures.site)) c.requires

pub returns : goal.returns
returns c =
    let s = site_of c.args.scene in
    let l = line_of c.args.scene in
    let z = line_of c.in_ok-scene.scene in
    let h = c.args.stand.now in
    let seen : IsSeen l z h = c.in_ok-scene.ensures.line ∙ ap (λ fs. seen_in l (inward fs)) c.outer_of.ensures in
    made-step s l z h c.ruled-given.result c.step_of.result seen (subst (λ (x : Site). IsRuled x l z h c.ruled-given.result) c.in_ok-scene.ensures.site (c.ruled-given.ensures l seen)) c.step_of.ensures
