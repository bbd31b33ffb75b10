use Rattle.std.proofs.Common.{◌≡◌, ◌∙◌, [], ◌∷◌, ap, subst, sym}
use Rattle.std.specs.Prelude.{IfOk}
use Rattle.swf_chain.proofs.EndLemmas.{first-of}
use Rattle.swf_document.specs.Task.{Task}
use Rattle.swf_meaning.specs.Around.{seen}
use Rattle.swf_meaning.specs.Line.{Line}
use Rattle.swf_scene.specs.Setting.{line_of}
use Rattle.swf_stack.proofs.RoundLemmas.{seen_in-append}
use Rattle.swf_catalog.specs.Rounds.{round_of}
use Rattle.swf_stack.specs.Stack.{seen_in}
use Rattle.swf_stack.specs.Stands.{inward}
use Rattle.swf_scene.proofs.scene.Scene.+inside.Goals as goal

pub returns-clause-line : goal.returns-clause-line
returns-clause-line t c =
    let l = line_of c.args.self in
    let z = line_of c.in_ok-scene.scene in
    let f = c.in-Some.frame.now in
    let outer = c.in-Some.outer.now in
    let all : seen z c.task.result.now (round_of f.round) ≡ seen_in l (inward c.args.around.now) =
    ap (λ (k : Task). seen z k (round_of f.round)) c.task.ensures
    ∙ ap (λ (x : Line). seen x f.running.task (round_of f.round)) c.in_ok-scene.ensures.line
    ∙ sym (seen_in-append l (inward outer) (f ∷ []))
    ∙ ap (λ fs. seen_in l (inward fs)) (sym (first-of c.args.around.now f outer c.in-Some.ensures)) in
    subst (λ (y : Line). IfOk c.within.result (λ s. line_of s ≡ y)) all c.within.ensures.line
