use Rattle.std.proofs.Common.{◌∙◌, ap, sym, Ok}
use Rattle.swf_meaning.specs.Complete.{step_of, complete}
use Rattle.swf_meaning.specs.Emit.{sending, emits}
use Rattle.swf_rule.specs.Rules.{line_in}
use Rattle.swf_rules.proofs.emit.emits.Goals as goal

pub returns-in-Ok : goal.returns-in-Ok
returns-in-Ok c =
    let r = c.args.rule.now in
    let l = line_in r in
    ap (emits l r.running.now) c.in-Ok.ensures.event
    ∙ ap Ok (ap (λ e. sending e (step_of l (complete l r.running.now r.running.now.input))) (sym c.in_ok-event-in-Ok.ensures)
    ∙ ap (λ v. sending c.in_ok-event-in-Ok.event (step_of l (complete l r.running.now v))) (sym (c.in_ok-copy-in-Ok.ensures ∙ c.input.ensures))
    ∙ sym (c.in_ok-with_event-in-Ok.ensures _ c.complete-given.ensures))
