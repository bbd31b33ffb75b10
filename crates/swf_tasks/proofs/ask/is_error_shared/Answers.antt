use Rattle.std.proofs.Common.{◌∙◌}
use Rattle.swf_chain.proofs.EndLemmas.{first-of}
use Rattle.swf_tasks.proofs.WayLemmas.{error-last, error-none}
use Rattle.swf_tasks.proofs.ask.is_error_shared.Goals as goal

pub returns-in-Some : goal.returns-in-Some
returns-in-Some c = λ p.
    let f = c.in-Some.frame.now in
    c.may_try_again.ensures ∙ error-last c.args.around.now f _ p (first-of c.args.around.now f _ c.in-Some.ensures)

pub returns-in-None : goal.returns-in-None
returns-in-None c = λ p. error-none c.args.around.now p c.in-None.ensures
