use Rattle.std.proofs.Common.{◌∙◌, subst, ℕ, List}
use Rattle.swf_turns.specs.Steps.{Says}
use Rattle.swf_turns.specs.declared.saying.After.TheVariants as after
use Rattle.swf_turns.proofs.saying.say_full.Goals as goal

pub returns-clause-says : goal.returns-clause-says
returns-clause-says g c =
    let H = g.H.Store in
    subst (λ (l : List ℕ). Says H.moment H.left_since H.said H.may_leave H.seen g.H.Host.taken c.args.host.now c.say_last.new.host c.args.conn l (after.Stops 7) c.say_last.result)
    (c.deref.ensures.value ∙ c.in-Ok.ensures) c.say_last.ensures.says
