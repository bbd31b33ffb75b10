use Rattle.std.proofs.Common.{◌∙◌, subst, ℕ, List}
use Rattle.swf_turns.specs.Steps.{Says, follows_end}
use Rattle.swf_turns.proofs.saying.say.Goals as goal

pub returns-clause-says : goal.returns-clause-says
returns-clause-says g c =
    let H = g.H.Store in
    subst (λ (l : List ℕ). Says H.moment H.left_since H.said H.may_leave H.seen g.H.Host.taken c.args.host.now c.say_line.new.host c.args.conn l (follows_end c.args.answered.ends) c.say_line.result)
    (c.deref.ensures.value ∙ c.in-Ok.ensures) c.say_line.ensures.says
