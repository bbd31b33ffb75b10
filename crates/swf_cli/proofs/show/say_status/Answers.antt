use Rattle.std.proofs.Common.{⊎_elim, sym, subst, ℕ, List}
use Rattle.swf_turns.specs.Steps.{Says}
use Rattle.swf_turns.specs.declared.saying.After.TheVariants.{GoesOn}
use Rattle.swf_cli.proofs.ShowLemmas.{says_nothing}
use Rattle.swf_cli.proofs.show.say_status.Goals as goal

pub returns-in-Memory-clause-says : goal.returns-in-Memory-clause-says
returns-in-Memory-clause-says g c = λ line is.
    let H = g.H.Store in
    says_nothing H.moment H.left_since H.said H.may_leave H.seen g.H.Host.taken g.met.H.Store.only_now c.args.host.now 0 line

pub returns-in_default-clause-says : goal.returns-in_default-clause-says
returns-in_default-clause-says g c = λ line is.
    let H = g.H.Store in
    ⊎_elim
    (λ none. absurd (c.in_default.not-Memory none))
    (λ same. subst (λ (l : List ℕ). Says H.moment H.left_since H.said H.may_leave H.seen g.H.Host.taken c.args.host.now c.say.new.host 0 l GoesOn c.say.result) (sym same) c.say.ensures.says)
    is
