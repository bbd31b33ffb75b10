use Rattle.std.proofs.Common.{sym, subst}
use Rattle.swf_engine.specs.declared.fault.EngineFault.{EngineFault}
use Rattle.swf_turns.specs.Finish.{Tells}
use Rattle.swf_turns.proofs.opening.not_opened.Goals as goal

pub returns-in-Damaged-clause-tells : goal.returns-in-Damaged-clause-tells
returns-in-Damaged-clause-tells g c =
    let H = g.H.Store in
    subst (λ (f : EngineFault). Tells H.moment H.left_since H.said H.may_leave H.seen g.H.Host.taken f c.args.host.now c.say_damage.new.host c.say_damage.result) (sym c.in-Damaged.is) c.say_damage.ensures.says
