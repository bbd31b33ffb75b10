use Rattle.swf_engine.proofs.StepLemmas.{engine_of, where_usable}
use Rattle.swf_engine.proofs.engine.Engine.submit.Goals as goal

pub returns-clause-place : goal.returns-clause-place
returns-clause-place g c =
    where_usable c.add_label.result _ _ c.add_label.ensures.place
    (λ p. engine_of (g.S.Store.seen c.add_label.new.store) c.add_label.new.journal c.add_label.new.world.world c.add_label.ensures.file p)
