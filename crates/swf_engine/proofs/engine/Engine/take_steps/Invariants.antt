use Rattle.std.proofs.Common.{◌≡◌, [], is_some}
use Rattle.swf_engine.specs.Answers.{Went}
use Rattle.swf_engine.specs.Core.{IsEngineOf}
use Rattle.swf_engine.proofs.engine.Engine.take_steps.Given as goal

-- the steps so far, and what stays through them
abbrev pub invariant-loop-steps : goal.invariant-loop-steps
invariant-loop-steps g l =
    let S = g.S.Store in
    record {
      place : IsEngineOf (S.seen l.store) l.self;
      went : Went S.moment S.left_since S.said S.may_leave S.seen S.calls l.steps [] l.fn.store l.store l.fn.self l.self;
      said : S.said l.store ≡ S.said l.fn.store;
      beside : S.beside l.store ≡ S.beside l.fn.store;
      honest : is_some (S.seen l.store) ≡ is_some (S.seen l.fn.store);
      faults : S.store_faults l.store ≡ S.store_faults l.fn.store;
    }
