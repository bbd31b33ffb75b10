use Rattle.std.proofs.Common.{subst, sym, ap, ◌∙◌, ℕ, List, Option, IfSome}
use Rattle.swf_instances.specs.Queued.{CanGoAt}
use Rattle.swf_runs.specs.Runs.{is_quiet}
use Rattle.swf_world.proofs.NextLemmas.{goes_loud}
use Rattle.swf_world.proofs.world.World.prepare_next.Goals as goal

pub step_at-requires : goal.step_at-requires
step_at-requires c =
    let p = subst (λ (o : Option (ℕ × List ℕ)). IfSome o (λ p. CanGoAt c.next_step.new.self.moment c.next_step.new.self.instances p.0 p.1)) c.in-Some.is c.in_ok-number.ensures.some in
    subst (λ w. CanGoAt w.now w.instances c.in-Some.number c.in-Some.strand) (sym c.make_room.ensures.same) p

pub returns-clause-loud : goal.returns-clause-loud
returns-clause-loud c =
    let p = subst (λ (o : Option (ℕ × List ℕ)). IfSome o (λ p. CanGoAt c.next_step.new.self.moment c.next_step.new.self.instances p.0 p.1)) c.in-Some.is c.in_ok-number.ensures.some in
    ap is_quiet c.make_room.ensures.same ∙ goes_loud c.next_step.new.self.moment c.next_step.new.self.instances c.in-Some.number c.in-Some.strand p
