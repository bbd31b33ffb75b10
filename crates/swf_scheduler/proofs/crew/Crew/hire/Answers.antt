use Rattle.std.proofs.Common.{◌<◌, length, ap, arith, ◌∙◌, rules}
use Rattle.swf_scheduler.specs.Rule.{most_seats}
use Rattle.swf_scheduler.specs.Hired.{tool_of}
use Rattle.swf_scheduler.proofs.Steps.{forks}
use Rattle.swf_scheduler.proofs.Crews.{map_length, has_parts, hires}
use Rattle.swf_scheduler.proofs.crew.Crew.hire.Goals as goal

pub another-pass-requires-clause-rule : goal.another-pass-requires-clause-rule
another-pass-requires-clause-rule g c =
    let few : length c.self.inside.hired.items < most_seats = (let e = ap (λ v. length v.tools) c.self.view_is in let r = c.requires.few in omega (arith, map_length tool_of c.self.inside.hired.items)) in
    forks _ _ (has_parts g.W.Work.gives g.O.Outlet.offered _ _ _ _ _ _ c.self.invariant few)

pub invariant_of-self-2 : goal.invariant_of-self-2
invariant_of-self-2 g c =
    let few : length c.self.inside.hired.items < most_seats = (let e = ap (λ v. length v.tools) c.self.view_is in let r = c.requires.few in omega (arith, map_length tool_of c.self.inside.hired.items)) in
    rw c.count.ensures
    (hires g.W.Work.gives g.O.Outlet.offered _ _ _ _ _ _ _ _ c.hire-hired.result c.self.invariant few c.another-pass.ensures.channel.0 c.another-pass.ensures.rule.0 (search rules) (c.hire-hired.ensures.bound.0 ∙ c.in_ok-from.ensures, c.hire-hired.ensures.bound.1))
