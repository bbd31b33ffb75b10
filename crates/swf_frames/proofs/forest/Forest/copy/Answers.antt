use Rattle.std.proofs.Common.{◌∙◌, ap, sym, subst}
use Rattle.swf_frames.specs.Stacks.{rows as rows_of, strands_of}
use Rattle.swf_frames.specs.Kin.{IsForest}
use Rattle.swf_frames.proofs.forest.Forest.copy.Goals as goal

pub invariant_of-result : goal.invariant_of-result
invariant_of-result g c =
    let rows = c.in_ok-stacks.ensures ∙ ap rows_of c.deref.ensures.value in
    subst (λ rs. IsForest rs c.self.inside.next) (sym rows) c.self.invariant

pub returns : goal.returns
returns g c =
    let rows = c.in_ok-stacks.ensures ∙ ap rows_of c.deref.ensures.value in
    rw (← c.self.view_is) (ap (λ x. record { next = c.self.inside.next; strands = x }) (ap strands_of rows))
