use Rattle.swf_meaning.specs.Pending.{open_calls}
use Rattle.swf_meaning.specs.World.{Instance}
use Rattle.std.proofs.Common.{◌∙◌, ◌++◌, ap}
use Rattle.swf_reports.proofs.StrandsLemmas.{told_more}
use Rattle.swf_reports.proofs.calls.open_calls.Goals as goal

pub loop-number-preserved : goal.loop-number-preserved
loop-number-preserved c =
    told_more (λ (i : Instance). open_calls i.node) c.args.instances.now.instances c.loop-number.number c.at.result.now _ _ c.at.ensures.there
    (c.in_ok-append.ensures.items ∙ ap (λ cs. c.loop-number.calls.items ++ cs) c.in_ok-more.ensures) c.loop-number.invariant
