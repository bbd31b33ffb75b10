use Rattle.std.proofs.Common.{◌∙◌, ap, arith}
use Rattle.std.specs.Prelude.{is_some}
use Rattle.swf_meaning.specs.Next.{task_at}
use Rattle.swf_catalog.proofs.NumberLemmas.{count-some}
use Rattle.swf_catalog.proofs.numbering.add_own.Goals as goal

pub invariant_of-push : goal.invariant_of-push
invariant_of-push c =
    record { listed = ap (λ ts. is_some (task_at ts c.loop-place.place)) c.in_ok-copy.ensures ∙ count-some c.args.tasks.now c.loop-place.place (omega (arith, c.loop-place-test.true, c.requires)) }
