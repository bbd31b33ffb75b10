use Rattle.std.proofs.Common.{◌∙◌, ap}
use Rattle.std.specs.Prelude.{is_some}
use Rattle.swf_meaning.specs.Next.{task_at}
use Rattle.swf_catalog.proofs.TaskLemmas.{task_at-length}
use Rattle.swf_catalog.proofs.numbered.NumberedDocument.parts.Goals as goal

pub at-requires : goal.at-requires
at-requires c =
    task_at-length c.as_slice.result.now c.in-Some.row.now.place (ap (λ ts. is_some (task_at ts c.in-Some.row.now.place)) c.as_slice.ensures ∙ c.in-Some.row.now.listed)
