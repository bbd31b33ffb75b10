use Rattle.std.proofs.Common.{rules, ◌∙◌}
use Rattle.std.proofs.lemmas.Fn.{dedup_same}
use Rattle.swf_jq_builtins.proofs.Onces.{equals_before, dedup_is}
use Rattle.swf_jq_builtins.proofs.sorting.once.Goals as goal

pub returns : goal.returns
returns c = dedup_same _ equals_before _ (λ x y b f' x' y' k. search rules) _ _ c.dedup_by.ensures.filtered ∙ dedup_is _
