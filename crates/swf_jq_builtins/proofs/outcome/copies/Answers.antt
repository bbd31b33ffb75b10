use Rattle.swf_jq_builtins.proofs.Lists.{where_so}
use Rattle.swf_jq_builtins.proofs.outcome.copies.Goals as goal

pub returns : goal.returns
returns c = where_so _ _ c.to_vec.result (λ x y e. e) c.to_vec.ensures.items_if_clones_equal
