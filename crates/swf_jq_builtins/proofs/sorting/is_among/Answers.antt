use Rattle.std.proofs.Common.{◌∙◌, rules}
use Rattle.std.proofs.lemmas.Fn.{always_returns_same}
use Rattle.swf_value.specs.Order.{value_cmp}
use Rattle.swf_jq_builtins.proofs.Searches.{search_tells}
use Rattle.swf_jq_builtins.proofs.sorting.is_among.Goals as goal

pub returns : goal.returns
returns c =
    let x = c.args.value.now in
    let found = c.binary_search_by.ensures.position (λ w. value_cmp w x) (always_returns_same _ _ _ (λ a r f k. search rules)) in
    c.is_ok.ensures.value ∙ search_tells c.args.values.now x c.binary_search_by.result c.requires c.binary_search_by.ensures.bound found
