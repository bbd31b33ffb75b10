use Rattle.std.proofs.Common.{rules}
use Rattle.std.proofs.lemmas.Fn.{always_returns_same}
use Rattle.swf_value.specs.Value.{Value}
use Rattle.swf_jq_builtins.proofs.StableSorts.{weak, sorted_is}
use Rattle.swf_jq_builtins.proofs.sorting.sort_values.Goals as goal

pub returns : goal.returns
returns c =
    let sorting = c.in_ok-sort_by.ensures in
    let answers = always_returns_same _ _ _ (λ a r f k. search rules) in
    let up = sorting.sorted _ (weak (λ (v : Value). v)) answers in
    record {
      is = sorted_is (λ (v : Value). v) c.args.values.now.items c.sort_by.new.self.items up (sorting.stable _ (weak (λ (v : Value). v)) answers);
      ascending = up;
    }
