use Rattle.std.proofs.Common.{rules}
use Rattle.std.proofs.lemmas.Fn.{always_returns_same}
use Rattle.swf_value.specs.Value.{Value}
use Rattle.swf_jq_builtins.proofs.StableSorts.{weak, sorted_is}
use Rattle.swf_jq_builtins.proofs.sorting.sort_pairs.Goals as goal

pub returns : goal.returns
returns c =
    let sorting = c.in_ok-sort_by.ensures in
    let answers = always_returns_same _ _ _ (λ a r f k. search rules) in
    let key = λ (p : Value × Value). p.0 in
    sorted_is key c.args.pairs.now.items c.sort_by.new.self.items (sorting.sorted _ (weak key) answers) (sorting.stable _ (weak key) answers)
