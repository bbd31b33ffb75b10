use Rattle.std.proofs.Common.{◌≡◌, ◌∙◌, ◌+◌, ap, subst}
use Rattle.swf_evaluation.specs.Builtins.{range_of}
use Rattle.swf_jq_builtins.specs.Outcome.{count_of}
use Rattle.swf_jq_eval.specs.declared.outputs.Out.{Out}
use Rattle.swf_evaluation.specs.Run.{spend, spread}
use Rattle.swf_jq_eval.specs.Goes.{Goes}
use Rattle.swf_jq_eval.proofs.Applied.{ranged_is}
use Rattle.swf_jq_eval.proofs.Runs.{goes_from, made_on}
use Rattle.swf_jq_eval.proofs.steps.give_range.Goals as goal

pub returns : goal.returns
returns c =
    let old = c.args.out.now in
    let n = count_of (range_of c.args.from.now c.args.to.now) in
    let s = spread (range_of c.args.from.now c.args.to.now) in
    let mid : Out = record { turns = c.count.new.turns; values = old.values } in
    let k : mid ≡ record { turns = old.turns + n; values = old.values } = ap (λ t. record { turns = t; values = old.values }) (c.in_ok-count.ensures.0 ∙ ap (λ m. old.turns + m) c.range_len.ensures) in
    subst (λ t. Goes old t c.spread.new.out c.spread.result) (ranged_is c.args.from.now c.args.to.now)
    (goes_from old mid c.spread.new.out (spend n s) s c.spread.result (made_on old mid c.spread.new.out n s k) (c.spread.ensures _ c.range.ensures))
