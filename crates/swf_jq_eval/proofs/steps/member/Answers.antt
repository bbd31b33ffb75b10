use Rattle.std.proofs.Common.{◌≡◌, ◌+◌, ap}
use Rattle.swf_evaluation.specs.Operations.{index_of}
use Rattle.swf_jq_eval.specs.declared.outputs.Out.{Out}
use Rattle.swf_evaluation.specs.Run.{answered}
use Rattle.swf_jq_eval.proofs.Runs.{turn_on}
use Rattle.swf_jq_eval.proofs.steps.member.Goals as goal

pub returns : goal.returns
returns c =
    let old = c.args.out.now in
    let mid : Out = record { turns = c.count.new.turns; values = old.values } in
    let k : mid ≡ record { turns = old.turns + 1; values = old.values } = ap (λ t. record { turns = t; values = old.values }) c.in_ok-count.ensures.0 in
    turn_on old mid c.answer.new.out (answered (index_of c.args.input.now c.args.key.now)) c.answer.result k (c.answer.ensures _ c.index.ensures)
