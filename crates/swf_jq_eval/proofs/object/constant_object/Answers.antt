use Rattle.std.proofs.Common.{rules, ◌≡◌, ◌+◌, ◌<◌, Err, length, sym, subst}
use Rattle.swf_jq_eval.specs.declared.outputs.Stop.TheVariants.{Limit}
use Rattle.swf_value.specs.Value.{object, no_members}
use Rattle.swf_jq_eval.specs.Names.{names}
use Rattle.swf_evaluation.specs.Outputs.{objects}
use Rattle.swf_evaluation.specs.Turns.{limit}
use Rattle.swf_jq_eval.specs.Goes.{Goes}
use Rattle.swf_jq_eval.proofs.Constants.{keys_stop, values_stop}
use Rattle.swf_jq_eval.proofs.object.constant_object.Goals as goal

pub returns-in_err-count : goal.returns-in_err-count
returns-in_err-count c =
    let s : c.from_residual.result ≡ Err Limit = search rules in
    let l : limit < c.args.out.now.turns + length c.members.result.now = search rules in
    subst (λ a. Goes c.args.out.now (objects c.args.constant.now (object no_members) (names c.args.at.now) c.args.at.now.input.now) (record { turns = c.count.new.turns; values = c.args.out.now.values }) a) (sym s)
    (keys_stop c.args.constant.now c.members.result.now c.object-made.result.now (names c.args.at.now) c.args.at.now.input.now c.args.out.now c.members.ensures c.object-made.ensures l)

pub returns-in_err-count-2 : goal.returns-in_err-count-2
returns-in_err-count-2 c =
    let s : c.from_residual-in_err-count-2.result ≡ Err Limit = search rules in
    let k : c.count.new.turns ≡ c.args.out.now.turns + length c.members.result.now = search rules in
    let l : limit < c.count.new.turns + length c.members.result.now = search rules in
    subst (λ a. Goes c.args.out.now (objects c.args.constant.now (object no_members) (names c.args.at.now) c.args.at.now.input.now) (record { turns = c.count-2.new.turns; values = c.args.out.now.values }) a) (sym s)
    (values_stop c.args.constant.now c.members.result.now c.object-made.result.now (names c.args.at.now) c.args.at.now.input.now c.args.out.now c.count.new.turns c.members.ensures c.object-made.ensures k l)
