use Rattle.std.proofs.Common.{subst}
use Rattle.swf_evaluation.specs.Builtins.{plain}
use Rattle.swf_jq_eval.specs.Goes.{Goes}
use Rattle.swf_jq_eval.proofs.Calls.{alone_other}
use Rattle.swf_jq_eval.proofs.call.alone.Goals as goal

pub returns-in_default : goal.returns-in_default
returns-in_default c =
    let b = c.args.builtin in
    let v = c.args.at.now.input.now in
    subst (λ s. Goes c.args.out.now s c.make_of.new.out c.make_of.result) (alone_other b v c.in_default.not-Empty c.in_default.not-Error) (c.make_of.ensures (plain b v) c.plain.ensures)
