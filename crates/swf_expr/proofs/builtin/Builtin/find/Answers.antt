use Rattle.swf_expr.specs.Builtin.{builtin_of}
use Rattle.swf_expr.proofs.builtin.Builtin.find.Goals as goal

pub returns : goal.returns
unfolding builtin_of
returns c = record { value = c.find_in.ensures.value; arity = c.find_in.ensures.arity }
