use Rattle.swf_world.proofs.RefusalLaws.{taken_somewhere, somewhere_taken}
use Rattle.swf_world.proofs.laws.refusal_laws.Goals as goal

pub returns : goal.returns
returns c = λ w l. (taken_somewhere w l, somewhere_taken w l)
