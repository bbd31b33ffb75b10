-- The tasks that run on a strand.
use Rattle.std.proofs.Common.{◌≡◌, List, ◌++◌, Option, Some, None, refl, sym, append-nil}
use Rattle.std.specs.Prelude.{option_to_list}
use Rattle.swf_stack.specs.Stands.{inward}
use Rattle.swf_stack.specs.declared.made.Frame.{Frame}

-- with one more inside them, where there is one
pub inward-more : (fs : List Frame) (o : Option Frame) → inward (option_to_list o ++ fs) ≡ inward fs ++ option_to_list o
inward-more fs None = sym (append-nil (inward fs))
inward-more fs (Some f) = refl
