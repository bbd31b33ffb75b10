use Rattle.std.proofs.Common.{◌≡◌, ◌++◌, drop, option_map}
use Rattle.swf_evaluation.specs.Builtins.{pieces_of}
use Rattle.swf_jq_builtins.proofs.pieces.pieces_of.Given as goal

abbrev pub invariant-loop-item : goal.invariant-loop-item
invariant-loop-item l = option_map (λ ts. l.pieces.items ++ ts) (pieces_of (drop l.item-index l.items)) ≡ pieces_of l.items
