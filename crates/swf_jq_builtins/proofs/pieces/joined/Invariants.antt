use Rattle.std.proofs.Common.{◌≡◌, ◌++◌, drop, flat_map}
use Rattle.std.specs.List.{join_by}
use Rattle.swf_jq_builtins.proofs.pieces.joined.Given as goal

abbrev pub invariant-loop-i : goal.invariant-loop-i
invariant-loop-i l = l.draft ++ flat_map (λ y. l.separator ++ y) (drop l.i l.pieces) ≡ join_by (λ t. t) l.separator l.pieces
