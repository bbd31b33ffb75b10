use Rattle.std.proofs.Common.{◌≡◌, fold, drop}
use Rattle.swf_evaluation.specs.Builtins.{best, better}
use Rattle.swf_jq_builtins.proofs.arrays.best_of.Given as goal

abbrev pub invariant-loop-i : goal.invariant-loop-i
invariant-loop-i l = fold (better l.greatest) l.best (drop l.i l.items) ≡ best l.greatest l.items
