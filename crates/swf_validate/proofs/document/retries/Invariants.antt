use Rattle.std.proofs.Common.{◌≡◌, ◌++◌, ◌∷◌, [], drop, codes}
use Rattle.swf_validate.specs.DocumentFaults.{retries_faults}
use Rattle.swf_validate.proofs.document.retries.Given as goal

abbrev pub invariant-loop-one : goal.invariant-loop-one
invariant-loop-one l =
    l.out ++ retries_faults (codes "use" ∷ codes "retries" ∷ []) (drop l.one-index l.given) ≡ l.fn.out ++ retries_faults (codes "use" ∷ codes "retries" ∷ []) l.given
