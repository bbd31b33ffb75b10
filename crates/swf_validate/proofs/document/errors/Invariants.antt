use Rattle.std.proofs.Common.{◌≡◌, ◌++◌, ◌∷◌, [], drop, codes}
use Rattle.swf_validate.specs.DocumentFaults.{errors_faults}
use Rattle.swf_validate.proofs.document.errors.Given as goal

abbrev pub invariant-loop-one : goal.invariant-loop-one
invariant-loop-one l =
    l.out ++ errors_faults (codes "use" ∷ codes "errors" ∷ []) (drop l.one-index l.given) ≡ l.fn.out ++ errors_faults (codes "use" ∷ codes "errors" ∷ []) l.given
