-- Texts that are empty.
use Rattle.std.proofs.Common.{◌≡◌, refl, ℕ, List, [], ◌∷◌, length, nat_lt, lt-ltb, not, cond, arith}
use Rattle.swf_text.specs.Same.{same}
use Rattle.swf_value.specs.Value.{text}
use Rattle.swf_cloudevents.specs.Faults.{text_faults}
use Rattle.swf_cloudevents.specs.declared.fault.FaultKind.TheVariants.{Empty}

pub not_empty : (t : List ℕ) → nat_lt 0 (length t) ≡ not (same t [])
not_empty [] = refl
not_empty (c ∷ t) = lt-ltb 0 (length (c ∷ t)) (omega arith)

pub text_faults_empty : (k t : List ℕ) → text_faults k (text t) ≡ cond (same t []) ((k, Empty) ∷ []) []
text_faults_empty k [] = refl
text_faults_empty k (c ∷ t) = refl
