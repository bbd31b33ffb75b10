-- Faults or none.
use Rattle.std.proofs.Common.{◌≡◌, refl, List, [], ◌∷◌, Ok, Err}
use Rattle.swf_document.specs.declared.document.Document.{Document}
use Rattle.swf_document.specs.declared.fault.Fault.{Fault}
use Rattle.swf_reader.specs.Answer.{answer}
use Rattle.swf_reader.specs.declared.document.ReadFault.TheVariants.{Faults}

pub answer_none : (fs : List Fault) (d : Document) → fs ≡ [] → answer fs d ≡ Ok d
answer_none [] d h = refl
answer_none (f ∷ fs) d h = cc

pub answer_some : (fs : List Fault) (d : Document) → (fs ≡ [] → ⊥) → answer fs d ≡ Err (Faults fs)
answer_some [] d h = absurd (h refl)
answer_some (f ∷ fs) d h = refl
