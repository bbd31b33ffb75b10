-- The last part of a place.
use Rattle.std.proofs.Common.{◌≡◌, ◌∙◌, ℕ, List, [], ◌∷◌, ◌++◌, refl, ap}
use Rattle.swf_meaning.specs.Line.{last_part}

last_part-append : (ps : List (List ℕ)) (x : List ℕ) → last_part (ps ++ x ∷ []) ≡ x
last_part-append [] x = refl
last_part-append (p ∷ []) x = refl
last_part-append (p ∷ q ∷ ps) x = last_part-append (q ∷ ps) x

pub last_part_is : (ps rest : List (List ℕ)) (x : List ℕ) → ps ≡ rest ++ x ∷ [] → last_part ps ≡ x
last_part_is ps rest x h = ap last_part h ∙ last_part-append rest x
