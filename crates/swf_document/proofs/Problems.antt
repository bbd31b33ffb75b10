-- The order of the members of an error.
use Rattle.std.proofs.Common.{ℕ, pos, List, Option, Some, None, codes, refl}
use Rattle.swf_value.specs.Value.{Members, member, no_members, int, text, Ascending}
use Rattle.swf_document.specs.Errors.{given}

abbrev pub problem_members : List ℕ → ℕ → Option (List ℕ) → Option (List ℕ) → Option (List ℕ) → Members
problem_members u n t d i = given (codes "detail") d (given (codes "instance") i (member (codes "status") (int (pos n)) (given (codes "title") t (member (codes "type") (text u) no_members))))

-- the names stand in order
pub problem_ascends : (u : List ℕ) (n : ℕ) (t d i : Option (List ℕ)) → Ascending (problem_members u n t d i)
problem_ascends u n None None None = (refl, (tt, tt))
problem_ascends u n None None (Some i) = (refl, (refl, (tt, tt)))
problem_ascends u n None (Some d) None = (refl, (refl, (tt, tt)))
problem_ascends u n None (Some d) (Some i) = (refl, (refl, (refl, (tt, tt))))
problem_ascends u n (Some t) None None = (refl, (refl, (tt, tt)))
problem_ascends u n (Some t) None (Some i) = (refl, (refl, (refl, (tt, tt))))
problem_ascends u n (Some t) (Some d) None = (refl, (refl, (refl, (tt, tt))))
problem_ascends u n (Some t) (Some d) (Some i) = (refl, (refl, (refl, (refl, (tt, tt)))))
