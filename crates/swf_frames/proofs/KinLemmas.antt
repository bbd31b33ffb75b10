-- What each strand knows of its children.
use Rattle.std.proofs.Common.{◌≡◌, ◌∙◌, refl, ap, subst, ℕ, zero, suc, ◌+◌, ◌<◌, ◌≤◌, if◌then◌else◌, Bool, true, false, List, [], ◌∷◌, Some, None, drop, slice_get, set, arith}
use Rattle.std.proofs.lemmas.Option.{same_Some}
use Rattle.swf_frames.specs.Tree.{Strands, strand, no_strands, numbers, changed}
use Rattle.swf_frames.specs.Stacks.{Row, links, Rises, is_child_of, under}
use Rattle.swf_frames.specs.Kin.{numbers_from, KnowChildren}
use Rattle.swf_frames.proofs.ChangeLemmas.{changes}
use Rattle.swf_frames.proofs.SiftLemmas.{lower}
use Rattle.swf_frames.proofs.SplitLemmas.{below_next}

pub from_within : (first count k : ℕ) → k < count → slice_get (numbers_from first count) k ≡ Some (first + k)
from_within first zero k l = absurd (omega arith)
from_within first (suc count) zero l = let e : first ≡ first + 0 = omega arith in ap Some e
from_within first (suc count) (suc k) l =
    let e : suc first + k ≡ first + suc k = omega arith in
    from_within (suc first) count k (omega arith) ∙ ap Some e

pub from_past : (first count k : ℕ) → count ≤ k → slice_get (numbers_from first count) k ≡ None
from_past first zero k l = refl
from_past first (suc count) zero l = absurd (omega arith)
from_past first (suc count) (suc k) l = from_past (suc first) count k (omega arith)

module _ {F : Type 0} where
  numbers_changed : (f : List F → List F) (x : Strands F) (n : ℕ) → numbers (changed f x n) ≡ numbers x
  numbers_changed f no_strands n = refl
  numbers_changed f (strand m fs below after) n = ap (λ ms. m ∷ ms) (numbers_changed f after n)

  -- those below a strand are of the forest
  low_step : (b : Bool) (m next k z : ℕ) (fs : List F) (x y : Strands F) → m < next → ((j : ℕ) → slice_get (numbers y) j ≡ Some z → z < next) → slice_get (numbers (if b then strand m fs x y else y)) k ≡ Some z → z < next
  low_step false m next k z fs x y l f e = f k e
  low_step true m next zero z fs x y l f e = subst (λ w. w < next) (same_Some m z e) l
  low_step true m next (suc k) z fs x y l f e = f k e

  pub numbers_low : (rs : List (Row F)) (low next : ℕ) → Rises low (links rs) next → (p k z : ℕ) → slice_get (numbers (under p rs)) k ≡ Some z → z < next
  numbers_low [] low next r p k z e = cc
  numbers_low (x ∷ xs) low next r p k z e =
      low_step (is_child_of p x.parent) x.number next k z x.frames (under x.number xs) (under p xs) (below_next (x ∷ xs) low next r 0 x refl)
      (λ j. numbers_low xs (suc x.number) next r.1 p j z) e

  pub rises_rest : (rs : List (Row F)) (low next : ℕ) → Rises low (links rs) next → (i : ℕ) → Rises 0 (links (drop i rs)) next
  rises_rest rs low next r zero = lower rs low 0 next (omega arith) r
  rises_rest [] low next r (suc i) = lower {F = F} [] low 0 next (omega arith) r
  rises_rest (x ∷ xs) low next r (suc i) = rises_rest xs (suc x.number) next r.1 i

  pub known_at : (rs : List (Row F)) → KnowChildren rs → (i : ℕ) (r : Row F) → slice_get rs i ≡ Some r → numbers (under r.number (drop (suc i) rs)) ≡ numbers_from r.children.first r.children.count
  known_at [] h i r e = cc
  known_at (x ∷ xs) h zero r e = subst (λ (u : Row F). numbers (under u.number xs) ≡ numbers_from u.children.first u.children.count) (same_Some x r e) h.0
  known_at (x ∷ xs) h (suc i) r e = known_at xs h.1 i r e

  pub known_changed : (rs : List (Row F)) (low next : ℕ) → Rises low (links rs) next → (i : ℕ) (r : Row F) (v : List F) → slice_get rs i ≡ Some r → KnowChildren rs → KnowChildren (set rs i (record r { frames = v }))
  known_changed [] low next l i r v e h = cc
  known_changed (x ∷ xs) low next l zero r v e h = subst (λ (u : Row F). KnowChildren (record u { frames = v } ∷ xs)) (same_Some x r e) h
  known_changed (x ∷ xs) low next l (suc i) r v e h = (
    ap numbers (changes (λ _. v) xs (suc x.number) next l.1 i x.number r v e refl) ∙ (numbers_changed (λ _. v) (under x.number xs) r.number ∙ h.0),
    known_changed xs (suc x.number) next l.1 i r v e h.1,
  )
