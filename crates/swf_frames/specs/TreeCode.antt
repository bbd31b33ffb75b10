-- A code for trees, by which a ghost name tells them apart.
use Rattle.std.specs.Prelude.{◌≡◌, ℕ, refl}
use Rattle.std.specs.Coded.{Coded, code_by, coded×, coded_ℕ, coded_list}
use base.Stored.{Gv, gnil, gnum, gcons}
use mathlib.Core.Path.{ap, sym, subst}
use Rattle.swf_frames.specs.Tree.{Strands, no_strands, strand, Tree}

abbrev head : Gv → Gv
head gnil = gnil
head (gnum n) = gnil
head (gcons a b) = a

abbrev tail : Gv → Gv
tail gnil = gnil
tail (gnum n) = gnil
tail (gcons a b) = b

abbrev IsCons : Gv → Type 0
IsCons gnil = ⊥
IsCons (gnum n) = ⊥
IsCons (gcons a b) = Unit {0}

module _ {F : Type 0} (c : Coded F) where
  abbrev pub code_strands : Strands F → Gv
  code_strands no_strands = gnil
  code_strands (strand m fs below after) =
      gcons (coded_ℕ.code m) (gcons ((coded_list c).code fs) (gcons (code_strands below) (code_strands after)))

  pub code_strands_inj : (x y : Strands F) → code_strands x ≡ code_strands y → x ≡ y
  code_strands_inj no_strands no_strands p = λ i. no_strands
  code_strands_inj (strand m fs a b) (strand n gs x y) p =
      λ i. strand
      (coded_ℕ.inj m n (ap head p) i)
      ((coded_list c).inj fs gs (ap (λ g. head (tail g)) p) i)
      (code_strands_inj a x (ap (λ g. head (tail (tail g))) p) i)
      (code_strands_inj b y (ap (λ g. tail (tail (tail g))) p) i)
  code_strands_inj no_strands (strand n gs x y) p = absurd (subst IsCons (sym p) tt)
  code_strands_inj (strand m fs a b) no_strands p = absurd (subst IsCons p tt)

  abbrev pub strands_code : Coded (Strands F)
  strands_code = record { code = code_strands; inj = code_strands_inj }

  abbrev pub tree_code : Coded (Tree F)
  tree_code =
      code_by (ℕ × Strands F) (coded× coded_ℕ strands_code) (λ t. (t.next, t.strands)) (λ p. record { next = p.0; strands = p.1 }) (λ _. refl)
