-- The names of built-ins and how many arguments they have.
use Rattle.std.proofs.Common.{◌≡◌, ◌∙◌, ◌==◌, ◌<◌, ◌≤◌, ◌⊎◌, ◌+◌, ℕ, zero, suc, List, [], ◌∷◌, true, false, refl, ap, sym, nat_le, Option, Some, None, subst, arith, inl, inr}
use Rattle.std.proofs.lemmas.Bool.{cases_Bool, cases_order, eqb-true, and_parts}
use Rattle.std.proofs.lemmas.Bool.Decides.{nat_tests}
use Rattle.std.specs.List.{list_all}
use Rattle.std.specs.Str.{encode_utf8_all}
use Rattle.swf_expr.specs.Builtin.{arity, all_builtins, is_of, first_of, builtin_of}
use Rattle.swf_expr.specs.declared.builtin.Builtin.{Builtin}
use Rattle.swf_jq_parse.specs.Parts.{named, is_called}
use Rattle.swf_jq_parse.proofs.Binding.{other}

none_unless : {A : Type 0} (o : Option A) → ((a : A) → o ≡ Some a → ⊥) → o ≡ None
none_unless None h = refl
none_unless (Some a) h = absurd (h a refl)

-- a built-in found among such as have few arguments has that few
found_few : (bs : List Builtin) (y : List ℕ) (n : ℕ) (b : Builtin) → list_all (λ c. nat_le (arity c) 2) bs ≡ true → first_of bs y n ≡ Some b → nat_le n 2 ≡ true
found_few [] y n b all h = cc h
found_few (c ∷ bs) y n b all h = elim (cases_Bool (is_of c y n)) [
  | inl this ↦ subst (λ (k : ℕ). nat_le k 2 ≡ true) (eqb-true (arity c) n (and_parts (arity c == n) _ this).0) (and_parts (nat_le (arity c) 2) _ all).0
  | inr others ↦ found_few bs y n b (and_parts (nat_le (arity c) 2) _ all).1 (sym (other (is_of c y n) (Some c) (first_of bs y n) others) ∙ h)
]

named_few : (x : List ℕ) (n : ℕ) (b : Builtin) → named x n ≡ Some b → nat_le n 2 ≡ true
unfolding builtin_of
named_few x n b known = found_few all_builtins (encode_utf8_all x) n b refl known

none_above : (x : List ℕ) (n : ℕ) → 2 < n → named x n ≡ None
none_above x n above = none_unless (named x n) (λ b is. let few : nat_le n 2 ≡ true = named_few x n b is in grind (arith, nat_tests))

-- the name may have so many arguments, or more
abbrev pub Form : List ℕ → ℕ → Type 0
Form x k = (n : ℕ) × (b : Builtin) × (k ≤ n) × (named x n ≡ Some b)

pub form_from : (d : ℕ) (x : List ℕ) (k : ℕ) → 3 ≤ k + d → Form x k ⊎ ((n : ℕ) → k ≤ n → named x n ≡ None)
form_from zero x k far = inr (λ n up. none_above x n (omega arith))
form_from (suc d) x k far = look (named x k) refl (form_from d x (suc k) (omega arith))
  where
    look : (o : Option Builtin) → named x k ≡ o → Form x (suc k) ⊎ ((n : ℕ) → k < n → named x n ≡ None) → Form x k ⊎ ((n : ℕ) → k ≤ n → named x n ≡ None)
    look (Some b) is more = inl (k, b, omega arith, is)
    look None is (inl f) = inl (f.0, f.1, omega arith, f.3)
    look None is (inr none) = inr (λ n up. elim (cases_order k n) [
      | inl same ↦ ap (named x) (sym same) ∙ is
      | inr (inl less) ↦ none n less
      | inr (inr more) ↦ absurd (omega arith)
    ])

-- ---- whether some built-in has a name

pub is_known : (x : List ℕ) (n : ℕ) (b : Builtin) → named x n ≡ Some b → is_called x ≡ true
unfolding is_called
is_known x zero b h = cc
is_known x (suc zero) b h = grind arith
is_known x (suc (suc zero)) b h = grind arith
is_known x (suc (suc (suc n))) b h = let none : named x (suc (suc (suc n))) ≡ None = none_above x (suc (suc (suc n))) (omega arith) in cc

pub some_form : (x : List ℕ) → is_called x ≡ true → Form x 0
unfolding is_called
some_form x h = elim (form_from 3 x 0 (omega arith)) [
  | inl form ↦ form
  | inr none ↦ let no : named x 0 ≡ None = none 0 (omega arith) in let nor : named x 1 ≡ None = none 1 (omega arith) in let nor_two : named x 2 ≡ None = none 2 (omega arith) in cc
]

pub no_form : (x : List ℕ) → is_called x ≡ false → (n : ℕ) → named x n ≡ None
no_form x h n = none_unless (named x n) (λ b is. let known : true ≡ false = sym (is_known x n b is) ∙ h in cc known)
