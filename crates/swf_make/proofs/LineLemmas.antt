-- The line of a number, how many lines there are, and numbers with commas between.
use Rattle.std.proofs.Common.{◌≡◌, ◌∙◌, ◌+◌, ◌-◌, ◌*◌, ◌<◌, ◌≤◌, ◌/◌, ◌%◌, ◌∷◌, ◌++◌, refl, sym, ap, ℕ, zero, suc, List, [], Some, None, length, slice_get, arith}
use Rattle.std.proofs.lemmas.List.{append_assoc}
use Rattle.std.proofs.lemmas.Option.{slice_get_past}
use Rattle.std.specs.Fmt.{decimal}
use Rattle.swf_make.specs.Generated.{lines_from, numbers, part, generated, instances}

-- the lines of an instance
first : (turns k n place : ℕ) → place < 3 → slice_get (lines_from turns k (suc n)) place ≡ Some (part turns k place)
first turns k n zero below = refl
first turns k n (suc zero) below = refl
first turns k n (suc (suc zero)) below = refl
first turns k n (suc (suc (suc place))) below = absurd (omega (arith, below))

-- stand in threes
in_threes : (turns k n j place : ℕ) → place < 3 → j < n → slice_get (lines_from turns k n) (3 * j + place) ≡ Some (part turns (k + j) place)
in_threes turns k zero j place below short = absurd (omega (arith, short))
in_threes turns k (suc n) zero place below short =
    let at : 3 * 0 + place ≡ place = omega arith in
    let instance : k ≡ k + 0 = omega arith in
    ap (slice_get (lines_from turns k (suc n))) at ∙ first turns k n place below ∙ ap (λ m. Some (part turns m place)) instance
in_threes turns k (suc n) (suc j) place below short =
    let at : 3 * suc j + place ≡ suc (suc (suc (3 * j + place))) = omega arith in
    let instance : k + 1 + j ≡ k + suc j = omega arith in
    ap (slice_get (lines_from turns k (suc n))) at ∙ in_threes turns (k + 1) n j place below (omega (arith, short)) ∙ ap (λ m. Some (part turns m place)) instance

-- and there are three of each
pub count : (turns k n : ℕ) → length (lines_from turns k n) ≡ 3 * n
count turns k zero = refl
count turns k (suc n) = let rest = count turns (k + 1) n in omega arith

at_place : (turns p : ℕ) → p / 3 < instances turns → slice_get (lines_from turns 0 (instances turns)) p ≡ Some (part turns (p / 3) (p % 3))
at_place turns p short =
    let split : p ≡ 3 * (p / 3) + p % 3 = omega arith in
    let instance : 0 + p / 3 ≡ p / 3 = omega arith in
    ap (slice_get (lines_from turns 0 (instances turns))) split ∙ in_threes turns 0 (instances turns) (p / 3) (p % 3) (omega arith) short ∙ ap (λ m. Some (part turns m (p % 3))) instance

-- the line of a number, and that there is none
pub at_number : (turns number : ℕ) → 0 < number → (number - 1) / 3 < instances turns → slice_get (generated turns) number ≡ Some (part turns ((number - 1) / 3) ((number - 1) % 3))
at_number turns zero there short = absurd (omega (arith, there))
at_number turns (suc p) there short =
    let e : suc p - 1 ≡ p = omega arith in
    at_place turns p (omega (arith, short, e)) ∙ ap (λ q. Some (part turns (q / 3) (q % 3))) (sym e)

pub past_number : (turns number : ℕ) → 0 < number → instances turns ≤ (number - 1) / 3 → slice_get (generated turns) number ≡ None
past_number turns number there past =
    slice_get_past (generated turns) number (let n = count turns 0 (instances turns) in omega (arith, n, there, past))

-- numbers with commas between, and one more
pub numbers_first : (xs : List ℕ) (start : ℕ) → (xs ++ numbers start 0) ++ decimal (start + 0) ≡ xs ++ numbers start 1
numbers_first xs start = append_assoc xs [] (decimal (start + 0))

pub numbers_next : (xs : List ℕ) (start place : ℕ) → 0 < place → ((xs ++ numbers start place) ++ 44 ∷ []) ++ decimal (start + place) ≡ xs ++ numbers start (place + 1)
numbers_next xs start zero there = absurd (omega (arith, there))
numbers_next xs start (suc n) there =
    let next : suc (suc n) ≡ suc n + 1 = omega arith in
    append_assoc (xs ++ numbers start (suc n)) (44 ∷ []) (decimal (start + suc n)) ∙ append_assoc xs (numbers start (suc n)) ((44 ∷ []) ++ decimal (start + suc n)) ∙ ap (λ m. xs ++ numbers start m) next

-- five texts one after another
five : (p k m n s : List ℕ) → (((p ++ k) ++ m) ++ n) ++ s ≡ p ++ (k ++ (m ++ (n ++ s)))
five p k m n s = append_assoc ((p ++ k) ++ m) n s ∙ append_assoc (p ++ k) m (n ++ s) ∙ append_assoc p k (m ++ (n ++ s))

pub five_by : (p k m n s a b d e f : List ℕ) → a ≡ p → b ≡ a ++ k → d ≡ b ++ m → e ≡ d ++ n → f ≡ e ++ s → f ≡ p ++ (k ++ (m ++ (n ++ s)))
five_by p k m n s a b d e f first second third fourth fifth =
    fifth ∙ ap (λ x. x ++ s) (fourth ∙ ap (λ x. x ++ n) (third ∙ ap (λ x. x ++ m) (second ∙ ap (λ x. x ++ k) first))) ∙ five p k m n s
