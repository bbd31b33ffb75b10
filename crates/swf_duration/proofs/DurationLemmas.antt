-- Lengths that were capped on the way.
use Rattle.std.proofs.Common.{◌≡◌, ◌+◌, ◌*◌, ◌≤◌, ap, ℕ, List, [], ◌∷◌, length, Option, Some, None, option_map, refl, arith}
use Rattle.swf_value.specs.Node.{members_of}
use Rattle.swf_value.specs.declared.value.Member.{Member}
use Rattle.swf_duration.specs.Capped.{capped}
use Rattle.swf_duration.specs.Duration.{total, sum_of, members_length, used, within_longest}
use Rattle.swf_duration.specs.declared.duration.DurationFault.{DurationFault}

capped_plus : (m n : ℕ) → capped (capped m + capped n) ≡ capped (m + n)
capped_plus m n = omega arith

times_above : (u n : ℕ) → 1 ≤ u → 315360000001 ≤ n → 315360000001 ≤ u * n
times_above u n h k = grind arith

-- a product of what was capped
pub capped_times : (u n : ℕ) → 1 ≤ u → capped (u * capped n) ≡ capped (u * n)
capped_times u n h = grind (arith, times_above)

-- one member more
pub sum_step : (t n : ℕ) (o : Option ℕ) → option_map capped (total (Some t) (total (Some n) o)) ≡ option_map capped (total (Some (capped (t + capped n))) o)
sum_step t n None = refl
sum_step t n (Some m) = let e : capped (t + (n + m)) ≡ capped (capped (t + capped n) + m) = omega arith in ap Some e

pub capped_fraction : (u m n : ℕ) → 1 ≤ u → capped (capped (1000 * capped m) + capped (u * capped n)) ≡ capped (1000 * m + u * n)
capped_fraction u m n h = let a = capped_times 1000 m (omega arith) in let b = capped_times u n h in omega arith

-- a length that was capped, if all of the text was used
pub used_capped : (m n : ℕ) (t : List ℕ) → n ≡ capped m → used n t ≡ option_map capped (used m t)
used_capped m n [] e = ap Some e
used_capped m n (c ∷ cs) e = refl

-- what was capped is too long exactly where it was
pub within_capped : (f : DurationFault) (o : Option ℕ) → within_longest f (option_map capped o) ≡ within_longest f o
within_capped f None = refl
within_capped f (Some n) = grind arith

-- where there is a member, the length is the sum
pub some_members : (ms : List Member) → 1 ≤ length ms → members_length (members_of ms) ≡ sum_of (members_of ms)
some_members [] h = absurd (omega arith)
some_members (m ∷ ms) h = refl
