use Rattle.std.proofs.Common.{◌≡◌, ◌-◌, ◌≤◌, ◌==◌, ◌++◌, length, take, drop}
use Rattle.std.specs.List.{before_first}
use Rattle.swf_connect.proofs.content.before_semicolon.Given as goal

-- none so far, so those that are left decide
abbrev pub invariant-bytes : goal.invariant-bytes
invariant-bytes l = (l.end ≤ length l.bytes) × (take l.end l.bytes ++ before_first (λ b. b == 59) (drop l.end l.bytes) ≡ before_first (λ b. b == 59) l.bytes)

abbrev pub decreases-bytes : goal.decreases-bytes
decreases-bytes l = length l.bytes - l.end
