use Rattle.std.proofs.Common.{◌≡◌, ◌+◌, drop}
use Rattle.swf_duration.specs.Duration.{digits_in}
use Rattle.swf_duration.proofs.duration.digits_in.Given as goal

abbrev pub invariant-loop-place : goal.invariant-loop-place
invariant-loop-place l = digits_in l.text ≡ l.place + digits_in (drop l.place l.text)
