use Rattle.std.proofs.Common.{◌≡◌, ◌+◌, drop, not}
use Rattle.std.specs.List.{position_or_len}
use Rattle.swf_text.specs.Ascii.{is_digit}
use Rattle.swf_cloudevents.proofs.time.digits_in.Given as goal

abbrev pub invariant-loop-place : goal.invariant-loop-place
invariant-loop-place l = position_or_len (λ c. not (is_digit c)) l.text ≡ l.place + position_or_len (λ c. not (is_digit c)) (drop l.place l.text)
