use Rattle.std.proofs.Common.{◌≡◌, ◌+◌, drop}
use Rattle.std.specs.List.{position_or_len}
use Rattle.swf_forms.specs.Forms.{is_mark}
use Rattle.swf_forms.proofs.form.first_mark.Given as goal

abbrev pub invariant-loop-place : goal.invariant-loop-place
invariant-loop-place l = position_or_len is_mark l.text ≡ l.place + position_or_len is_mark (drop l.place l.text)
