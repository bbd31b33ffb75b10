use Rattle.std.proofs.Common.{◌≡◌, ◌≤◌, drop}
use Rattle.swf_forms.specs.Forms.{end_of, end_from}
use Rattle.swf_forms.proofs.form.end_of.Given as goal

abbrev pub invariant-loop-place : goal.invariant-loop-place
invariant-loop-place l = record {
  end : end_of l.text ≡ end_from l.place l.end (drop l.place l.text);
  within : l.end ≤ l.place;
}
