use Rattle.std.proofs.Common.{◌≡◌, drop}
use Rattle.swf_forms.specs.declared.form.Brace.TheVariants.{Outside}
use Rattle.swf_forms.specs.Forms.{brace_in}
use Rattle.swf_forms.proofs.form.is_pattern.Given as goal

abbrev pub invariant-loop-character : goal.invariant-loop-character
invariant-loop-character l = brace_in Outside l.text ≡ brace_in l.brace (drop l.character-index l.text)
