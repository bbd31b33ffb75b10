use Rattle.std.proofs.Common.{◌≡◌, drop}
use Rattle.std.specs.List.{list_all}
use Rattle.swf_forms.specs.Forms.{is_label_char}
use Rattle.swf_forms.proofs.form.all_label_chars.Given as goal

abbrev pub invariant-loop-byte : goal.invariant-loop-byte
invariant-loop-byte l = list_all is_label_char l.bytes ≡ list_all is_label_char (drop l.byte-index l.bytes)
