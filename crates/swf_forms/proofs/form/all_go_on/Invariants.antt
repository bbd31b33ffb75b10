use Rattle.std.proofs.Common.{◌≡◌, drop}
use Rattle.std.specs.List.{list_all}
use Rattle.swf_expr.specs.Name.{goes_on_name}
use Rattle.swf_forms.proofs.form.all_go_on.Given as goal

abbrev pub invariant-loop-character : goal.invariant-loop-character
invariant-loop-character l = list_all goes_on_name l.text ≡ list_all goes_on_name (drop l.character-index l.text)
