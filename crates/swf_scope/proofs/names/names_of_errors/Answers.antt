use Rattle.std.proofs.Common.{◌∙◌, ap, sym, List}
use Rattle.std.proofs.lemmas.List.{drop_all}
use Rattle.swf_document.specs.declared.document.NamedError.{NamedError}
use Rattle.swf_scope.specs.Names.{added_from, error_names}
use Rattle.swf_scope.specs.NamesView.{places_in}
use Rattle.swf_scope.proofs.NamesLemmas.{all_found}
use Rattle.swf_scope.proofs.names.names_of_errors.Goals as goal

pub returns : goal.returns
returns c =
    ap (λ (ns : List NamedError). added_from (places_in c.loop-place.names) c.loop-place.place (error_names ns)) (sym (drop_all c.loop-place.place c.args.errors.now c.loop-place-test.false)) ∙ c.loop-place.invariant ∙ all_found (error_names c.args.errors.now)
