use Rattle.std.proofs.Common.{◌∙◌, ap, sym, List}
use Rattle.std.proofs.lemmas.List.{drop_all}
use Rattle.swf_document.specs.declared.document.NamedRetry.{NamedRetry}
use Rattle.swf_scope.specs.Names.{added_from, retry_names}
use Rattle.swf_scope.specs.NamesView.{places_in}
use Rattle.swf_scope.proofs.NamesLemmas.{all_found}
use Rattle.swf_scope.proofs.names.names_of_retries.Goals as goal

pub returns : goal.returns
returns c =
    ap (λ (ns : List NamedRetry). added_from (places_in c.loop-place.names) c.loop-place.place (retry_names ns)) (sym (drop_all c.loop-place.place c.args.retries.now c.loop-place-test.false)) ∙ c.loop-place.invariant ∙ all_found (retry_names c.args.retries.now)
