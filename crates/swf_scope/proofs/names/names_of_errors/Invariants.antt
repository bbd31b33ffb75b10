use Rattle.std.proofs.Common.{◌≡◌, drop}
use Rattle.swf_scope.specs.NamesView.{places_in}
use Rattle.swf_scope.specs.Names.{nowhere, added_from, error_names}
use Rattle.swf_scope.proofs.names.names_of_errors.Given as goal

abbrev pub invariant-loop-place : goal.invariant-loop-place
invariant-loop-place l = added_from (places_in l.names) l.place (error_names (drop l.place l.errors)) ≡ added_from nowhere 0 (error_names l.errors)
