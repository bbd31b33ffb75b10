use Rattle.std.proofs.Common.{◌≡◌, drop}
use Rattle.swf_scope.specs.NamesView.{places_in}
use Rattle.swf_scope.specs.Names.{nowhere, added_from, retry_names}
use Rattle.swf_scope.proofs.names.names_of_retries.Given as goal

abbrev pub invariant-loop-place : goal.invariant-loop-place
invariant-loop-place l = added_from (places_in l.names) l.place (retry_names (drop l.place l.retries)) ≡ added_from nowhere 0 (retry_names l.retries)
