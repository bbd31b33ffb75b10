use Rattle.std.proofs.Common.{◌≡◌, ◌-◌, length, drop}
use Rattle.swf_calls.specs.Headers.{place_in}
use Rattle.swf_calls.proofs.FieldLemmas.{later}
use Rattle.swf_calls.proofs.headers.place_of.Given as goal

abbrev pub invariant-fields : goal.invariant-fields
invariant-fields l = place_in l.name l.fields ≡ later l.place (place_in l.name (drop l.place l.fields))

abbrev pub decreases-fields : goal.decreases-fields
decreases-fields l = length l.fields - l.place
