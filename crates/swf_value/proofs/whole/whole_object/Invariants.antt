use Rattle.std.proofs.Common.{◌≡◌, List, ◌++◌}
use Rattle.serde_json.specs.Data as json
use Rattle.swf_value.specs.Found.{MembersFound}
use Rattle.swf_value.proofs.Wholes.{Entry, ObjectLeft, names_of, keys_as_bytes}
use Rattle.swf_value.proofs.whole.whole_object.Given as goal

abbrev pub invariant-loop-name : goal.invariant-loop-name
invariant-loop-name l =
    ((ms : json.Members) → MembersFound ms l.fn.members.entries → ObjectLeft ms l.found.items l.name-iterator)
    × (done : List Entry) × (l.fn.members.entries ≡ done ++ l.name-iterator) × (names_of l.found.items ≡ keys_as_bytes done)
