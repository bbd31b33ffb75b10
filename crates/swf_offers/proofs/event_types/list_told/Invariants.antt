use Rattle.std.proofs.Common.{◌≡◌, ◌++◌, take}
use Rattle.swf_offers.specs.EventTypes.{types_told}
use Rattle.swf_offers.proofs.event_types.list_told.Given as goal

abbrev pub invariant-loop-filter : goal.invariant-loop-filter
invariant-loop-filter l = l.types.items ≡ l.fn.types.items ++ types_told (take l.filter-index l.filters)
