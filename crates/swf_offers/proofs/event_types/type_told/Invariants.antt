use Rattle.std.proofs.Common.{◌≡◌, drop}
use Rattle.swf_offers.specs.EventTypes.{type_told}
use Rattle.swf_offers.proofs.event_types.type_told.Given as goal

-- the attributes that are left decide
abbrev pub invariant-loop-attribute : goal.invariant-loop-attribute
invariant-loop-attribute l = type_told l.attributes ≡ type_told (drop l.attribute-index l.attributes)
