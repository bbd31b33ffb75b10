-- The places that a map of names holds.
use Rattle.indexmap.specs.IndexMap.{get}
use Rattle.swf_text.specs.Same.{same}
use Rattle.swf_scope.specs.Names.{Places}
use Rattle.swf_scope.specs.declared.names.Names.{Names}

abbrev pub places_in : Names → Places
places_in s = get same s.places
