-- The place that a chain of names and positions leads to.
use Rattle.std.specs.Prelude.{[]}
use Rattle.std.specs.Fmt.{decimal}
use Rattle.swf_scope.specs.Scope.{Spot, under}
use Rattle.swf_scope.specs.declared.spot.Spot.{Spot as Chain}
use Rattle.swf_scope.specs.declared.spot.Spot.TheVariants as spots

abbrev pub place_at : Chain → Spot
place_at spots.Root = []
place_at (spots.Task place) = place.now
place_at (spots.Word' p outer word) = under (place_at outer) word.now
place_at (spots.Name' p outer name) = under (place_at outer) name.now
place_at (spots.Item' p outer position) = under (place_at outer) (decimal position)
