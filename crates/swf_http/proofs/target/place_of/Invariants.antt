use Rattle.std.proofs.Common.{◌≡◌, drop}
use Rattle.swf_http.specs.Targets.{run}
use Rattle.swf_http.specs.declared.target.Place.TheVariants.{Blank}
use Rattle.swf_http.proofs.target.place_of.Given as goal

abbrev pub invariant-loop-b : goal.invariant-loop-b
invariant-loop-b l = run l.place (drop l.b-index l.bytes) ≡ run Blank l.bytes
