use Rattle.std.proofs.Common.{◌≡◌, map, take}
use Rattle.swf_cycles.specs.Search.{is_closed_true}
use Rattle.swf_cycles.proofs.search.Search.answers.Given as goal

abbrev pub invariant-loop-stage : goal.invariant-loop-stage
invariant-loop-stage l = l.answers.items ≡ map is_closed_true (take l.stage-index l.self.stages.items)
