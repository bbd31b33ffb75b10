use Rattle.std.proofs.Common.{◌≡◌, ◌++◌, take}
use Rattle.swf_scene.proofs.sight.push_variables.Given as goal

abbrev pub invariant-loop-one : goal.invariant-loop-one
invariant-loop-one l = l.variables.items ≡ l.fn.variables.items ++ take l.one-index l.more
