use Rattle.std.proofs.Common.{◌≡◌, Some, take}
use Rattle.swf_runs.specs.Runs.{run_from}
use Rattle.swf_engine.proofs.replay.replay.Given as goal

-- the labels so far led to this world
abbrev pub invariant-loop-number : goal.invariant-loop-number
invariant-loop-number l = run_from l.fn.world.world (take l.number l.labels) ≡ Some l.world.world
