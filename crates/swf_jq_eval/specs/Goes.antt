-- What a part of an evaluation has done to its outputs and to its turns.
use Rattle.std.specs.Prelude.{◌≡◌, ◌+◌, ◌<◌, ◌≤◌, [], Result, Ok, Err}
use Rattle.swf_jq_eval.specs.declared.outputs.Ending.{Ending as Ends}
use Rattle.swf_jq_eval.specs.declared.outputs.Ending.TheVariants as endings
use Rattle.swf_jq_eval.specs.declared.outputs.Stop.{Stop}
use Rattle.swf_jq_eval.specs.declared.outputs.Stop.TheVariants as stops
use Rattle.swf_jq_eval.specs.declared.outputs.Out.{Out}
use Rattle.swf_jq_eval.specs.declared.outputs.Outputs.{Outputs}
use Rattle.swf_evaluation.specs.Turns.{limit}
use Rattle.swf_evaluation.specs.Run.{Ending, clean, raised, Run, gave, spend, prefixed}

abbrev pub ending_of : Ends → Ending
ending_of endings.Clean = clean
ending_of (endings.Raised m) = raised m

-- what is there, and then this
abbrev pub ahead : Out → Run → Run
ahead o s = spend o.turns (prefixed o.values.items s)

-- what a run adds to what is there
abbrev pub Goes : Out → Run → Out → Result Ends Stop → Type 0
Goes old s new (Ok e) = ahead new (gave [] (ending_of e)) ≡ ahead old s
Goes old s new (Err stops.Limit) = limit < old.turns + s.turns
Goes old s new (Err stops.OutOfMemory) = Unit {0}

-- all outputs of a run, which are kept apart
abbrev pub Comes : Out → Run → Out → Result Outputs Stop → Type 0
Comes old s new (Ok o) = (new.values.items ≡ old.values.items) × (spend new.turns (gave o.values.items (ending_of o.end)) ≡ spend old.turns s)
Comes old s new (Err stops.Limit) = limit < old.turns + s.turns
Comes old s new (Err stops.OutOfMemory) = Unit {0}

-- what an evaluation gives, unless it takes too many turns
abbrev pub IsAnswer : Run → Result Outputs Stop → Type 0
IsAnswer s (Ok o) = (o.values.items ≡ s.values) × (ending_of o.end ≡ s.end) × (s.turns ≤ limit)
IsAnswer s (Err stops.Limit) = limit < s.turns
IsAnswer s (Err stops.OutOfMemory) = Unit {0}
