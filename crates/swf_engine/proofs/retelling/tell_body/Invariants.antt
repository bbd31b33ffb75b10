use Rattle.std.proofs.Common.{ℕ, List, ◌++◌, take}
use Rattle.swf_meaning.specs.declared.label.Label.{Label}
use Rattle.swf_engine.specs.Retelling.{IsTold}
use Rattle.swf_engine.proofs.retelling.tell_body.Given as goal

-- the labels so far are told
abbrev pub invariant-loop-label : goal.invariant-loop-label
invariant-loop-label l = (place : ℕ) (before : List Label) → IsTold place before l.fn.told.pass l.fn.told.values.items → IsTold place (before ++ take l.label-index l.label-items) l.told.pass l.told.values.items
