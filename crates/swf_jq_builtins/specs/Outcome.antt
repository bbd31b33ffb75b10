-- The answers that outcomes stand for.
use Rattle.std.specs.Prelude.{ℕ, List, length, Result, Ok, Err, codes}
use Rattle.swf_value.specs.Size.{size}
use Rattle.swf_value.specs.Value.{Value, text, object}
use Rattle.swf_jq_builtins.specs.declared.outcome.Outcome.{Outcome}
use Rattle.swf_jq_builtins.specs.declared.outcome.Outcome.TheVariants as outcomes
use Rattle.swf_jq_builtins.specs.declared.outcome.Several.{Several}
use Rattle.swf_jq_builtins.specs.declared.outcome.Several.TheVariants as several
use Rattle.swf_value.specs.Members.{put}
use Rattle.swf_evaluation.specs.Operations.{Answer, fails}

abbrev pub outcome_of : Outcome → Answer
outcome_of (outcomes.Value v) = Ok v
outcome_of (outcomes.Raised e) = Err e

abbrev pub several_of : Several → Result (List Value) Value
several_of (several.Values vs) = Ok vs.items
several_of (several.Raised e) = Err e

-- an object with one more member
abbrev pub put_in : Value → Value → Value → Answer
put_in (object ms) (text k) v = Ok (object (put k v ms))
put_in o k v = fails (codes "cannot key")

-- how much a value that is made takes
abbrev pub answer_size : Answer → ℕ
answer_size (Ok v) = size v
answer_size (Err e) = 0

-- how many values there are
abbrev pub count_of : Result (List Value) Value → ℕ
count_of (Ok vs) = length vs
count_of (Err e) = 0
