-- What an evaluation shows: nothing but the limit where it takes more turns than are allowed.
use Rattle.std.specs.Prelude.{List, [], ◌∷◌, nat_lt, if◌then◌else◌}
use Rattle.swf_value.specs.Value.{Value, null}
use Rattle.swf_evaluation.specs.declared.answer.End.{End}
use Rattle.swf_evaluation.specs.declared.answer.End.TheVariants as ends
use Rattle.swf_evaluation.specs.declared.answer.First.{First}
use Rattle.swf_evaluation.specs.declared.answer.First.TheVariants as firsts
use Rattle.swf_evaluation.specs.Run.{Ending, clean, raised, Run}
use Rattle.swf_evaluation.specs.Turns.{limit}

abbrev pub end_for : Ending → End
end_for clean = ends.Clean
end_for (raised m) = ends.Raised m

abbrev pub values_shown : Run → List Value
values_shown s = if nat_lt limit s.turns then [] else s.values

abbrev pub end_shown : Run → End
end_shown s = if nat_lt limit s.turns then ends.Limit else end_for s.end

-- the first output, and where there is none null or what is raised
abbrev pub first_in : List Value → Ending → First
first_in (v ∷ vs) e = firsts.Value v
first_in [] clean = firsts.Value null
first_in [] (raised m) = firsts.Raised m

abbrev pub first_shown : Run → First
first_shown s = if nat_lt limit s.turns then firsts.Limit else first_in s.values s.end
