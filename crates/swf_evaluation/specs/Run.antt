-- What an evaluation gives: its outputs in order, how they end, and the turns that it takes.
use Rattle.std.specs.Prelude.{◌+◌, ℕ, List, [], ◌∷◌, ◌++◌, filter, Bool, true, false, not, nat_le, codes, if◌then◌else◌, Result, Ok, Err}
use Rattle.std.specs.List.{list_any}
use Rattle.swf_value.specs.Node.{items_of}
use Rattle.swf_value.specs.Size.{size}
use Rattle.swf_value.specs.Value.{Value, boolean, text, list, depth}
use Rattle.swf_evaluation.specs.Operations.{Answer, is_true}

-- how outputs end: with no error, or with a value that is raised
pub data Ending : Type 0 where
  clean : Ending
  raised : Value → Ending

pub record Run : Type 0 where
  pub values : List Value
  pub end : Ending
  pub turns : ℕ

-- these outputs, in no turns
abbrev pub gave : List Value → Ending → Run
gave vs e = record { values = vs; end = e; turns = 0 }

-- one output, in no turns
abbrev pub gives : Value → Run
gives v = gave (v ∷ []) clean

abbrev pub none : Run
none = gave [] clean

abbrev pub raises : Value → Run
raises m = gave [] (raised m)

-- this many turns more
abbrev pub spend : ℕ → Run → Run
spend n s = record { values = s.values; end = s.end; turns = n + s.turns }

-- one turn more
abbrev pub turn : Run → Run
turn s = spend 1 s

-- these outputs before
abbrev pub prefixed : List Value → Run → Run
prefixed vs s = record { values = vs ++ s.values; end = s.end; turns = s.turns }

abbrev pub too_deep : Value
too_deep = text (codes "too deep")

-- whether lists and objects nest at most 64 deep
abbrev pub is_shallow : Value → Bool
is_shallow v = nat_le (depth v) 64

-- a value that is made, in as many turns as its size
abbrev pub made : Value → Run
made v = if is_shallow v then spend (size v) (gives v) else raises too_deep

-- the first, and where it ends clean the second after it
abbrev pub after : Ending → Run → Run → Run
after clean s t = spend s.turns (prefixed s.values t)
after (raised m) s t = s

abbrev pub followed_by : Run → Run → Run
followed_by s t = after s.end s t

-- a run for each value in order, up to the first that raises, and then this ending
abbrev pub each : (Value → Run) → List Value → Ending → Run
each f [] e = gave [] e
each f (x ∷ xs) e = followed_by (f x) (each f xs e)

-- a run for each output, up to the first that raises, and then the ending of the outputs
abbrev pub over : Run → (Value → Run) → Run
over s f = spend s.turns (each f s.values s.end)

-- the outputs without the error
abbrev pub caught : Run → Run
caught s = record { values = s.values; end = clean; turns = s.turns }

abbrev pub those_or : List Value → Run → Run
those_or [] t = t
those_or (x ∷ xs) t = gave (x ∷ xs) clean

-- the true outputs, and where there is none the second
abbrev pub alternative : Run → Run → Run
alternative s t = spend s.turns (those_or (filter is_true s.values) t)

-- what is made of all outputs where they end clean
abbrev pub ended : Ending → Run → Run
ended clean t = t
ended (raised m) t = raises m

abbrev pub gathered : Run → (List Value → Run) → Run
gathered s f = spend s.turns (ended s.end (f s.values))

-- the list of the outputs
abbrev pub list_with : List Value → Value
list_with vs = list (items_of vs)

-- the first output alone
abbrev pub first_or : List Value → Ending → Run
first_or [] e = gave [] e
first_or (x ∷ xs) e = made x

abbrev pub firsts : Run → Run
firsts s = spend s.turns (first_or s.values s.end)

-- one output, or what is raised
abbrev pub answered : Answer → Run
answered (Ok v) = gives v
answered (Err m) = raises m

-- one value that is made, or what is raised
abbrev pub made_of : Answer → Run
made_of (Ok v) = made v
made_of (Err m) = raises m

-- these outputs, or what is raised
abbrev pub spread : Result (List Value) Value → Run
spread (Ok vs) = gave vs clean
spread (Err m) = raises m

-- what is done with a value, or what is raised
abbrev pub onward : Answer → (Value → Run) → Run
onward (Ok v) f = f v
onward (Err m) f = raises m

-- what is done with these values, or what is raised
abbrev pub across : Result (List Value) Value → (List Value → Run) → Run
across (Ok vs) f = f vs
across (Err m) f = raises m

abbrev pub same_truth : Bool → Bool → Bool
same_truth true b = b
same_truth false b = not b

-- a Boolean as soon as an output of the first has it, and else what the second gives
abbrev pub decided : Bool → Run → Run → Run
decided want s t = spend s.turns (if list_any (λ v. same_truth (is_true v) want) s.values then made (boolean want) else ended s.end t)

-- the runs of the values in order, up to one that has an output of this truth
abbrev pub until : Bool → (Value → Run) → List Value → Run
until want f [] = made (boolean (not want))
until want f (x ∷ xs) = decided want (f x) (until want f xs)

-- a Boolean where a value has it as its truth, and else this run
abbrev pub decides : Bool → Value → Run → Run
decides true v t = if is_true v then made (boolean true) else t
decides false v t = if is_true v then t else made (boolean false)
