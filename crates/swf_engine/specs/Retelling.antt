-- How a history is told again from the frames of a journal: their labels from a place on, at most so many.
use Rattle.std.specs.Prelude.{◌≡◌, ◌⊎◌, ℕ, ◌+◌, ◌-◌, ◌<◌, ◌≤◌, List, ◌++◌, length, map, Bool, true, false, Result, Ok, Err}
use Rattle.std.specs.List.{AllByRecursion}
use Rattle.swf_value.specs.Value.{Value}
use Rattle.swf_journal.specs.Frames.{header, frames_bytes, next_gate}
use Rattle.swf_journal.specs.Opening.{HasNoHeader, IsFrame, IsDamage}
use Rattle.swf_journal.specs.Place.{Place, HasRead}
use Rattle.swf_journal.specs.Stands.{Fits, IsShutAfter}
use Rattle.swf_meaning.specs.declared.label.Label.{Label}
use Rattle.swf_meaning.specs.declared.label.Query.{Query}
use Rattle.swf_meaning.specs.declared.label.Query.TheVariants.{Status as OfStatus, Pending as OfPending, Outbox as OfOutbox, History as OfHistory}
use Rattle.swf_meaning.specs.declared.label.Answer.{Answer}
use Rattle.swf_meaning.specs.declared.label.Answer.TheVariants.{Status, Pending, Outbox, History}
use Rattle.swf_meaning.specs.Printed.{printed, most_told, told_from, labels_value, history_value}
use Rattle.swf_meaning.specs.World.{World}
use Rattle.swf_world.specs.Answers.{answer}
use Rattle.swf_world.specs.declared.query.QueryFault.{QueryFault}
use Rattle.swf_world.specs.declared.query.QueryFault.TheVariants.{OutOfMemory as NoMemory}
use Rattle.swf_engine.specs.declared.fault.EngineFault.{EngineFault}
use Rattle.swf_engine.specs.declared.fault.EngineFault.TheVariants.{Store, Damaged, Full, OutOfMemory}
use Rattle.swf_engine.specs.Damage.{IsMisspelled}
use Rattle.swf_engine.specs.History.{HoldLabels}

-- Behind these labels: how many more are passed over, and what is told of them.
pub record IsTold (place : ℕ) (labels : List Label) (pass : ℕ) (values : List Value) : Type 0 where
  pub pass_is : pass ≡ place - length labels
  pub values_are : values ≡ map printed (told_from place labels)

-- the frames between the front and the reading are read, and so much is told of their labels
pub record HasTold (journal front : List ℕ) (reading : Place) (place pass : ℕ) (values : List Value) : Type 0 where
  pub bodies : List (List ℕ)
  pub labels : List Label
  pub read : HasRead journal reading front bodies
  pub holds : HoldLabels bodies labels
  pub told : IsTold place labels pass values

-- the first frames behind the front hold so many labels as are told at most, or there are no more
pub record IsRetold (journal front : List ℕ) (place : ℕ) (value : Value) : Type 0 where
  pub reading : Place
  pub bodies : List (List ℕ)
  pub labels : List Label
  pub read : HasRead journal reading front bodies
  pub holds : HoldLabels bodies labels
  pub enough : (place + most_told ≤ length labels) ⊎ IsShutAfter front journal bodies
  pub value_is : value ≡ history_value labels place

-- an open gate whose frame passes the end, or the body of a whole frame that spells no labels
abbrev pub IsBadSpelling : ℕ → List ℕ → ℕ → Type 0
IsBadSpelling gate behind at = (IsDamage behind × (at ≡ gate + 1)) ⊎ ((body : List ℕ) × (rest : List ℕ) × IsFrame behind body rest × IsMisspelled gate body at)

-- behind fewer labels than are asked for stands a frame that holds none
pub record IsMisreadFrame (journal front : List ℕ) (place at : ℕ) : Type 0 where
  pub bodies : List (List ℕ)
  pub labels : List Label
  pub behind : List ℕ
  pub laid : journal ≡ front ++ (frames_bytes bodies ++ behind)
  pub fit : AllByRecursion Fits bodies
  pub holds : HoldLabels bodies labels
  pub wanted : length labels < place + most_told
  pub bad : IsBadSpelling (next_gate front bodies) behind at

-- where a journal can not be told from a place on
abbrev pub IsMisread : List ℕ → List ℕ → ℕ → ℕ → Type 0
IsMisread journal front place at = (HasNoHeader journal × (at ≡ 0)) ⊎ IsMisreadFrame journal front place at

-- one frame more was read, or there is none, or it holds no labels
abbrev pub TellsFrame : List ℕ → List ℕ → Place → ℕ → ℕ → List Value → Result Bool EngineFault → Type 0
TellsFrame journal front reading place pass values (Ok true) = HasTold journal front reading place pass values
TellsFrame journal front reading place pass values (Ok false) = (told : HasTold journal front reading place pass values) × IsShutAfter front journal told.bodies
TellsFrame journal front reading place pass values (Err Store) = Unit {0}
TellsFrame journal front reading place pass values (Err (Damaged at)) = IsMisreadFrame journal front place at
TellsFrame journal front reading place pass values (Err (Full size)) = ⊥
TellsFrame journal front reading place pass values (Err OutOfMemory) = Unit {0}

-- an answer of these values, or that memory is missing
abbrev pub ListsValues : List Value → Result Value EngineFault → Type 0
ListsValues values (Ok value) = value ≡ labels_value values
ListsValues values (Err Store) = ⊥
ListsValues values (Err (Damaged at)) = ⊥
ListsValues values (Err (Full size)) = ⊥
ListsValues values (Err OutOfMemory) = Unit {0}

-- the labels behind the front were told from a place on, or the journal can not be told
abbrev pub Retells : List ℕ → List ℕ → ℕ → Result Value EngineFault → Type 0
Retells journal front place (Ok value) = IsRetold journal front place value
Retells journal front place (Err Store) = Unit {0}
Retells journal front place (Err (Damaged at)) = IsMisread journal front place at
Retells journal front place (Err (Full size)) = ⊥
Retells journal front place (Err OutOfMemory) = Unit {0}

-- what a query for a history is answered
abbrev pub AnswersHistory : List ℕ → ℕ → Result (Result Answer QueryFault) EngineFault → Type 0
AnswersHistory journal place (Ok (Ok (History value))) = IsRetold journal header place value
AnswersHistory journal place (Ok (Ok (Status value))) = ⊥
AnswersHistory journal place (Ok (Ok (Pending value))) = ⊥
AnswersHistory journal place (Ok (Ok (Outbox value))) = ⊥
AnswersHistory journal place (Ok (Err f)) = ⊥
AnswersHistory journal place (Err Store) = Unit {0}
AnswersHistory journal place (Err (Damaged at)) = IsMisread journal header place at
AnswersHistory journal place (Err (Full size)) = ⊥
AnswersHistory journal place (Err OutOfMemory) = Unit {0}

-- a history is told from the journal, and any other query is answered
abbrev pub Queries : List ℕ → Query → Result (Result Answer QueryFault) EngineFault → Type 0
Queries journal (OfStatus id) r = Unit {0}
Queries journal OfPending r = Unit {0}
Queries journal (OfOutbox n) r = Unit {0}
Queries journal (OfHistory place) r = AnswersHistory journal place r

-- behind this history a query is answered so, unless memory or the store is missing
abbrev pub AnswersQuery : List Label → World → Query → Result (Result Answer QueryFault) EngineFault → Type 0
AnswersQuery history w query (Ok r) = (r ≡ Err NoMemory) ⊎ (r ≡ answer history w query)
AnswersQuery history w query (Err Store) = Unit {0}
AnswersQuery history w query (Err (Damaged at)) = ⊥
AnswersQuery history w query (Err (Full size)) = ⊥
AnswersQuery history w query (Err OutOfMemory) = Unit {0}
