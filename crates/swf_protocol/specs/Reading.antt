-- What reading answers, unless memory runs out.
use Rattle.std.specs.Prelude.{◌≡◌, ◌⊎◌, ℕ, List, Result, Ok, Err}
use Rattle.swf_value.specs.Value.{Value}
use Rattle.swf_value.specs.Read.{read_within}
use Rattle.swf_value.specs.declared.fault.ValueFault.{ValueFault}
use Rattle.swf_value.specs.declared.fault.ValueFault.TheVariants as values
use Rattle.swf_protocol.specs.declared.command.CommandFault.{CommandFault}
use Rattle.swf_protocol.specs.declared.command.CommandFault.TheVariants.{BadLine, OutOfMemory}
use Rattle.swf_protocol.specs.declared.command.LineFault.TheVariants.{NotJson, TooDeep, NotWhole}

abbrev pub Reads : {A : Type 0} → Result A CommandFault → Result A CommandFault → Type 0
Reads result r = (result ≡ Err OutOfMemory) ⊎ (result ≡ r)

-- the fault of a value is the line's
abbrev pub fault_of : ValueFault → CommandFault
fault_of values.NotJson = BadLine NotJson
fault_of values.TooDeep = BadLine TooDeep
fault_of values.NotWhole = BadLine NotWhole
fault_of values.OutOfMemory = OutOfMemory

abbrev pub or_fault : Result Value ValueFault → Result Value CommandFault
or_fault (Ok v) = Ok v
or_fault (Err f) = Err (fault_of f)

-- the value that a text is, where lists and objects nest at most so deep
abbrev pub value_in : ℕ → List ℕ → Result Value CommandFault
value_in most json = or_fault (read_within most json)
