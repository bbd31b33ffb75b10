-- What a look for faults answers.
use Rattle.std.specs.Prelude.{◌≡◌, List, [], ◌∷◌, Option, Some, None, Result, MatchResult}
use Rattle.swf_cloudevents.specs.Faults.{Fault}
use Rattle.swf_cloudevents.specs.declared.fault.EventFault.{EventFault}
use Rattle.swf_cloudevents.specs.declared.fault.EventFault.TheVariants.{Bad, OutOfMemory}

abbrev pub first : List Fault → Option Fault
first [] = None
first (f ∷ fs) = Some f

-- the fault is the first one; want of memory says nothing
abbrev pub IsFirst : List Fault → EventFault → Type 0
IsFirst fs (Bad k w) = first fs ≡ Some (k, w)
IsFirst fs OutOfMemory = Unit {0}

-- there is no fault, or the first one is told
abbrev pub Tells : {T : Type 0} → List Fault → Result T EventFault → Type 0
Tells fs r = MatchResult r (λ _. fs ≡ []) (IsFirst fs)
