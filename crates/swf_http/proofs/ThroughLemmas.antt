-- What a part of a message says, the message says.
use Rattle.std.proofs.Common.{List, ℕ, inr, Result, Ok, Err}
use Rattle.swf_http.specs.declared.fault.HttpFault.{HttpFault}
use Rattle.swf_http.specs.declared.fault.HttpFault.TheVariants.{Read, Ended, TooLong, BadMessage, OutOfMemory}
use Rattle.swf_http.specs.Verdicts.{Verdict, whole, ended, long, bad, Then, FaultSays, Answers}

pub fault_through : {A B : Type 0} (J : List ℕ → Verdict A → Type 0) (K : List ℕ → Verdict B → Type 0) (y z : List ℕ)
    → (J y ended → K z ended) → (J y long → K z long) → (J y bad → K z bad) → (e : HttpFault) → FaultSays J y e → FaultSays K z e
fault_through J K y z e l b Read f = tt
fault_through J K y z e l b Ended f = e f
fault_through J K y z e l b TooLong f = l f
fault_through J K y z e l b BadMessage f = b f
fault_through J K y z e l b OutOfMemory f = tt

-- what holds of each verdict holds of a fault
pub fault_on : {A : Type 0} (J K : List ℕ → Verdict A → Type 0) (y z : List ℕ) → ((v : Verdict A) → J y v → K z v) → (e : HttpFault) → FaultSays J y e
    → FaultSays K z e
fault_on J K y z on e f = fault_through J K y z (on ended) (on long) (on bad) e f

pub then_fault : {A B : Type 0} (J : List ℕ → Verdict A → Type 0) (Next : A → List ℕ → Verdict B → Type 0) (y : List ℕ) (e : HttpFault) → FaultSays J y e
    → FaultSays (Then J Next) y e
then_fault J Next y e f = fault_through J (Then J Next) y y (λ s. inr s) (λ s. inr s) (λ s. inr s) e f

pub answers_on : {A T : Type 0} (J K : List ℕ → Verdict A → Type 0) (Is : A → T → Type 0) (y z : List ℕ) → ((v : Verdict A) → J y v → K z v)
    → (r : Result T HttpFault) → Answers J Is y r → Answers K Is z r
answers_on J K Is y z on (Ok t) (a, rest, says, is) = (a, rest, on (whole a rest) says, is)
answers_on J K Is y z on (Err e) f = fault_on J K y z on e f
