-- What a function answers, against what a definition says that it answers.
use Rattle.std.specs.Prelude.{◌≡◌, Result, Ok, Err}
use Rattle.swf_jq_tokens.specs.declared.fault.ParseFault.{ParseFault}
use Rattle.swf_jq_tokens.specs.declared.fault.ParseFault.TheVariants as fault

infixl 10 ◌>>=◌
-- the second step, if the first gave a value
abbrev pub ◌>>=◌ : {A B : Type 0} → Result A ParseFault → (A → Result B ParseFault) → Result B ParseFault
(Ok x) >>= f = f x
(Err e) >>= f = Err e

-- the fault is the definition's, unless memory ran out
abbrev pub Fails : {Y : Type 0} → ParseFault → Result Y ParseFault → Type 0
Fails fault.OutOfMemory said = Unit {0}
Fails e said = said ≡ Err e

-- the answer, seen by a view, is the definition's, unless memory ran out
abbrev pub Gives : {X Y : Type 0} → (X → Y) → Result X ParseFault → Result Y ParseFault → Type 0
Gives view (Ok x) said = said ≡ Ok (view x)
Gives view (Err e) said = Fails e said
