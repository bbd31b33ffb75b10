-- One request on a link, and its response.
use Rattle.std.specs.Prelude.{◌≡◌, ◌⊎◌, ℕ, List, [], ◌∷◌, ◌++◌, Bool, Option, Some, Result, Ok, Err, ⊤}
use Rattle.swf_store.specs.Faults.{RoseOnce}
use Rattle.httparse.specs.Grammar.{ResponseHead}
use Rattle.swf_http.specs.declared.message.Response.{Response}
use Rattle.swf_http.specs.Responses.{IsResponse, SaysResponse}
use Rattle.swf_http.specs.Verdicts.{whole, ended, long, bad}
use Rattle.swf_connect.specs.declared.exchange.ExchangeFault.{ExchangeFault}
use Rattle.swf_connect.specs.declared.exchange.ExchangeFault.TheVariants.{Failed, NoResponse, OutOfMemory}
use Rattle.swf_connect.specs.Talks.{Talk}

-- the bytes begin with this response
pub record Begins (head : Bool) (bytes : List ℕ) (response : Response) : Type 0 where
  pub message : ResponseHead × List ℕ
  pub rest : List ℕ
  pub says : SaysResponse head bytes (whole message rest)
  pub is : IsResponse message response

-- the bytes end within a response, are too many for one, or begin none
abbrev pub BeginsNone : Bool → List ℕ → Type 0
BeginsNone head bytes = SaysResponse head bytes ended ⊎ (SaysResponse head bytes long ⊎ SaysResponse head bytes bad)

-- what an exchange tells of the bytes of a link
abbrev pub Tells : Bool → List ℕ → Result Response ExchangeFault → Type 0
Tells head bytes (Ok response) = Begins head bytes response
Tells head bytes (Err NoResponse) = BeginsNone head bytes
Tells head bytes (Err Failed) = ⊤
Tells head bytes (Err OutOfMemory) = ⊤

-- so much is told of what was written
abbrev pub TellsSome : Option (List ℕ) → Option (List ℕ) → Type 0
TellsSome written new = (before : List ℕ) → written ≡ Some before → (after : List ℕ) × (new ≡ Some after)

-- the request was written whole, and the bytes tell what came of it
abbrev pub TellsWhole : List ℕ → Bool → Result Response ExchangeFault → Option (List ℕ) → Option (List ℕ) → Option (List ℕ) → Type 0
TellsWhole request head result left written new =
    (bytes before : List ℕ) → left ≡ Some bytes → written ≡ Some before → Tells head bytes result × (new ≡ Some (before ++ request))

-- what stands on a link after a request
abbrev pub Asks : List ℕ → Bool → Result Response ExchangeFault → Option (List ℕ) → Option (List ℕ) → Option (List ℕ) → Type 0
Asks request head (Ok response) left written new = TellsWhole request head (Ok response) left written new
Asks request head (Err NoResponse) left written new = TellsWhole request head (Err NoResponse) left written new
Asks request head (Err Failed) left written new = TellsSome written new
Asks request head (Err OutOfMemory) left written new = TellsSome written new

-- one new talk at most
abbrev pub AddsOne : List Talk → Option (List Talk) → Type 0
AddsOne before new = (new ≡ Some before) ⊎ ((talk : Talk) × (new ≡ Some (before ++ talk ∷ [])))

-- one new talk, with the whole request, and what its bytes tell
pub record IsOneTalk (host : List ℕ) (port : ℕ) (request : List ℕ) (head : Bool) (result : Result Response ExchangeFault) (before : List Talk) (new : Option (List Talk)) : Type 0 where
  pub bytes : List ℕ
  pub tells : Tells head bytes result
  pub new_is : new ≡ Some (before ++ (record { about = record { host = host; port = port; bytes = bytes }; written = request }) ∷ [])

abbrev pub Adds : List ℕ → ℕ → List ℕ → Bool → Result Response ExchangeFault → List Talk → Option (List Talk) → Type 0
Adds host port request head (Ok response) before new = IsOneTalk host port request head (Ok response) before new
Adds host port request head (Err NoResponse) before new = IsOneTalk host port request head (Err NoResponse) before new
Adds host port request head (Err Failed) before new = AddsOne before new
Adds host port request head (Err OutOfMemory) before new = AddsOne before new

-- what an exchange adds to the talks, where they are told
abbrev pub Exchanges : List ℕ → ℕ → List ℕ → Bool → Result Response ExchangeFault → Option (List Talk) → Option (List Talk) → Type 0
Exchanges host port request head result old new = (before : List Talk) → old ≡ Some before → Adds host port request head result before new

-- the count has risen by one exactly where a call failed
abbrev pub FailsBy : {T : Type 0} → Result T ExchangeFault → ℕ → ℕ → Type 0
FailsBy (Ok x) before now = now ≡ before
FailsBy (Err Failed) before now = RoseOnce before now
FailsBy (Err NoResponse) before now = now ≡ before
FailsBy (Err OutOfMemory) before now = now ≡ before
