-- Which client an input comes from, and which one a reply to it reaches.
use Rattle.std.specs.Prelude.{◌≡◌, ◌⊎◌, ◌≤◌, ◌+◌, ℕ, List, [], ◌∷◌, Some, Contains}
use Rattle.swf_host.specs.declared.host.Input.TheVariants.{Ask}
use Rattle.swf_desk.specs.Clients.{Event, asks, says, count, who, asked, told}

-- a client asked these bytes on that connection
abbrev pub AskedOn : {L : Type 0} → ℕ → L → List ℕ → List (Event L) → Type 0
AskedOn conn client bytes [] = ⊥
AskedOn conn client bytes (asks other line ∷ es) = ((conn ≡ count es + 1) × (client ≡ other) × (bytes ≡ line)) ⊎ AskedOn conn client bytes es
AskedOn conn client bytes (says other reply ∷ es) = AskedOn conn client bytes es

-- something was said to that connection after a client asked on it
abbrev pub WasAnswered : {L : Type 0} → ℕ → List (Event L) → Type 0
WasAnswered conn [] = ⊥
WasAnswered conn (asks client bytes ∷ es) = WasAnswered conn es
WasAnswered conn (says other reply ∷ es) = ((conn ≡ other) × (conn ≤ count es)) ⊎ WasAnswered conn es

-- who waits on a connection asked on it
abbrev pub IsRight : {L : Type 0} → List (Event L) → Type 0
IsRight {L} es = (conn : ℕ) (client : L) → who es conn ≡ Some client → (bytes : List ℕ) × AskedOn conn client bytes es

-- no two clients asked on one connection, nor one twice, and none on a greater one than how many asked
abbrev pub IsOnce : {L : Type 0} → List (Event L) → Type 0
IsOnce {L} es = (conn : ℕ) (client other : L) (bytes line : List ℕ) → AskedOn conn client bytes es → AskedOn conn other line es
    → (client ≡ other) × (bytes ≡ line) × (conn ≤ count es)

-- a client that asked waits until something was said to its connection
abbrev pub IsHeard : {L : Type 0} → List (Event L) → Type 0
IsHeard {L} es = (conn : ℕ) (client : L) (bytes : List ℕ) → AskedOn conn client bytes es → (who es conn ≡ Some client) ⊎ WasAnswered conn es

-- an input is what a client asked on its connection
abbrev pub AreAsked : {L : Type 0} (W : Type 0) → List (Event L) → Type 0
AreAsked {L} W es = (conn : ℕ) (bytes : List ℕ) → Contains (asked {L = L} {W = W} es) (Ask conn bytes) → (client : L) × AskedOn conn client bytes es

-- the first bytes that are said to a connection are told to the client that asked on it
abbrev pub IsAnswered : {L : Type 0} → List (Event L) → Type 0
IsAnswered {L} es = (conn : ℕ) (client : L) (bytes reply : List ℕ) → AskedOn conn client bytes es → (WasAnswered conn es → ⊥)
    → told (says conn reply ∷ es) ≡ (record { client = client; reply = reply }) ∷ told es

-- bytes that are said later, or to a connection on which nobody asked, are told to nobody
abbrev pub IsSilent : {L : Type 0} → List (Event L) → Type 0
IsSilent {L} es = (conn : ℕ) (reply : List ℕ)
    → WasAnswered conn es ⊎ ((client : L) (bytes : List ℕ) → AskedOn conn client bytes es → ⊥)
    → told (says conn reply ∷ es) ≡ told es
