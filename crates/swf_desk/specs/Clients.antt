-- Whom a connection means, which inputs clients ask, and what each client is told.
use Rattle.std.specs.Prelude.{◌==◌, ℕ, ◌+◌, List, [], ◌∷◌, Option, Some, None, if◌then◌else◌}
use Rattle.swf_host.specs.declared.host.Input.{Input}
use Rattle.swf_host.specs.declared.host.Input.TheVariants.{Ask}

-- what happens: a client asks some bytes, or bytes are said to a connection
pub data Event (L : Type 0) : Type 0 where
  asks : L → List ℕ → Event L
  says : ℕ → List ℕ → Event L

-- in all that follows the last event stands first

-- how many clients asked
abbrev pub count : {L : Type 0} → List (Event L) → ℕ
count [] = 0
count (asks client bytes ∷ es) = count es + 1
count (says conn reply ∷ es) = count es

-- The client that waits on a connection: connections are numbered from 1 as clients ask, and who was told something waits no more.
abbrev pub who : {L : Type 0} → List (Event L) → ℕ → Option L
who [] conn = None
who (asks client bytes ∷ es) conn = if conn == count es + 1 then Some client else who es conn
who (says other reply ∷ es) conn = if conn == other then None else who es conn

-- the inputs that clients ask, the last first
abbrev pub asked : {L W : Type 0} → List (Event L) → List (Input W)
asked [] = []
asked (asks client bytes ∷ es) = Ask (count es + 1) bytes ∷ asked es
asked (says conn reply ∷ es) = asked es

-- something that a client is told
pub record Told (L : Type 0) : Type 0 where
  pub client : L
  pub reply : List ℕ

-- a client, if one waits, is told some bytes
abbrev pub told_to : {L : Type 0} → Option L → List ℕ → List (Told L) → List (Told L)
told_to None reply before = before
told_to (Some client) reply before = (record { client = client; reply = reply }) ∷ before

-- all that clients are told, the last first
abbrev pub told : {L : Type 0} → List (Event L) → List (Told L)
told [] = []
told (asks client bytes ∷ es) = told es
told (says conn reply ∷ es) = told_to (who es conn) reply (told es)
