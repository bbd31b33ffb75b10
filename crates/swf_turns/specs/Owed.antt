-- The replies that turns owe, and the pieces that say them.
use Rattle.std.specs.Prelude.{◌≡◌, ◌≤◌, ℕ, ◌+◌, List, [], ◌∷◌, ◌++◌, length, Option, Some, None, flat_map}
use Rattle.swf_store.specs.declared.said.Piece.{Piece}
use Rattle.swf_host.specs.declared.host.Input.{Input}
use Rattle.swf_host.specs.declared.host.Input.TheVariants.{Ask as Asks, TooLong, Work, Idle, Closed}
use Rattle.swf_protocol.specs.declared.reply.Reply.{Reply}
use Rattle.swf_turns.specs.Dialect.{Dialect}
use Rattle.swf_turns.specs.Turns.{Turn, inputs_in}

-- bytes that a connection is told
pub record Heard : Type 0 where
  pub conn : ℕ
  pub bytes : List ℕ

-- the connection that asked
abbrev pub conn_of : {W : Type 0} → Input W → ℕ
conn_of (Asks conn bytes) = conn
conn_of (TooLong conn) = conn
conn_of (Work w) = 0
conn_of Idle = 0
conn_of Closed = 0

-- someone asked it
abbrev pub IsAsked : {W : Type 0} → Input W → Type 0
IsAsked (Asks conn bytes) = Unit {0}
IsAsked (TooLong conn) = Unit {0}
IsAsked (Work w) = ⊥
IsAsked Idle = ⊥
IsAsked Closed = ⊥

-- the piece that says a reply, if there is one, behind so many inputs
abbrev pub piece_of : ℕ → List Heard → List Piece
piece_of n [] = []
piece_of n (h ∷ hs) = (record { conn = h.conn; bytes = h.bytes; inputs = n }) ∷ piece_of n hs

-- Pieces that say the same as those that are due, in the same order. Each was said behind as many inputs or more, and the numbers,
-- of which the first is at least this one, do not fall.
abbrev pub AreLater : ℕ → List Piece → List Piece → Type 0
AreLater least [] [] = Unit {0}
AreLater least [] (p ∷ ps) = ⊥
AreLater least (d ∷ ds) [] = ⊥
AreLater least (d ∷ ds) (p ∷ ps) = (p.conn ≡ d.conn) × (p.bytes ≡ d.bytes) × (d.inputs ≤ p.inputs) × (least ≤ p.inputs) × AreLater p.inputs ds ps

-- in a mode
module _ {W : Type 0} (mode : Dialect W) where
  abbrev pub heard : ℕ → Option Reply → List Heard
  heard conn None = []
  heard conn (Some reply) = (record { conn = conn; bytes = mode.says reply }) ∷ []

  -- the reply that a turn owes to who asked first, if it owes one
  abbrev pub owed : Turn W → List Heard
  owed t = heard (conn_of t.first) t.reply

  -- the replies that turns owe, in their order
  abbrev pub replies_of : List (Turn W) → List Heard
  replies_of ts = flat_map owed ts

  -- the pieces that say them at once, each behind the inputs of its turn, where so many were taken before the first
  abbrev pub pieces_of : ℕ → List (Turn W) → List Piece
  pieces_of n [] = []
  pieces_of n (t ∷ ts) = piece_of (n + length (inputs_in t)) (owed t) ++ pieces_of (n + length (inputs_in t)) ts

  -- The pieces say the replies of these turns in their order, each to who asked and behind all inputs of its turn, or more.
  abbrev pub AreSaid : ℕ → List (Turn W) → List Piece → Type 0
  AreSaid n ts ps = AreLater n (pieces_of n ts) ps

  -- each reply was said before the first input of the next turn was taken
  abbrev pub ArePrompt : ℕ → List (Turn W) → List Piece → Type 0
  ArePrompt n ts ps = ps ≡ pieces_of n ts
