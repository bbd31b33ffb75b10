-- What a mode makes of inputs and replies.
use Rattle.std.specs.Prelude.{◌≡◌, ℕ, List, length, nat_lt, Bool, true, false, Option, Some, None, Result, if◌then◌else◌}
use Rattle.swf_host.specs.declared.host.Input.{Input}
use Rattle.swf_host.specs.declared.host.Input.TheVariants.{Ask as Asks, TooLong, Work, Idle, Closed}
use Rattle.swf_protocol.specs.Line.{command_of, is_quit}
use Rattle.swf_protocol.specs.Spoken.{spoken, damaged_bytes, full_bytes}
use Rattle.swf_protocol.specs.declared.command.Command.{Command}
use Rattle.swf_protocol.specs.declared.command.CommandFault.{CommandFault}
use Rattle.swf_protocol.specs.declared.reply.Reply.{Reply}

-- what the relations on turns need of a mode
pub record Dialect (W : Type 0) : Type 1 where
  -- the bytes of an Ask spell this, or they are too long to be read
  pub Reads : List ℕ → Option (Result Command CommandFault) → Type 0
  -- the bytes that say a reply, that the journal is full at a size, and that it is damaged at a place
  pub says : Reply → List ℕ
  pub says_full : ℕ → List ℕ
  pub says_damaged : ℕ → List ℕ
  -- no input is taken after this one
  pub ends : Input W → Bool
  -- the input belongs to the turn before it
  pub belongs : Input W → Bool
  -- the moment that the input tells
  pub tells : Input W → Option ℕ

-- the bytes of an Ask spell what this holds of
abbrev pub Spell : {W : Type 0} → Dialect W → List ℕ → (Option (Result Command CommandFault) → Type 0) → Type 0
Spell mode bytes P = (read : Option (Result Command CommandFault)) × mode.Reads bytes read × P read

-- the most bytes of a line
abbrev pub most_line : ℕ
most_line = 1048576

abbrev pub is_long : List ℕ → Bool
is_long line = nat_lt most_line (length line)

abbrev pub line_read : List ℕ → Option (Result Command CommandFault)
line_read line = if is_long line then None else Some (command_of line)

abbrev pub ReadsLine : List ℕ → Option (Result Command CommandFault) → Type 0
ReadsLine line read = read ≡ line_read line

-- `quit` ends a session, and so does the end of its input
abbrev pub ends_session : {W : Type 0} → Input W → Bool
ends_session (Asks conn line) = if is_long line then false else is_quit (command_of line)
ends_session (TooLong conn) = false
ends_session (Work w) = false
ends_session Idle = false
ends_session Closed = true

-- A session reads lines and says lines. Each input is a turn of its own, and none tells a moment.
abbrev pub session : {W : Type 0} → Dialect W
session = record {
  Reads = ReadsLine;
  says = spoken;
  says_full = full_bytes;
  says_damaged = damaged_bytes;
  ends = ends_session;
  belongs = λ i. false;
  tells = λ i. None;
}
