-- A mode for examples. `go` settles, and any other line asks for the moment that is its length. `done` belongs to the turn before it, and so
-- does what came of work, and that no work comes. Where no line came, moment 9 is told.
use Rattle.std.specs.Prelude.{◌≡◌, ℕ, List, length, Bool, true, false, Option, Some, None, Result, Ok, codes, if◌then◌else◌}
use Rattle.swf_text.specs.Same.{same}
use Rattle.swf_host.specs.declared.host.Input.{Input}
use Rattle.swf_host.specs.declared.host.Input.TheVariants.{Ask as Asks, TooLong, Work, Idle, Closed}
use Rattle.swf_meaning.specs.declared.label.Outcome.TheVariants.{Moment}
use Rattle.swf_protocol.specs.Spoken.{spoken, damaged_bytes, full_bytes}
use Rattle.swf_protocol.specs.declared.command.Command.{Command}
use Rattle.swf_protocol.specs.declared.command.Command.TheVariants.{Do, Settle}
use Rattle.swf_protocol.specs.declared.command.CommandFault.{CommandFault}
use Rattle.swf_turns.specs.Dialect.{Dialect}
use Rattle.swf_test_turns.specs.declared.work.Done.{Done}

abbrev pub read : List ℕ → Option (Result Command CommandFault)
read line = Some (Ok (if same line (codes "go") then Settle (Some 2) else Do (Moment (length line))))

abbrev pub is_later : Input Done → Bool
is_later (Asks conn line) = same line (codes "done")
is_later (TooLong conn) = false
is_later (Work w) = true
is_later Idle = true
is_later Closed = false

abbrev pub told : Input Done → Option ℕ
told (Asks conn line) = None
told (TooLong conn) = None
told (Work w) = None
told Idle = None
told Closed = Some 9

abbrev pub bell : Dialect Done
bell = record {
  Reads = λ line r. r ≡ read line;
  says = spoken;
  says_full = full_bytes;
  says_damaged = damaged_bytes;
  ends = λ i. false;
  belongs = is_later;
  tells = told;
}
