-- Which faults a command meets: labels find no room, and a `history`, which alone reads the journal again, finds damage.
use Rattle.std.specs.Prelude.{◌≡◌, ◌⊎◌, ℕ, List, Option, Some, None, Result, Ok, Err, IsOk}
use Rattle.std.specs.Option.{ForSome}
use Rattle.swf_value.specs.Value.{Value}
use Rattle.swf_store.specs.declared.image.Image.{Image}
use Rattle.swf_journal.specs.Frames.{header}
use Rattle.swf_meaning.specs.declared.label.Query.TheVariants.{Status, Pending, Outbox, History}
use Rattle.swf_engine.specs.declared.fault.EngineFault.{EngineFault}
use Rattle.swf_engine.specs.declared.fault.EngineFault.TheVariants.{Store, Damaged, Full, OutOfMemory}
use Rattle.swf_engine.specs.Retelling.{IsRetold, IsMisread}
use Rattle.swf_protocol.specs.declared.command.Command.{Command}
use Rattle.swf_protocol.specs.declared.command.Command.TheVariants.{Do, Ask, Settle, Quit}
use Rattle.swf_protocol.specs.declared.command.CommandFault.{CommandFault}
use Rattle.swf_protocol.specs.declared.reply.Reply.{Reply}
use Rattle.swf_protocol.specs.declared.reply.Reply.TheVariants.{History as Labels, Memory}

-- what was read asks for the labels from this place on
abbrev pub AsksHistory : Option (Result Command CommandFault) → ℕ → Type 0
AsksHistory read place = read ≡ Some (Ok (Ask (History place)))

-- what was read adds labels: an outcome, or a settling
abbrev pub AsksLabels : Option (Result Command CommandFault) → Type 0
AsksLabels (Some (Ok (Do o))) = Unit {0}
AsksLabels (Some (Ok (Ask q))) = ⊥
AsksLabels (Some (Ok (Settle limit))) = Unit {0}
AsksLabels (Some (Ok Quit)) = ⊥
AsksLabels (Some (Err f)) = ⊥
AsksLabels None = ⊥

-- the labels of a journal from a place on are told as its frames hold them, or it is told where they can not be
abbrev pub TellsPlace : List ℕ → ℕ → Result Reply EngineFault → Type 0
TellsPlace journal place (Ok reply) = (reply ≡ Memory) ⊎ ((value : Value) × (reply ≡ Labels value) × IsRetold journal header place value)
TellsPlace journal place (Err Store) = Unit {0}
TellsPlace journal place (Err (Damaged at)) = IsMisread journal header place at
TellsPlace journal place (Err (Full size)) = ⊥
TellsPlace journal place (Err OutOfMemory) = ⊥

-- a fault is one of adding labels
abbrev pub MayAddFault : Result Reply EngineFault → Type 0
MayAddFault (Ok reply) = Unit {0}
MayAddFault (Err Store) = Unit {0}
MayAddFault (Err (Damaged at)) = ⊥
MayAddFault (Err (Full size)) = Unit {0}
MayAddFault (Err OutOfMemory) = ⊥

-- a fault is one of reading the journal
abbrev pub MayReadFault : Result Reply EngineFault → Type 0
MayReadFault (Ok reply) = Unit {0}
MayReadFault (Err Store) = Unit {0}
MayReadFault (Err (Damaged at)) = Unit {0}
MayReadFault (Err (Full size)) = ⊥
MayReadFault (Err OutOfMemory) = ⊥

-- What each command may meet: labels are added or not, a history is told from what the store holds, and any other is answered.
abbrev pub CommandFaults : Option Image → Result Command CommandFault → Result Reply EngineFault → Type 0
CommandFaults held (Ok (Do o)) r = MayAddFault r
CommandFaults held (Ok (Ask (Status id))) r = IsOk r
CommandFaults held (Ok (Ask Pending)) r = IsOk r
CommandFaults held (Ok (Ask (Outbox n))) r = IsOk r
CommandFaults held (Ok (Ask (History place))) r = MayReadFault r × ForSome held (λ image. TellsPlace image.journal place r)
CommandFaults held (Ok (Settle limit)) r = MayAddFault r
CommandFaults held (Ok Quit) r = IsOk r
CommandFaults held (Err f) r = IsOk r

-- the same of what was read, if it was not too long
abbrev pub ReadFaults : Option Image → Option (Result Command CommandFault) → Result Reply EngineFault → Type 0
ReadFaults held None r = IsOk r
ReadFaults held (Some command) r = CommandFaults held command r
