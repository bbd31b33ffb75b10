-- The line of each reply, and the two lines that no reply is.
use Rattle.std.specs.Prelude.{ℕ, pos, List, [], ◌∷◌, ◌++◌, codes, map}
use Rattle.swf_value.specs.Value.{Value, int, text, list, object, no_members, member}
use Rattle.swf_value.specs.Node.{items_of}
use Rattle.swf_text.specs.Pointer.{pointer}
use Rattle.swf_value.specs.Written.{written}
use Rattle.swf_cloudevents.specs.FaultWord.{fault_word as event_fault_word}
use Rattle.swf_document.specs.declared.fault.Fault.{Fault}
use Rattle.swf_document.specs.FaultWord.{fault_word}
use Rattle.swf_protocol.specs.declared.command.LineFault.{LineFault}
use Rattle.swf_protocol.specs.declared.command.LineFault.TheVariants as faults
use Rattle.swf_protocol.specs.declared.reply.Reply.{Reply}
use Rattle.swf_protocol.specs.declared.reply.Reply.TheVariants.{Loaded, Started, Accepted, Replied, Reached, Quiet, Budget, Report, Pending, Outbox, History, Quit, BadLine, BadEvent, TooLong, Refused, Duplicate, UnknownDocument, UnknownInstance, Stale, Past, Full, Memory}

-- an object of one text, and of a text and something else
abbrev pub one : List ℕ → List ℕ → Value
one name word = object (member name (text word) no_members)

abbrev pub two : List ℕ → List ℕ → List ℕ → Value → Value
two name word other v = object (member name (text word) (member other v no_members))

abbrev pub ok_with : List ℕ → List ℕ → ℕ → Value
ok_with word name n = two (codes "ok") word name (int (pos n))

abbrev pub fault_text : LineFault → List ℕ
fault_text faults.Command = codes "command"
fault_text faults.Word = codes "word"
fault_text faults.Number = codes "number"
fault_text faults.NotJson = codes "not-json"
fault_text faults.TooDeep = codes "too-deep"
fault_text faults.NotWhole = codes "not-whole"
fault_text faults.Reply = codes "reply"

-- a fault by its kind, and by its place as a JSON Pointer
abbrev pub fault_value : Fault → Value
fault_value f = two (codes "kind") (fault_word f.kind) (codes "place") (text (pointer f.place))

abbrev pub faults_value : List Fault → Value
faults_value fs = list (items_of (map fault_value fs))

abbrev pub reply_value : Reply → Value
reply_value (Loaded n) = ok_with (codes "loaded") (codes "place") n
reply_value (Started n) = ok_with (codes "started") (codes "place") n
reply_value (Accepted place taken) =
    object (member (codes "ok") (text (codes "accepted")) (member (codes "place") (int (pos place)) (member (codes "taken") (int (pos taken)) no_members)))
reply_value (Replied n) = ok_with (codes "replied") (codes "place") n
reply_value (Reached n) = ok_with (codes "moment") (codes "place") n
reply_value (Quiet n) = ok_with (codes "quiet") (codes "steps") n
reply_value (Budget n) = ok_with (codes "budget") (codes "steps") n
reply_value (Report v) = v
reply_value (Pending v) = v
reply_value (Outbox v) = v
reply_value (History v) = v
reply_value Quit = one (codes "ok") (codes "quit")
reply_value (BadLine f) = two (codes "error") (codes "bad-line") (codes "fault") (text (fault_text f))
reply_value (BadEvent a k) =
    object (member (codes "attribute") (text a) (member (codes "error") (text (codes "bad-event")) (member (codes "kind") (text (event_fault_word k)) no_members)))
reply_value TooLong = one (codes "error") (codes "too-long")
reply_value (Refused fs) = two (codes "error") (codes "refused") (codes "faults") (faults_value fs)
reply_value (Duplicate n) = two (codes "error") (codes "duplicate") (codes "place") (int (pos n))
reply_value UnknownDocument = one (codes "error") (codes "unknown-document")
reply_value UnknownInstance = one (codes "error") (codes "unknown-instance")
reply_value Stale = one (codes "error") (codes "stale")
reply_value (Past now) = two (codes "error") (codes "past") (codes "now") (int (pos now))
reply_value Full = one (codes "error") (codes "full")
reply_value Memory = one (codes "error") (codes "memory")

-- the line of a reply, without its newline and with it
abbrev pub reply_text : Reply → List ℕ
reply_text r = written (reply_value r)

abbrev pub spoken : Reply → List ℕ
spoken r = reply_text r ++ 10 ∷ []

-- the line of a journal that is damaged at a place, which may be any number
abbrev pub damaged_bytes : ℕ → List ℕ
damaged_bytes at = written (object (member (codes "at") (int (pos at)) (member (codes "error") (text (codes "damaged")) no_members))) ++ 10 ∷ []

-- the line of a journal that is full at a size, which may be any number
abbrev pub full_bytes : ℕ → List ℕ
full_bytes size = written (two (codes "error") (codes "journal-full") (codes "size") (int (pos size))) ++ 10 ∷ []
