-- The first word of a line.
use Rattle.std.specs.Prelude.{ℕ, List, codes, Option, Some, None, if◌then◌else◌}
use Rattle.swf_text.specs.Same.{same}
use Rattle.swf_protocol.specs.declared.verb.Verb.{Verb}
use Rattle.swf_protocol.specs.declared.verb.Verb.TheVariants as verbs

abbrev pub verb_of : List ℕ → Option Verb
verb_of word =
    if same word (codes "load") then Some verbs.Load
    else (if same word (codes "start") then Some verbs.Start
    else (if same word (codes "event") then Some verbs.Event
    else (if same word (codes "reply") then Some verbs.Reply
    else (if same word (codes "moment") then Some verbs.Moment
    else (if same word (codes "settle") then Some verbs.Settle
    else (if same word (codes "status") then Some verbs.Status
    else (if same word (codes "pending") then Some verbs.Pending
    else (if same word (codes "outbox") then Some verbs.Outbox
    else (if same word (codes "history") then Some verbs.History
    else (if same word (codes "quit") then Some verbs.Quit
    else None))))))))))
