-- What all instances wait for, and what went out.
use Rattle.std.specs.Prelude.{ℕ, pos, List, Bool, false, not, codes, map, filter, filter_map, flat_map, take, drop, Option, Some, None, option_map}
use Rattle.swf_value.specs.Node.{items_of}
use Rattle.swf_value.specs.Value.{Value, int, text, list, object, no_members, member}
use Rattle.swf_calls.specs.Request.{Request, request_value}
use Rattle.swf_cloudevents.specs.Event.{event_value}
use Rattle.swf_cloudevents.specs.declared.event.Event.{Event}
use Rattle.swf_meaning.specs.Listen.{is_heard}
use Rattle.swf_meaning.specs.Node.{Node}
use Rattle.swf_meaning.specs.Printed.{most_told}
use Rattle.swf_meaning.specs.Strands.{tops}
use Rattle.swf_meaning.specs.Top.{Top, Hears, Awaits}
use Rattle.swf_meaning.specs.Wake.{until_top}
use Rattle.swf_meaning.specs.World.{Instance}

-- the top is that of a task that listens, and has not heard all
abbrev pub is_listening : Top → Bool
is_listening (Hears r bound hs) = not (is_heard r.task hs)
is_listening t = false

-- the strands that listen, ascending
abbrev pub listening : Node → List (List ℕ)
listening n = map (λ s. s.0) (filter (λ s. is_listening s.1) (tops n))

-- the strands that wait for a moment, ascending, each with its moment
abbrev pub waiting : Node → List (List ℕ × ℕ)
waiting n = filter_map (λ s. option_map (λ m. (s.0, m)) (until_top s.1)) (tops n)

abbrev pub strand_value : List ℕ → Value
strand_value bs = list (items_of (map (λ b. int (pos b)) bs))

abbrev pub listen_value : Instance → List ℕ → Value
listen_value i bs = object (member (codes "instance") (text i.id) (member (codes "strand") (strand_value bs) no_members))

abbrev pub timer_value : Instance → List ℕ × ℕ → Value
timer_value i p = object (member (codes "instance") (text i.id) (member (codes "strand") (strand_value p.0) (member (codes "until") (int (pos p.1)) no_members)))

-- the calls that await an answer, ascending by strand, each with its activity
abbrev pub open_call : Top → Option (List ℕ × Request)
open_call (Awaits r a q None) = Some (a, q)
open_call t = None

abbrev pub open_calls : Node → List (List ℕ × Request)
open_calls n = filter_map (λ s. open_call s.1) (tops n)

abbrev pub call_value : List ℕ × Request → Value
call_value c = object (member (codes "activity") (text c.0) (member (codes "request") (request_value c.1) no_members))

abbrev pub calls : List Instance → List Value
calls is = flat_map (λ i. map call_value (open_calls i.node)) is

abbrev pub listens : List Instance → List Value
listens is = flat_map (λ i. map (listen_value i) (listening i.node)) is

abbrev pub timers : List Instance → List Value
timers is = flat_map (λ i. map (timer_value i) (waiting i.node)) is

-- the calls, the listens and the timers, in start order
abbrev pub pending_value : List Instance → Value
pending_value is =
    object (member (codes "calls") (list (items_of (calls is))) (member (codes "listens") (list (items_of (listens is))) (member (codes "timers") (list (items_of (timers is))) no_members)))

-- the events that went out, from that number on
abbrev pub outbox_value : List Event → ℕ → Value
outbox_value es n = object (member (codes "events") (list (items_of (map event_value (take most_told (drop n es))))) no_members)
