-- What was read from bytes nests as deep as bytes may.
use Rattle.std.proofs.Common.{◌≡◌, sym, subst, Some, Ok, arith, ◌≤◌, ℕ, List}
use Rattle.swf_value.specs.Value.{Value, null, boolean, int, text, list, object, depth, IsValue, IsLevel}
use Rattle.swf_calls.specs.Reply.{reply_of}
use Rattle.swf_calls.specs.declared.reply.CallReply.{CallReply}
use Rattle.swf_calls.proofs.ReplyLemmas.{value_again}
use Rattle.swf_cloudevents.specs.Event.{event_of}
use Rattle.swf_cloudevents.specs.declared.event.Event.{Event as TheEvent}
use Rattle.swf_cloudevents.proofs.Trips.{reads_back, nests_no_deeper}
use Rattle.swf_meaning.specs.declared.label.Label.TheVariants.{Event, Reply}
use Rattle.swf_record.specs.Encodes.{Nests}

is_level : (v : Value) → IsValue v → IsLevel v
is_level null h = tt
is_level (boolean b) h = tt
is_level (int z) h = h
is_level (text t) h = tt
is_level (list ds) h = tt
is_level (object ms) h = h.0

pub event_nests : (v : Value) (e : TheEvent) → IsValue v → depth v ≤ 64 → event_of v ≡ Ok e → Nests (Event e)
event_nests v e value shallow is = (omega (arith, shallow, nests_no_deeper v e is), reads_back v e (is_level v value) is)

pub reply_nests : (activity : List ℕ) (v : Value) (r : CallReply) → depth v ≤ 65 → reply_of v ≡ Some r → Nests (Reply activity r)
reply_nests activity v r shallow is = (subst (λ v. depth v ≤ 65) (sym (value_again v r is).0) shallow, (value_again v r is).1)
