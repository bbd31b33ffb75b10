-- What is read is as a line spells it.
use Rattle.std.proofs.Common.{◌≡◌, sym, subst, Some, Ok, arith}
use Rattle.swf_value.specs.Value.{Value, null, boolean, int, text, list, object, IsValue, IsLevel}
use Rattle.swf_calls.specs.Reply.{reply_of}
use Rattle.swf_calls.specs.declared.reply.CallReply.{CallReply}
use Rattle.swf_calls.proofs.ReplyLemmas.{value_again}
use Rattle.swf_cloudevents.specs.Event.{event_of}
use Rattle.swf_cloudevents.specs.declared.event.Event.{Event}
use Rattle.swf_cloudevents.proofs.Trips.{reads_back, nests_no_deeper}
use Rattle.swf_protocol.specs.Spelled.{IsSaid, IsTold, IsAnswer}
use Rattle.swf_protocol.proofs.EventValues.{event_is_value}

is_level : (v : Value) → IsValue v → IsLevel v
is_level null h = tt
is_level (boolean b) h = tt
is_level (int z) h = h
is_level (text t) h = tt
is_level (list ds) h = tt
is_level (object ms) h = h.0

pub told_again : (v : Value) (e : Event) → IsSaid 64 v → event_of v ≡ Ok e → IsTold e
told_again v e said is = record {
  said = record { value = event_is_value v e said.value is; shallow = omega (arith, said.shallow, nests_no_deeper v e is) };
  again = reads_back v e (is_level v said.value) is;
}

pub answer_again : (v : Value) (r : CallReply) → IsSaid 65 v → reply_of v ≡ Some r → IsAnswer r
answer_again v r said is = record { said = subst (IsSaid 65) (sym (value_again v r is).0) said; range = (value_again v r is).1 }
