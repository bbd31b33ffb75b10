-- The first fault of a value.
use Rattle.std.proofs.Common.{◌≡◌, ap, subst, ℕ, List, [], ◌∷◌, Some, Err}
use Rattle.swf_cloudevents.specs.Event.{unless_faulty}
use Rattle.swf_cloudevents.specs.Faults.{Fault}
use Rattle.swf_cloudevents.specs.First.{first, IsFirst}
use Rattle.swf_cloudevents.specs.declared.event.Event.{Event}
use Rattle.swf_cloudevents.specs.declared.fault.EventFault.{EventFault}
use Rattle.swf_cloudevents.specs.declared.fault.EventFault.TheVariants.{Bad}
use Rattle.swf_cloudevents.specs.declared.fault.FaultKind.{FaultKind}

pub faulty : (e : Event) (fs : List Fault) (f : Fault) → first fs ≡ Some f → unless_faulty e fs ≡ Err f
faulty e [] f h = cc
faulty e (g ∷ fs) f h = let is : g ≡ f = cc in ap Err is

pub faulty_as_told : (e : Event) (fs : List Fault) (r : EventFault) (k : List ℕ) (w : FaultKind) → IsFirst fs r → r ≡ Bad k w → unless_faulty e fs ≡ Err (k, w)
faulty_as_told e fs r k w h is = faulty e fs (k, w) (subst (IsFirst fs) is h)
