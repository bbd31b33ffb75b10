-- Why a label is not taken: the first cause in order.
use Rattle.std.specs.Prelude.{ℕ, List, Bool, not, nat_le, length, Option, Some, None, Result, Ok, Err, unwrap_or, if◌then◌else◌}
use Rattle.swf_document.specs.declared.fault.Fault.{Fault}
use Rattle.swf_document.specs.declared.document.Document.{Document}
use Rattle.swf_meaning.specs.declared.label.Label.{Label}
use Rattle.swf_meaning.specs.declared.label.Label.TheVariants.{Load, Start, Event, Reply, Moment, Step}
use Rattle.swf_meaning.specs.declared.key.Key.{Key}
use Rattle.swf_meaning.specs.declared.key.Key.TheVariants as keys
use Rattle.swf_meaning.specs.World.{World, Instance}
use Rattle.swf_meaning.specs.Strands.{can_go}
use Rattle.swf_meaning.specs.Answer.{instance_at}
use Rattle.swf_meaning.specs.Documents.{document_at}
use Rattle.swf_validate.specs.Accepts.{faults}
use Rattle.swf_runs.specs.After.{most_documents, most_instances, accepted, is_open}
use Rattle.swf_registry.specs.UsedKey.{used_at}
use Rattle.swf_world.specs.declared.refusal.Refusal.{Refusal}
use Rattle.swf_world.specs.declared.refusal.Refusal.TheVariants.{Refused, Duplicate, Stale, UnknownDocument, UnknownInstance, Full, Past, NotEnabled}

-- the place at which a key was used
abbrev pub place_of : Key → World → ℕ
place_of k w = unwrap_or (used_at k w.keys) 0

-- a duplicate of what stands at that place, and else the next cause
abbrev pub duplicate : Option ℕ → Option Refusal → Option Refusal
duplicate None next = next
duplicate (Some place) next = Some (Duplicate place)

-- a cause where it applies, and else the next one
abbrev pub cause : Bool → Refusal → Option Refusal → Option Refusal
cause b r next = if b then Some r else next

-- a document is refused for its faults, and where its key was used or there are too many
abbrev pub refusal_of_load : World → List Fault → Option Document → Option Refusal
refusal_of_load w fs None = Some (Refused fs)
refusal_of_load w fs (Some d) = duplicate (used_at (keys.Document d.key) w.keys) (cause (nat_le most_documents (length w.documents)) Full None)

-- a start is refused where its document is not loaded, or there are too many instances
abbrev pub refusal_of_start : World → Option Document → Option Refusal
refusal_of_start w None = Some UnknownDocument
refusal_of_start w (Some d) = cause (nat_le most_instances (length w.instances)) Full None

-- a reply is refused where its call is not open
abbrev pub refusal_of_reply : World → List ℕ → Option Refusal
refusal_of_reply w a = cause (not (is_open a w)) Stale None

-- a moment is refused that is not above the one that was reached
abbrev pub refusal_of_moment : World → ℕ → Option Refusal
refusal_of_moment w moment = cause (nat_le moment w.now) (Past w.now) None

-- a step is refused where there is no such instance, or its strand can take none
abbrev pub refusal_of_step : ℕ → List ℕ → Option Instance → Option Refusal
refusal_of_step now strand None = Some UnknownInstance
refusal_of_step now strand (Some i) = if can_go now strand i.node then None else Some NotEnabled

abbrev pub refusal : World → Label → Option Refusal
refusal w (Load v) = refusal_of_load w (faults v) (accepted v)
refusal w (Start id key input) = duplicate (used_at (keys.Instance id) w.keys) (refusal_of_start w (document_at key w.documents))
refusal w (Event e) = duplicate (used_at (keys.Event e.source e.id) w.keys) None
refusal w (Reply a r) = duplicate (used_at (keys.Activity a) w.keys) (refusal_of_reply w a)
refusal w (Moment moment) = refusal_of_moment w moment
refusal w (Step id strand) = refusal_of_step w.now strand (instance_at id w.instances)

-- the cause that an answer gives, where it is no success
abbrev pub refused_by : {T : Type 0} → Result T Refusal → Option Refusal
refused_by (Ok u) = None
refused_by (Err r) = Some r
