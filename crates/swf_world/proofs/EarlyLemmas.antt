-- The place of a refusal is that of a used key.
use Rattle.std.proofs.Common.{◌≡◌, subst, cond, ℕ, ◌≤◌, List, [], ◌∷◌, nat_le, not, Bool, true, false, Option, Some, None, refl}
use Rattle.std.specs.List.{AllByRecursion}
use Rattle.swf_meaning.specs.declared.label.Label.{Label}
use Rattle.swf_meaning.specs.declared.label.Label.TheVariants.{Load, Start, Event, Reply, Moment, Step}
use Rattle.swf_document.specs.declared.document.Document.{Document}
use Rattle.swf_document.specs.declared.fault.Fault.{Fault}
use Rattle.swf_meaning.specs.Documents.{document_at}
use Rattle.swf_validate.specs.Accepts.{faults}
use Rattle.swf_runs.specs.After.{accepted, is_open}
use Rattle.swf_meaning.specs.Answer.{instance_at}
use Rattle.swf_meaning.specs.declared.key.Key.{Key}
use Rattle.swf_meaning.specs.declared.key.Key.TheVariants as keys
use Rattle.swf_runs.specs.Keys.{same_key}
use Rattle.swf_meaning.specs.World.{World, Instance}
use Rattle.swf_world.specs.declared.refusal.Refusal.{Refusal}
use Rattle.swf_world.specs.declared.refusal.Refusal.TheVariants.{Refused, Duplicate, Stale, UnknownDocument, UnknownInstance, Full, Past, NotEnabled}
use Rattle.swf_world.specs.Early.{IsEarly, IsEarlyRefusal, most_labels}
use Rattle.swf_world.specs.Refusals.{duplicate, cause, refusal_of_load, refusal_of_start, refusal_of_reply, refusal_of_step, refusal}
use Rattle.swf_registry.specs.UsedKey.{used_at}

-- where there is a refusal it is early
Early : Option Refusal → Type 0
Early o = (r : Refusal) → o ≡ Some r → IsEarlyRefusal r

used_early : (k : Key) (ps : List (Key × ℕ)) (n : ℕ) → AllByRecursion IsEarly ps → used_at k ps ≡ Some n → n ≤ most_labels
used_early k [] n a e = absurd (cc)
used_early k (p ∷ ps) n a e = by (same_key k p.0) (λ h. used_early k ps n a.1 h) e
  where
    by : (b : Bool) → (used_at k ps ≡ Some n → n ≤ most_labels) → cond b (Some p.1) (used_at k ps) ≡ Some n → n ≤ most_labels
    by true rest h = let is : p.1 ≡ n = cc in subst (λ (m : ℕ). m ≤ most_labels) is a.0
    by false rest h = rest h

one_early : (r : Refusal) → IsEarlyRefusal r → Early (Some r)
unfolding Early
one_early r h s e = let is : r ≡ s = cc in subst IsEarlyRefusal is h

none_early : Early None
unfolding Early
none_early r e = absurd (cc)

cause_early : (b : Bool) (r : Refusal) (next : Option Refusal) → IsEarlyRefusal r → Early next → Early (cause b r next)
unfolding Early
cause_early true r next h f = one_early r h
cause_early false r next h f = f

duplicate_early : (k : Key) (ps : List (Key × ℕ)) (next : Option Refusal) → AllByRecursion IsEarly ps → Early next → Early (duplicate (used_at k ps) next)
unfolding Early
duplicate_early k ps next a f = by (used_at k ps) (λ n e. used_early k ps n a e)
  where
    by : (o : Option ℕ) → ((n : ℕ) → o ≡ Some n → n ≤ most_labels) → (r : Refusal) → duplicate o next ≡ Some r → IsEarlyRefusal r
    by None g r e = f r e
    by (Some n) g r e = let is : Duplicate n ≡ r = cc in subst IsEarlyRefusal is (g n refl)

load_early : (w : World) (fs : List Fault) (o : Option Document) → AllByRecursion IsEarly w.keys → Early (refusal_of_load w fs o)
load_early w fs None a = one_early (Refused fs) tt
load_early w fs (Some d) a = duplicate_early (keys.Document d.key) w.keys _ a (cause_early _ Full None tt none_early)

start_early : (w : World) (o : Option Document) → Early (refusal_of_start w o)
start_early w None = one_early UnknownDocument tt
start_early w (Some d) = cause_early _ Full None tt none_early

step_early : (now : ℕ) (strand : List ℕ) (o : Option Instance) → Early (refusal_of_step now strand o)
step_early now strand None = one_early UnknownInstance tt
step_early now strand (Some i) = by _
  where
    by : (b : Bool) → Early (cond b None (Some NotEnabled))
    by true = none_early
    by false = one_early NotEnabled tt

-- a refusal of a world whose keys were used early is early
pub refusal_early : (w : World) (l : Label) (r : Refusal) → AllByRecursion IsEarly w.keys → refusal w l ≡ Some r → IsEarlyRefusal r
unfolding Early
refusal_early w (Load v) r a e = load_early w (faults v) (accepted v) a r e
refusal_early w (Start id key input) r a e = duplicate_early (keys.Instance id) w.keys _ a (start_early w (document_at key w.documents)) r e
refusal_early w (Event x) r a e = duplicate_early (keys.Event x.source x.id) w.keys None a none_early r e
refusal_early w (Reply x y) r a e = duplicate_early (keys.Activity x) w.keys (refusal_of_reply w x) a (cause_early (not (is_open x w)) Stale None tt none_early) r e
refusal_early w (Moment moment) r a e = cause_early (nat_le moment w.now) (Past w.now) None tt none_early r e
refusal_early w (Step id strand) r a e = step_early w.now strand (instance_at id w.instances) r e
