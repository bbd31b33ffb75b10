-- The world of a run counts its labels, and has their keys with their places.
use Rattle.std.proofs.Common.{◌≡◌, ◌∙◌, refl, ap, sym, ℕ, ◌+◌, ◌||◌, List, [], ◌∷◌, ◌++◌, length, append-nil, append_assoc, nat_le, Option, Some, None, option_map, arith}
use Rattle.std.proofs.lemmas.Option.{same_Some, option_and_then_some}
use Rattle.std.specs.List.{cons_option}
use Rattle.swf_cloudevents.specs.declared.event.Event.{Event}
use Rattle.swf_meaning.specs.World.{World, empty, new_instance}
use Rattle.swf_meaning.specs.declared.key.Key.{Key}
use Rattle.swf_meaning.specs.declared.key.Key.TheVariants.{Document as OfDocument, Instance as OfInstance, Event as OfEvent, Moment as OfMoment}
use Rattle.swf_meaning.specs.declared.label.Label.{Label}
use Rattle.swf_meaning.specs.declared.label.Label.TheVariants.{Load, Start, Event as Told, Reply, Moment, Step}
use Rattle.swf_meaning.specs.Documents.{document_at}
use Rattle.swf_runs.specs.After.{is_used, with_document, loaded, accepted, most_documents, with_instance, most_instances, with_event, stepped, sent, with_instances, counted, after}
use Rattle.swf_runs.specs.Keys.{key_of}
use Rattle.swf_runs.specs.Counted.{keyed, IsCounted}
use Rattle.swf_runs.specs.Runs.{run_from, run, world_at, Legal}
use Rattle.swf_runs.proofs.OnceLemmas.{Grown, Timed, mapped_some, refused_some, replied_some, after_grown, timed_after}
use Rattle.swf_runs.proofs.RunLemmas.{world_of_run}
use Rattle.swf_runs.proofs.WorldLemmas.{there}

sent_count : (w : World) (o : Option Event) → (sent w o).count ≡ w.count
sent_count w None = refl
sent_count w (Some e) = refl

count_after : (w m : World) (l : Label) → after w l ≡ Some m → m.count ≡ w.count + 1
count_after w m (Load v) e = option_and_then_some (loaded w v) (accepted v) m e
    (λ d p q.
    let h = refused_some (is_used (OfDocument d.key) w || nat_le most_documents (length w.documents)) (Some (with_document w v d)) m q in
    ap (λ u. u.count) (sym (same_Some (with_document w v d) m h.1)))
count_after w m (Start id key input) e =
    let h = refused_some (is_used (OfInstance id) w || nat_le most_instances (length w.instances)) (option_map (λ d. with_instance w (new_instance id input w.now d)) (document_at key w.documents)) m e in
    mapped_some (λ d. with_instance w (new_instance id input w.now d)) (document_at key w.documents) m h.1 (λ d p q. ap (λ u. u.count) (sym q))
count_after w m (Told x) e =
    let h = refused_some (is_used (OfEvent x.source x.id) w) (Some (with_event w x)) m e in
    ap (λ u. u.count) (sym (same_Some (with_event w x) m h.1))
count_after w m (Reply a x) e = let h = replied_some w m a x e in ap (λ u. u.count) (sym h.2)
count_after w m (Moment t) e =
    let h = refused_some (nat_le t w.now) (Some (record (counted (OfMoment t) w) { now = t })) m e in
    ap (λ u. u.count) (sym (same_Some (record (counted (OfMoment t) w) { now = t }) m h.1))
count_after w m (Step id strand) e =
    mapped_some (with_instances w) (stepped w.now w.documents id strand w.instances) m e (λ js p q. ap (λ u. u.count) (sym q) ∙ sent_count (record w { instances = js.0; count = w.count + 1 }) js.1)

-- a label's key is the next one, at the place of the label
next_key : (o : Option Key) (w m : World) (ks : List (Key × ℕ)) → Grown o w m → m.keys ++ ks ≡ w.keys ++ cons_option (option_map (λ k. (k, w.count)) o) ks
next_key None w m ks g = ap (λ x. x ++ ks) g
next_key (Some k) w m ks g = ap (λ x. x ++ ks) g.1 ∙ append_assoc w.keys ((k, w.count) ∷ []) ks

counted_from : (w m : World) (ls : List Label) → Timed w → run_from w ls ≡ Some m → (m.count ≡ w.count + length ls) × (m.keys ≡ w.keys ++ keyed w.count ls)
counted_from w m [] timed e =
    let s = same_Some w m e in
    let n : m.count ≡ w.count = ap (λ u. u.count) (sym s) in
    (omega (arith, n), ap (λ u. u.keys) (sym s) ∙ sym (append-nil w.keys))
counted_from w m (l ∷ ls) timed e = option_and_then_some (λ u. run_from u ls) (after w l) m e
    (λ u a b.
    let h = counted_from u m ls (timed_after w u l timed a) b in
    let c = count_after w u l a in
    (omega (arith, h.0, c), h.1 ∙ ap (λ n. u.keys ++ keyed n ls) c ∙ next_key (key_of l) w u (keyed (w.count + 1) ls) (after_grown w u l timed a)))

pub legal_counted : (h : List Label) → Legal h → IsCounted h (world_at h)
legal_counted h legal =
    let t = there (run h) legal in
    let same = world_of_run h t.0 t.1 in
    let c = counted_from empty t.0 h (λ t u. cc) t.1 in
    let n : (world_at h).count ≡ t.0.count = ap (λ u. u.count) same in
    (omega (arith, n, c.0), ap (λ u. u.keys) same ∙ c.1)
