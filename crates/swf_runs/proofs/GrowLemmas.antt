-- What was loaded, started and sent stays at its place.
use Rattle.std.proofs.Common.{◌≡◌, ◌∙◌, refl, ap, sym, subst, ◌+◌, ◌||◌, List, [], ◌∷◌, ◌++◌, length, map, append-nil, append_assoc, nat_le, Option, Some, None, option_map, arith}
use Rattle.std.proofs.lemmas.List.{map-append}
use Rattle.std.proofs.lemmas.Option.{same_Some, option_and_then_some}
use Rattle.swf_cloudevents.specs.declared.event.Event.{Event}
use Rattle.swf_meaning.specs.World.{World, new_instance}
use Rattle.swf_meaning.specs.declared.key.Key.TheVariants.{Document as OfDocument, Instance as OfInstance, Event as OfEvent, Moment as OfMoment}
use Rattle.swf_meaning.specs.declared.label.Label.{Label}
use Rattle.swf_meaning.specs.declared.label.Label.TheVariants.{Load, Start, Event as Told, Reply, Moment, Step}
use Rattle.swf_meaning.specs.Documents.{document_at}
use Rattle.swf_runs.specs.After.{is_used, with_document, loaded, accepted, most_documents, with_instance, most_instances, with_event, stepped, sent, with_instances, counted, after}
use Rattle.swf_runs.specs.Grows.{Begins, origin, Grows}
use Rattle.swf_runs.specs.Runs.{run_from, world_at, Legal}
use Rattle.swf_runs.proofs.OnceLemmas.{mapped_some, refused_some, replied_some}
use Rattle.swf_runs.proofs.WorldLemmas.{Change, Kept, Began, Heard, Answered, Took, change, now_after, map_offered, map_replied, map_sent, map_taken, run_keeps, legal_both}

same_list : {A : Type 0} (xs ys : List A) → ys ≡ xs → Begins xs ys
same_list xs ys e = ([], e ∙ sym (append-nil xs))

begins_on : {A : Type 0} (xs ys zs : List A) → Begins xs ys → Begins ys zs → Begins xs zs
begins_on xs ys zs a b = (a.0 ++ b.0, b.1 ∙ ap (λ x. x ++ b.0) a.1 ∙ append_assoc xs a.0 b.0)

-- no label takes back a document, or an event that went out
abbrev Adds : World → World → Type 0
Adds w m = Begins w.documents m.documents × Begins w.outbox m.outbox

same_both : (w m : World) → m.documents ≡ w.documents → m.outbox ≡ w.outbox → Adds w m
same_both w m d o = (same_list w.documents m.documents d, same_list w.outbox m.outbox o)

sent_adds : (w : World) (o : Option Event) → Adds w (sent w o)
sent_adds w None = same_both w w refl refl
sent_adds w (Some e) = (same_list w.documents w.documents refl, (e ∷ [], refl))

adds_after : (w m : World) (l : Label) → after w l ≡ Some m → Adds w m
adds_after w m (Load v) e = option_and_then_some (loaded w v) (accepted v) m e
    (λ d p q.
    let h = refused_some (is_used (OfDocument d.key) w || nat_le most_documents (length w.documents)) (Some (with_document w v d)) m q in
    let s = sym (same_Some (with_document w v d) m h.1) in
    (((record { value = v; document = d }) ∷ [], ap (λ u. u.documents) s), same_list w.outbox m.outbox (ap (λ u. u.outbox) s)))
adds_after w m (Start id key input) e =
    let h = refused_some (is_used (OfInstance id) w || nat_le most_instances (length w.instances)) (option_map (λ d. with_instance w (new_instance id input w.now d)) (document_at key w.documents)) m e in
    mapped_some (λ d. with_instance w (new_instance id input w.now d)) (document_at key w.documents) m h.1 (λ d p q. same_both w m (ap (λ u. u.documents) (sym q)) (ap (λ u. u.outbox) (sym q)))
adds_after w m (Told x) e =
    let h = refused_some (is_used (OfEvent x.source x.id) w) (Some (with_event w x)) m e in
    let s = sym (same_Some (with_event w x) m h.1) in
    same_both w m (ap (λ u. u.documents) s) (ap (λ u. u.outbox) s)
adds_after w m (Reply a x) e =
    let h = replied_some w m a x e in
    same_both w m (ap (λ u. u.documents) (sym h.2)) (ap (λ u. u.outbox) (sym h.2))
adds_after w m (Moment t) e =
    let h = refused_some (nat_le t w.now) (Some (record (counted (OfMoment t) w) { now = t })) m e in
    let s = sym (same_Some (record (counted (OfMoment t) w) { now = t }) m h.1) in
    same_both w m (ap (λ u. u.documents) s) (ap (λ u. u.outbox) s)
adds_after w m (Step id strand) e =
    mapped_some (with_instances w) (stepped w.now w.documents id strand w.instances) m e
    (λ js p q. subst (Adds w) q (sent_adds (record w { instances = js.0; count = w.count + 1 }) js.1))

-- no label changes where an instance comes from
origins_after : (w m : World) → Change w m → Begins (map origin w.instances) (map origin m.instances)
origins_after w m (Kept e later) = same_list (map origin w.instances) (map origin m.instances) (ap (map origin) e)
origins_after w m (Began id input d unused used room e now) =
    (map origin (new_instance id input w.now d ∷ []), ap (map origin) e ∙ map-append origin w.instances (new_instance id input w.now d ∷ []))
origins_after w m (Heard x e now) = same_list (map origin w.instances) (map origin m.instances) (ap (map origin) e ∙ map_offered origin x (λ i. refl) w.instances)
origins_after w m (Answered a r e now) = same_list (map origin w.instances) (map origin m.instances) (ap (map origin) e ∙ map_replied origin a r (λ i. refl) w.instances)
origins_after w m (Took id strand js s e now) =
    same_list (map origin w.instances) (map origin m.instances) (ap (map origin) e ∙ map_sent origin (λ x i. refl) js.1 js.0 ∙ map_taken origin (λ i x. refl) w.now w.documents id strand w.instances js s)

grows_after : (w m : World) (l : Label) → after w l ≡ Some m → Grows w m
grows_after w m l e =
    let c = change w m l e in
    let a = adds_after w m l e in
    record { documents = a.0; instances = origins_after w m c; outbox = a.1; now = now_after w m c }

grows_same : (w : World) → Grows w w
grows_same w = record {
  documents = same_list w.documents w.documents refl;
  instances = same_list (map origin w.instances) (map origin w.instances) refl;
  outbox = same_list w.outbox w.outbox refl;
  now = omega arith;
}

grows_on : (w u m : World) → Grows w u → Grows u m → Grows w m
grows_on w u m a b = record {
  documents = begins_on w.documents u.documents m.documents a.documents b.documents;
  instances = begins_on (map origin w.instances) (map origin u.instances) (map origin m.instances) a.instances b.instances;
  outbox = begins_on w.outbox u.outbox m.outbox a.outbox b.outbox;
  now = omega (arith, a.now, b.now);
}

grows_run : (w m : World) (ls : List Label) → run_from w ls ≡ Some m → Grows w m
grows_run w m ls e = run_keeps (Grows w) (λ u v l g a. grows_on w u v g (grows_after u v l a)) w m ls e (grows_same w)

-- of legal histories
pub legal_grows : (h g : List Label) → Legal (h ++ g) → Grows (world_at h) (world_at (h ++ g))
legal_grows h g legal = legal_both Grows grows_run h g legal
