-- How the instances of the world after a label come from those before, and what a run keeps.
use Rattle.std.proofs.Common.{map, ◌≡◌, ◌∙◌, refl, ap, sym, subst, cond, if◌then◌else◌, ℕ, ◌+◌, ◌||◌, ◌≤◌, ◌<◌, List, [], ◌∷◌, ◌++◌, length, nat_le, Bool, true, false, is_some, Option, Some, None, option_map, arith}
use Rattle.std.proofs.lemmas.Bool.{or_parts, leb-false}
use Rattle.std.proofs.lemmas.Option.{same_Some, option_and_then_some}
use Rattle.std.specs.List.{AllByRecursion}
use Rattle.swf_value.specs.Value.{Value}
use Rattle.swf_calls.specs.declared.reply.CallReply.{CallReply}
use Rattle.swf_cloudevents.specs.declared.event.Event.{Event}
use Rattle.swf_document.specs.declared.document.Document.{Document}
use Rattle.swf_text.specs.Same.{same}
use Rattle.swf_meaning.specs.Complete.{Stepped}
use Rattle.swf_meaning.specs.Offer.{offered_one, offered_all}
use Rattle.swf_meaning.specs.Reply.{is_of, with_reply}
use Rattle.swf_meaning.specs.World.{World, Instance, empty, step_at, with_step, new_instance}
use Rattle.swf_meaning.specs.declared.key.Key.TheVariants.{Document as OfDocument, Instance as OfInstance, Event as OfEvent, Moment as OfMoment}
use Rattle.swf_meaning.specs.declared.label.Label.{Label}
use Rattle.swf_meaning.specs.declared.label.Label.TheVariants.{Load, Start, Event as Told, Reply, Moment, Step}
use Rattle.swf_meaning.specs.Documents.{Loaded, document_at}
use Rattle.swf_runs.specs.After.{is_used, with_document, loaded, accepted, most_documents, with_instance, most_instances, with_event, replied_one, stepped, sent, with_instances, counted, after}
use Rattle.swf_runs.specs.Runs.{run_from, run, world_at, Legal}
use Rattle.swf_runs.proofs.OnceLemmas.{mapped_some, refused_some, replied_some, now_used, sent_now}
use Rattle.swf_runs.proofs.RunLemmas.{run_from-append, world_of_run}

-- an event that goes out is offered to all
abbrev pub sent_to : Option Event → List Instance → List Instance
sent_to None is = is
sent_to (Some e) is = offered_all e is

sent_instances : (w : World) (o : Option Event) → (sent w o).instances ≡ sent_to o w.instances
sent_instances w None = refl
sent_instances w (Some e) = refl

-- the instances stay, at a moment or a later one; one begins behind them, for which there is room, and whose id was not used and is now; all are offered an event;
-- one is answered; or one takes a step
pub data Change (w m : World) : Type 0 where
  Kept : m.instances ≡ w.instances → w.now ≤ m.now → Change w m
  Began : (id : List ℕ) (input : Value) (d : Document) → is_used (OfInstance id) w ≡ false → is_used (OfInstance id) m ≡ true → length w.instances < most_instances → m.instances ≡ w.instances ++ new_instance id input w.now d ∷ [] → m.now ≡ w.now → Change w m
  Heard : (e : Event) → m.instances ≡ offered_all e w.instances → m.now ≡ w.now → Change w m
  Answered : (a : List ℕ) (r : CallReply) → m.instances ≡ map (replied_one a r) w.instances → m.now ≡ w.now → Change w m
  Took : (id strand : List ℕ) (js : List Instance × Option Event) → stepped w.now w.documents id strand w.instances ≡ Some js → m.instances ≡ sent_to js.1 js.0 → m.now ≡ w.now → Change w m

pub change : (w m : World) (l : Label) → after w l ≡ Some m → Change w m
change w m (Load v) e = option_and_then_some (loaded w v) (accepted v) m e
    (λ d p q.
    let h = refused_some (is_used (OfDocument d.key) w || nat_le most_documents (length w.documents)) (Some (with_document w v d)) m q in
    let s = same_Some (with_document w v d) m h.1 in
    let now : m.now ≡ w.now = ap (λ u. u.now) (sym s) in
    Kept (ap (λ u. u.instances) (sym s)) (omega (arith, now)))
change w m (Start id key input) e =
    let h = refused_some (is_used (OfInstance id) w || nat_le most_instances (length w.instances)) (option_map (λ d. with_instance w (new_instance id input w.now d)) (document_at key w.documents)) m e in
    let parts = or_parts (is_used (OfInstance id) w) (nat_le most_instances (length w.instances)) h.0 in
    let new = parts.0 in
    mapped_some (λ d. with_instance w (new_instance id input w.now d)) (document_at key w.documents) m h.1
    (λ d p q. Began id input d new (now_used w m (OfInstance id) (new, ap (λ u. u.keys) (sym q))) (leb-false most_instances (length w.instances) parts.1) (ap (λ u. u.instances) (sym q)) (ap (λ u. u.now) (sym q)))
change w m (Told x) e =
    let h = refused_some (is_used (OfEvent x.source x.id) w) (Some (with_event w x)) m e in
    let s = same_Some (with_event w x) m h.1 in
    Heard x (ap (λ u. u.instances) (sym s)) (ap (λ u. u.now) (sym s))
change w m (Reply a x) e =
    let h = replied_some w m a x e in
    Answered a x (ap (λ u. u.instances) (sym h.2)) (ap (λ u. u.now) (sym h.2))
change w m (Moment t) e =
    let h = refused_some (nat_le t w.now) (Some (record (counted (OfMoment t) w) { now = t })) m e in
    let s = same_Some (record (counted (OfMoment t) w) { now = t }) m h.1 in
    let now : m.now ≡ t = ap (λ u. u.now) (sym s) in
    Kept (ap (λ u. u.instances) (sym s)) (omega (arith, now, leb-false t w.now h.0))
change w m (Step id strand) e =
    mapped_some (with_instances w) (stepped w.now w.documents id strand w.instances) m e
    (λ js p q.
    let u = record w { instances = js.0; count = w.count + 1 } in
    Took id strand js p (ap (λ u. u.instances) (sym q) ∙ sent_instances u js.1) (ap (λ u. u.now) (sym q) ∙ sent_now u js.1))

-- what each label keeps a run keeps
pub run_keeps : (P : World → Type 0) → ((w m : World) (l : Label) → P w → after w l ≡ Some m → P m) → (w m : World) (ls : List Label) → run_from w ls ≡ Some m → P w → P m
run_keeps P kept w m [] e p = subst P (same_Some w m e) p
run_keeps P kept w m (l ∷ ls) e p = option_and_then_some (λ u. run_from u ls) (after w l) m e (λ u a b. run_keeps P kept u m ls b (kept w u l p a))

-- what is there
pub there : {A : Type 0} (o : Option A) → is_some o ≡ true → (a : A) × (o ≡ Some a)
there None e = cc
there (Some a) e = (a, refl)

-- what holds of the empty world, and what each label keeps, holds of the world of a legal run
pub legal_keeps : (P : World → Type 0) → ((w m : World) (l : Label) → P w → after w l ≡ Some m → P m) → P empty → (h : List Label) → Legal h → P (world_at h)
legal_keeps P kept p h legal =
    let t = there (run h) legal in
    subst P (sym (world_of_run h t.0 t.1)) (run_keeps P kept empty t.0 h t.1 p)

-- what a step of an instance keeps holds of all after one of them took it
pub taken_all : (Q : Instance → Type 0) (now : ℕ) (ds : List Loaded) (id strand : List ℕ) → ((i : Instance) (m : Stepped) → step_at now ds strand i ≡ Some m → Q i → Q (with_step i m)) →
    (is : List Instance) (js : List Instance × Option Event) → stepped now ds id strand is ≡ Some js → AllByRecursion Q is → AllByRecursion Q js.0
taken_all Q now ds id strand kept [] js s all = cc
taken_all Q now ds id strand kept (x ∷ xs) js s all = by (same id x.id) s (λ p a. taken_all Q now ds id strand kept xs p a all.1)
  where
    by : (b : Bool) → cond b (option_map (λ (m : Stepped). (with_step x m ∷ xs, m.emitted)) (step_at now ds strand x)) (option_map (λ (p : List Instance × Option Event). (x ∷ p.0, p.1)) (stepped now ds id strand xs)) ≡ Some js →
        ((p : List Instance × Option Event) → stepped now ds id strand xs ≡ Some p → AllByRecursion Q p.0) → AllByRecursion Q js.0
    by true s rest = mapped_some (λ (m : Stepped). (with_step x m ∷ xs, m.emitted)) (step_at now ds strand x) js s (λ m a q. subst (λ (j : List Instance × Option Event). AllByRecursion Q j.0) q (kept x m a all.0, all.1))
    by false s rest = mapped_some (λ (p : List Instance × Option Event). (x ∷ p.0, p.1)) (stepped now ds id strand xs) js s (λ p a q. subst (λ (j : List Instance × Option Event). AllByRecursion Q j.0) q (all.0, rest p a))

-- what an offer, or an answer, keeps of each holds of all after it
pub each_keeps : (Q : Instance → Type 0) (f : Instance → Instance) → ((i : Instance) → Q i → Q (f i)) → (is : List Instance) → AllByRecursion Q is → AllByRecursion Q (map f is)
each_keeps Q f kept [] all = tt
each_keeps Q f kept (i ∷ is) all = (kept i all.0, each_keeps Q f kept is all.1)

-- of an instance to which no answer comes, and of one to which it does
pub one_keeps : (Q : Instance → Type 0) (a : List ℕ) (r : CallReply) (i : Instance) → Q (record i { node = with_reply a r i.node }) → Q i → Q (replied_one a r i)
one_keeps Q a r i own other = by (is_of a i.id)
  where
    by : (b : Bool) → Q (if b then record i { node = with_reply a r i.node } else i)
    by true = own
    by false = other

pub sent_keeps : (Q : Instance → Type 0) → ((e : Event) (i : Instance) → Q i → Q (offered_one e i)) → (o : Option Event) (is : List Instance) → AllByRecursion Q is → AllByRecursion Q (sent_to o is)
sent_keeps Q kept None is all = all
sent_keeps Q kept (Some e) is all = each_keeps Q (offered_one e) (kept e) is all

pub one_more : (Q : Instance → Type 0) (is : List Instance) (i : Instance) → AllByRecursion Q is → Q i → AllByRecursion Q (is ++ i ∷ [])
one_more Q [] i all q = (q, tt)
one_more Q (x ∷ xs) i all q = (all.0, one_more Q xs i all.1 q)

pub all_weaker : (Q R : Instance → Type 0) → ((i : Instance) → Q i → R i) → (is : List Instance) → AllByRecursion Q is → AllByRecursion R is
all_weaker Q R f [] all = tt
all_weaker Q R f (i ∷ is) all = (f i all.0, all_weaker Q R f is all.1)

-- what holds of an instance that begins, and what each step, each offer and each answer keeps, holds of all instances after a label
pub change_all : (Q : Instance → Type 0) (w m : World) → ((id : List ℕ) (input : Value) (d : Document) → Q (new_instance id input w.now d)) →
    ((now : ℕ) (ds : List Loaded) (strand : List ℕ) (i : Instance) (m : Stepped) → step_at now ds strand i ≡ Some m → Q i → Q (with_step i m)) → ((e : Event) (i : Instance) → Q i → Q (offered_one e i)) →
    ((a : List ℕ) (r : CallReply) (i : Instance) → Q i → Q (replied_one a r i)) → AllByRecursion Q w.instances → Change w m → AllByRecursion Q m.instances
change_all Q w m new step offer answer all (Kept e later) = subst (AllByRecursion Q) (sym e) all
change_all Q w m new step offer answer all (Began id input d unused used room e now) = subst (AllByRecursion Q) (sym e) (one_more Q w.instances (new_instance id input w.now d) all (new id input d))
change_all Q w m new step offer answer all (Heard x e now) = subst (AllByRecursion Q) (sym e) (each_keeps Q (offered_one x) (offer x) w.instances all)
change_all Q w m new step offer answer all (Answered a r e now) = subst (AllByRecursion Q) (sym e) (each_keeps Q (replied_one a r) (answer a r) w.instances all)
change_all Q w m new step offer answer all (Took id strand js s e now) =
    subst (AllByRecursion Q) (sym e) (sent_keeps Q offer js.1 js.0 (taken_all Q w.now w.documents id strand (step w.now w.documents strand) w.instances js s all))

-- the present moment does not fall
pub now_after : (w m : World) → Change w m → w.now ≤ m.now
now_after w m (Kept e later) = later
now_after w m (Began id input d unused used room e now) = omega (arith, now)
now_after w m (Heard x e now) = omega (arith, now)
now_after w m (Answered a r e now) = omega (arith, now)
now_after w m (Took id strand js s e now) = omega (arith, now)

-- what offers and answers leave as it is, of each instance
pub map_each : {A : Type 0} (f : Instance → A) (g : Instance → Instance) → ((i : Instance) → f (g i) ≡ f i) → (is : List Instance) → map f (map g is) ≡ map f is
map_each f g same [] = refl
map_each f g same (i ∷ is) = λ j. same i j ∷ map_each f g same is j

pub map_offered : {A : Type 0} (f : Instance → A) (e : Event) → ((i : Instance) → f (offered_one e i) ≡ f i) → (is : List Instance) → map f (offered_all e is) ≡ map f is
map_offered f e same is = map_each f (offered_one e) same is

pub map_replied : {A : Type 0} (f : Instance → A) (a : List ℕ) (r : CallReply) → ((i : Instance) → f (record i { node = with_reply a r i.node }) ≡ f i) → (is : List Instance) → map f (map (replied_one a r) is) ≡ map f is
map_replied f a r same is = map_each f (replied_one a r) (λ i. one_keeps (λ j. f j ≡ f i) a r i (same i) refl) is

pub map_sent : {A : Type 0} (f : Instance → A) → ((e : Event) (i : Instance) → f (offered_one e i) ≡ f i) → (o : Option Event) (is : List Instance) → map f (sent_to o is) ≡ map f is
map_sent f same None is = refl
map_sent f same (Some e) is = map_offered f e (same e) is

-- and what steps leave as it is
pub map_taken : {A : Type 0} (f : Instance → A) → ((i : Instance) (m : Stepped) → f (with_step i m) ≡ f i) → (now : ℕ) (ds : List Loaded) (id strand : List ℕ) (is : List Instance) (js : List Instance × Option Event) → stepped now ds id strand is ≡ Some js → map f js.0 ≡ map f is
map_taken f kept now ds id strand [] js s = cc
map_taken f kept now ds id strand (x ∷ xs) js s = by (same id x.id) s (map_taken f kept now ds id strand xs)
  where
    by : (b : Bool) → cond b (option_map (λ (m : Stepped). (with_step x m ∷ xs, m.emitted)) (step_at now ds strand x)) (option_map (λ (q : List Instance × Option Event). (x ∷ q.0, q.1)) (stepped now ds id strand xs)) ≡ Some js →
        ((q : List Instance × Option Event) → stepped now ds id strand xs ≡ Some q → map f q.0 ≡ map f xs) → map f js.0 ≡ map f (x ∷ xs)
    by true s rest = mapped_some (λ (m : Stepped). (with_step x m ∷ xs, m.emitted)) (step_at now ds strand x) js s
        (λ m a q. ap (λ (j : List Instance × Option Event). map f j.0) (sym q) ∙ ap (λ y. y ∷ map f xs) (kept x m))
    by false s rest = mapped_some (λ (q : List Instance × Option Event). (x ∷ q.0, q.1)) (stepped now ds id strand xs) js s
        (λ q a e. ap (λ (j : List Instance × Option Event). map f j.0) (sym e) ∙ ap (λ ys. f x ∷ ys) (rest q a))

-- what holds of each world and one that a run leads to from it holds of those of a legal history and of a longer one
pub legal_both : (P : World → World → Type 0) → ((w m : World) (ls : List Label) → run_from w ls ≡ Some m → P w m) → (h g : List Label) → Legal (h ++ g) → P (world_at h) (world_at (h ++ g))
legal_both P runs h g legal =
    let t = there (run (h ++ g)) legal in
    option_and_then_some (λ m. run_from m g) (run h) t.0 (sym (run_from-append empty h g) ∙ t.1)
    (λ w p q. subst (λ u. P u (world_at (h ++ g))) (sym (world_of_run h w p)) (subst (P w) (sym (world_of_run (h ++ g) t.0 t.1)) (runs w t.0 g q)))
