-- What has ended stays as it is, whatever comes after it.
use Rattle.std.proofs.Common.{◌≡◌, ◌∙◌, refl, ap, sym, subst, cond, ℕ, List, [], ◌∷◌, ◌++◌, map, codes, Bool, true, false, Option, Some, None, option_map}
use Rattle.std.proofs.lemmas.Option.{same_Some}
use Rattle.swf_value.specs.Value.{text, object, no_members, member}
use Rattle.swf_calls.specs.declared.reply.CallReply.{CallReply}
use Rattle.swf_cloudevents.specs.declared.event.Event.{Event}
use Rattle.swf_text.specs.Same.{same}
use Rattle.swf_meaning.specs.Answer.{instance_at, report, status_of, with_error, with_output}
use Rattle.swf_meaning.specs.Complete.{Stepped}
use Rattle.swf_meaning.specs.Documents.{Loaded}
use Rattle.swf_meaning.specs.Local.{local}
use Rattle.swf_meaning.specs.Node.{Node, Fresh, Live, Done, Fault}
use Rattle.swf_meaning.specs.Offer.{offered_one, offered_all}
use Rattle.swf_meaning.specs.World.{World, Instance, step_at, with_step, new_instance, site_of, line_of}
use Rattle.swf_meaning.specs.Line.{Line, Site}
use Rattle.swf_meaning.specs.declared.label.Label.{Label}
use Rattle.swf_runs.specs.After.{replied_one, stepped}
use Rattle.swf_runs.specs.Alive.{has_ended}
use Rattle.swf_runs.specs.Stays.{Stays}
use Rattle.swf_runs.specs.Runs.{run_from, world_at, Legal}
use Rattle.swf_runs.proofs.OfferLemmas.{ended_offered}
use Rattle.swf_runs.proofs.OnceLemmas.{mapped_some}
use Rattle.swf_runs.proofs.ReplyLemmas.{ended_replied}
use Rattle.swf_runs.proofs.WorldLemmas.{sent_to, Change, Kept, Began, Heard, Answered, Took, change, one_keeps, run_keeps, legal_both}

-- the first of an id is still so where more come behind
at_before : (id : List ℕ) (is js : List Instance) (i : Instance) → instance_at id is ≡ Some i → instance_at id (is ++ js) ≡ Some i
at_before id [] js i e = cc
at_before id (x ∷ xs) js i e = by (same id x.id) e (at_before id xs js i)
  where
    by : (b : Bool) → cond b (Some x) (instance_at id xs) ≡ Some i → (instance_at id xs ≡ Some i → instance_at id (xs ++ js) ≡ Some i) → cond b (Some x) (instance_at id (xs ++ js)) ≡ Some i
    by true e h = e
    by false e h = h e

-- where ids stay, what becomes of the instance of an id is what becomes of that one
at_each : (id : List ℕ) (f : Instance → Instance) → ((i : Instance) → (f i).id ≡ i.id) → (is : List Instance) → instance_at id (map f is) ≡ option_map f (instance_at id is)
at_each id f kept [] = refl
at_each id f kept (x ∷ xs) = ap (λ k. cond (same id k) (Some (f x)) (instance_at id (map f xs))) (kept x) ∙ by (same id x.id) (at_each id f kept xs)
  where
    by : (b : Bool) → instance_at id (map f xs) ≡ option_map f (instance_at id xs) → cond b (Some (f x)) (instance_at id (map f xs)) ≡ option_map f (cond b (Some x) (instance_at id xs))
    by true h = refl
    by false h = h

ended_answered : (id a : List ℕ) (r : CallReply) (is : List Instance) (i : Instance) → has_ended i.node ≡ true → instance_at id is ≡ Some i → instance_at id (map (replied_one a r) is) ≡ Some i
ended_answered id a r is i h p =
    at_each id (replied_one a r) (λ j. one_keeps (λ k. k.id ≡ j.id) a r j refl refl) is ∙ ap (option_map (replied_one a r)) p ∙ ap (λ j. Some j) (ended_replied a r i h)

ended_heard : (id : List ℕ) (e : Event) (is : List Instance) (i : Instance) → has_ended i.node ≡ true → instance_at id is ≡ Some i → instance_at id (offered_all e is) ≡ Some i
ended_heard id e is i h p = at_each id (offered_one e) (λ j. refl) is ∙ ap (option_map (offered_one e)) p ∙ ap (λ j. Some j) (ended_offered e i h)

ended_sent : (id : List ℕ) (o : Option Event) (is : List Instance) (i : Instance) → has_ended i.node ≡ true → instance_at id is ≡ Some i → instance_at id (sent_to o is) ≡ Some i
ended_sent id None is i h p = p
ended_sent id (Some e) is i h p = ended_heard id e is i h p

-- no rule applies to what has ended
ended_still : (s : Site) (l : Line) (bs : List ℕ) (n : Node) → has_ended n ≡ true → local s l bs n ≡ None
ended_still s l bs (Fresh t v) h = cc
ended_still s l bs (Live r k) h = cc
ended_still s l [] (Done w f) h = refl
ended_still s l (b ∷ bs) (Done w f) h = refl
ended_still s l [] (Fault p) h = refl
ended_still s l (b ∷ bs) (Fault p) h = refl

-- the one that takes a step has not ended
stepped_ended : (now : ℕ) (ds : List Loaded) (strand : List ℕ) (x i : Instance) (m : Stepped) → has_ended i.node ≡ true → step_at now ds strand x ≡ Some m → Some x ≡ Some i → ⊥
stepped_ended now ds strand x i m h s e =
    let none = ended_still (site_of now ds x) (line_of x) strand x.node (ap (λ y. has_ended y.node) (same_Some x i e) ∙ h) in
    let f : None ≡ Some m = sym none ∙ s in
    cc

taken_ended : (now : ℕ) (ds : List Loaded) (id strand : List ℕ) (is : List Instance) (js : List Instance × Option Event) (k : List ℕ) (i : Instance) → has_ended i.node ≡ true → stepped now ds id strand is ≡ Some js → instance_at k is ≡ Some i → instance_at k js.0 ≡ Some i
taken_ended now ds id strand [] js k i h s p = cc
taken_ended now ds id strand (x ∷ xs) js k i h s p = by (same id x.id) s (λ q a. taken_ended now ds id strand xs q k i h a)
  where
    own : (m : Stepped) → step_at now ds strand x ≡ Some m → (c : Bool) → cond c (Some x) (instance_at k xs) ≡ Some i → cond c (Some (with_step x m)) (instance_at k xs) ≡ Some i
    own m a true e = absurd (stepped_ended now ds strand x i m h a e)
    own m a false e = e

    other : (q : List Instance × Option Event) → (instance_at k xs ≡ Some i → instance_at k q.0 ≡ Some i) → (c : Bool) → cond c (Some x) (instance_at k xs) ≡ Some i → cond c (Some x) (instance_at k q.0) ≡ Some i
    other q f true e = e
    other q f false e = f e

    by : (b : Bool) → cond b (option_map (λ (m : Stepped). (with_step x m ∷ xs, m.emitted)) (step_at now ds strand x)) (option_map (λ (q : List Instance × Option Event). (x ∷ q.0, q.1)) (stepped now ds id strand xs)) ≡ Some js →
        ((q : List Instance × Option Event) → stepped now ds id strand xs ≡ Some q → instance_at k xs ≡ Some i → instance_at k q.0 ≡ Some i) → instance_at k js.0 ≡ Some i
    by true s rest = mapped_some (λ (m : Stepped). (with_step x m ∷ xs, m.emitted)) (step_at now ds strand x) js s
        (λ m a q. subst (λ (j : List Instance × Option Event). instance_at k j.0 ≡ Some i) q (own m a (same k x.id) p))
    by false s rest = mapped_some (λ (q : List Instance × Option Event). (x ∷ q.0, q.1)) (stepped now ds id strand xs) js s
        (λ q a e. subst (λ (j : List Instance × Option Event). instance_at k j.0 ≡ Some i) e (other q (rest q a) (same k x.id) p))

-- an instance that has ended is the same one after a label
ended_after : (id : List ℕ) (i : Instance) → has_ended i.node ≡ true → (w m : World) → instance_at id w.instances ≡ Some i → Change w m → instance_at id m.instances ≡ Some i
ended_after id i h w m p (Kept e later) = ap (instance_at id) e ∙ p
ended_after id i h w m p (Began new input d unused used room e now) = ap (instance_at id) e ∙ at_before id w.instances (new_instance new input w.now d ∷ []) i p
ended_after id i h w m p (Heard x e now) = ap (instance_at id) e ∙ ended_heard id x w.instances i h p
ended_after id i h w m p (Answered a r e now) = ap (instance_at id) e ∙ ended_answered id a r w.instances i h p
ended_after id i h w m p (Took new strand js s e now) = ap (instance_at id) e ∙ ended_sent id js.1 js.0 i h (taken_ended w.now w.documents new strand w.instances js id i h s p)

ended_run : (id : List ℕ) (i : Instance) → has_ended i.node ≡ true → (w m : World) (ls : List Label) → run_from w ls ≡ Some m → instance_at id w.instances ≡ Some i → instance_at id m.instances ≡ Some i
ended_run id i h w m ls e p = run_keeps (λ u. instance_at id u.instances ≡ Some i) (λ u v l q a. ended_after id i h u v q (change u v l a)) w m ls e p

-- its report is the same at any moment
status_same : (now moment : ℕ) (n : Node) → has_ended n ≡ true → status_of moment n ≡ status_of now n
status_same now moment (Fresh t v) h = cc
status_same now moment (Live r k) h = cc
status_same now moment (Done w f) h = refl
status_same now moment (Fault p) h = refl

report_same : (now moment : ℕ) (i : Instance) → has_ended i.node ≡ true → report moment i ≡ report now i
report_same now moment i h =
    ap (λ s. object (member (codes "context") i.context (with_error i.node (member (codes "id") (text i.id) (with_output i.node (member (codes "status") (text s) no_members))))))
    (status_same now moment i.node h)

stays_after : (w m : World) (ls : List Label) → run_from w ls ≡ Some m → Stays w m
stays_after w m ls e id v ended known =
    let i = ended.0 in
    ap (option_map (report m.now)) (ended_run id i ended.2 w m ls e ended.1) ∙ ap (λ r. Some r) (report_same w.now m.now i ended.2)
    ∙ sym (ap (option_map (report w.now)) ended.1) ∙ known

-- of legal histories
pub legal_stays : (h g : List Label) → Legal (h ++ g) → Stays (world_at h) (world_at (h ++ g))
legal_stays h g legal = legal_both Stays stays_after h g legal
