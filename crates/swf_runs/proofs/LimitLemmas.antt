-- No step and no label passes the limits on documents, instances and branches.
use Rattle.std.proofs.Common.{◌≡◌, ◌∙◌, refl, ap, sym, subst, cond, if◌then◌else◌, ℕ, zero, suc, ◌+◌, ◌≤◌, ◌||◌, inl, inr, List, [], ◌∷◌, length, length-append, nat_le, Bool, true, false, Option, Some, None, option_map, Result, Ok, Err, arith}
use Rattle.std.proofs.lemmas.Bool.{or_parts, leb-false}
use Rattle.std.proofs.lemmas.List.{length-map}
use Rattle.std.proofs.lemmas.Option.{same_Some, option_and_then_some}
use Rattle.std.specs.List.{AllByRecursion}
use Rattle.swf_value.specs.Value.{Value, list, Members}
use Rattle.swf_value.specs.Node.{items_of}
use Rattle.swf_calls.specs.declared.reply.CallReply.{CallReply}
use Rattle.swf_cloudevents.specs.declared.event.Event.{Event}
use Rattle.swf_document.specs.declared.common.Flow.{Flow}
use Rattle.swf_document.specs.declared.common.Flow.TheVariants as flows
use Rattle.swf_document.specs.declared.error.Problem.{Problem}
use Rattle.swf_meaning.specs.Around.{seen}
use Rattle.swf_meaning.specs.Complete.{Stepped, step_of, complete}
use Rattle.swf_meaning.specs.Fork.{count, most_branches, put, outputs, joined, settled, after_branch, competes}
use Rattle.swf_meaning.specs.Line.{Line, Site}
use Rattle.swf_meaning.specs.Node.{Node, Fresh, Live, Done, Fault, Inside, At, Later, Sleep, Hear, Await, Forked, Nodes, no_nodes, branch, Round, Running}
use Rattle.swf_meaning.specs.Offer.{or_same, takes_by, offered, offered_inside, offered_among, offered_one}
use Rattle.swf_meaning.specs.Parts.{kind_of, listen_in}
use Rattle.swf_meaning.specs.Put.{keeping, put_at, put_inside, put_branch}
use Rattle.swf_meaning.specs.Strands.{branches_in}
use Rattle.swf_meaning.specs.World.{World, Instance, empty, step_at, with_step, new_instance, site_of, line_of}
use Rattle.swf_meaning.specs.declared.heard.Heard.{Heard}
use Rattle.swf_meaning.specs.declared.key.Key.TheVariants.{Document as OfDocument, Instance as OfInstance, Event as OfEvent, Moment as OfMoment}
use Rattle.swf_meaning.specs.declared.label.Label.{Label}
use Rattle.swf_meaning.specs.declared.label.Label.TheVariants.{Load, Start, Event as Told, Reply, Moment, Step}
use Rattle.swf_meaning.proofs.ReplyLemmas.{branches_replied}
use Rattle.swf_meaning.proofs.TopsLemmas.{strands_among, strands_among-branch, branches_in-fork, branches_in-at}
use Rattle.swf_meaning.specs.Documents.{Loaded, document_at}
use Rattle.swf_runs.specs.After.{is_used, with_document, loaded, accepted, most_documents, with_instance, most_instances, with_event, replied_one, stepped, sent, with_instances, counted, after}
use Rattle.swf_runs.specs.Kept.{ids}
use Rattle.swf_runs.specs.Within.{IsWithin}
use Rattle.swf_runs.specs.Runs.{world_at, Legal}
use Rattle.swf_runs.proofs.KeepLemmas.{IdsAfter, ids_after}
use Rattle.swf_runs.proofs.OnceLemmas.{mapped_some, refused_some, replied_some}
use Rattle.swf_runs.proofs.RuleLemmas.{AreFresh, IsMade, IsMadeInside, Yields, completes, local_put}
use Rattle.swf_runs.proofs.WorldLemmas.{Change, change, change_all, one_keeps, legal_keeps}

-- branches that have not begun are one strand each
one_each : (ns : Nodes) → AreFresh ns → strands_among ns ≡ count ns
one_each no_nodes h = refl
one_each (branch (Fresh t v) ns) h = let e = one_each ns h.1 in omega (arith, e, strands_among-branch (Fresh t v) ns)
one_each (branch (Live r k) ns) h = absurd h.0
one_each (branch (Done w f) ns) h = absurd h.0
one_each (branch (Fault p) ns) h = absurd h.0

-- with the branches of a node that a rule makes the instance has not too many
made_inside : (s : Site) (r : Running) (k : Inside) → s.branches ≤ most_branches → IsMadeInside s k → s.branches + branches_in (Live r k) ≤ most_branches
made_inside s r (At round i (Fresh t v)) few h = omega (arith, few)
made_inside s r (At round i (Live q k)) few h = absurd h
made_inside s r (At round i (Done w f)) few h = omega (arith, few)
made_inside s r (At round i (Fault p)) few h = omega (arith, few)
made_inside s r (Later n m) few h = omega (arith, few)
made_inside s r (Sleep m) few h = omega (arith, few)
made_inside s r (Hear bound hs) few h = omega (arith, few)
made_inside s r (Await a q o) few h = omega (arith, few)
made_inside s r (Forked no_nodes) few h = absurd h
made_inside s r (Forked (branch n ns)) few h = omega (arith, h.0, one_each (branch n ns) h.1, branches_in-fork r (branch n ns))

made_few : (s : Site) (n : Node) → s.branches ≤ most_branches → IsMade s n → s.branches + branches_in n ≤ most_branches
made_few s (Fresh t v) few h = omega (arith, few)
made_few s (Live r k) few h = made_inside s r k few h
made_few s (Done w f) few h = omega (arith, few)
made_few s (Fault p) few h = omega (arith, few)

-- with another node in place of one of so many branches the instance has not too many
abbrev Fits : Site → ℕ → Node → Type 0
Fits s k n = s.branches + branches_in n ≤ most_branches + k

abbrev Gives : Site → ℕ → Result Stepped Problem → Type 0
Gives s k (Ok m) = Fits s k m.node
Gives s k (Err p) = Unit {0}

yields_few : (s : Site) (k : ℕ) (o : Result Stepped Problem) → s.branches ≤ most_branches → Yields s o → Gives s k o
yields_few s k (Ok m) few h = let f = made_few s m.node few h in omega (arith, f)
yields_few s k (Err p) few h = tt

gives_on : (s : Site) (k : ℕ) (l : Line) (o : Result Stepped Problem) → s.branches ≤ most_branches → Gives s k o → Fits s k (step_of l o).node
gives_on s k l (Ok m) few h = h
gives_on s k l (Err p) few h = omega (arith, few)

-- with another branch in the place of one
abbrev FitsAmong : Site → Nodes → ℕ → Node → Type 0
FitsAmong s ns b m = s.branches + strands_among (put ns b m) ≤ most_branches + strands_among ns

first_among : (s : Site) (n m : Node) (ns : Nodes) → Fits s (branches_in n) m → FitsAmong s (branch n ns) zero m
first_among s n m ns h = omega (arith, h, strands_among-branch n ns, strands_among-branch m ns)

later_among : (s : Site) (n m : Node) (ns : Nodes) (b : ℕ) → FitsAmong s ns b m → FitsAmong s (branch n ns) (suc b) m
later_among s n m ns b h = omega (arith, h, strands_among-branch n ns, strands_among-branch n (put ns b m))

either_few : (s : Site) (k : ℕ) (b : Bool) (x y : Result Stepped Problem) → Gives s k x → Gives s k y → Gives s k (cond b x y)
either_few s k true x y h g = h
either_few s k false x y h g = g

joins_few : (s : Site) (k : ℕ) (l : Line) (r : Running) (ns : Nodes) (o : Option (List Value)) → s.branches ≤ most_branches → s.branches + strands_among ns ≤ most_branches + k → Gives s k (joined l r ns o)
joins_few s k l r ns None few h = omega (arith, h, branches_in-fork r ns)
joins_few s k l r ns (Some ws) few h = yields_few s k (complete l r (list (items_of ws))) few (completes s l r (list (items_of ws)))

settles_few : (s : Site) (k : ℕ) (l : Line) (r : Running) (compete : Bool) (ns : Nodes) (m : Node) → s.branches ≤ most_branches → s.branches + strands_among ns ≤ most_branches + k → Gives s k (settled l r compete ns m)
settles_few s k l r compete ns (Fresh t v) few h = omega (arith, h, branches_in-fork r ns)
settles_few s k l r compete ns (Live q x) few h = omega (arith, h, branches_in-fork r ns)
settles_few s k l r compete ns (Done w f) few h = by f
  where
    done : Gives s k (if compete then complete l r w else joined l r ns (outputs ns))
    done = either_few s k compete (complete l r w) (joined l r ns (outputs ns)) (yields_few s k (complete l r w) few (completes s l r w)) (joins_few s k l r ns (outputs ns) few h)

    by : (g : Flow) → Gives s k (settled l r compete ns (Done w g))
    by flows.Continue = done
    by flows.Exit = done
    by flows.End = omega (arith, few)
    by (flows.Task n) = done
settles_few s k l r compete ns (Fault p) few h = tt

branch_few : (s : Site) (l : Line) (r : Running) (ns : Nodes) (b : ℕ) (m : Stepped) → s.branches ≤ most_branches → FitsAmong s ns b m.node → Fits s (branches_in (Live r (Forked ns))) (after_branch l r ns b m).node
branch_few s l r ns b m few h =
    let all = gives_on s (strands_among ns) l (settled l r (competes r.task) (put ns b m.node) m.node) few
    (settles_few s (strands_among ns) l r (competes r.task) (put ns b m.node) m.node few h) in
    omega (arith, all, branches_in-fork r ns)

-- with another node in a round
round_few : (s : Site) (k : ℕ) (r : Running) (round : Round) (i : ℕ) (n : Node) → Fits s k n → Fits s k (Live r (At round i n))
round_few s k r round i n h = omega (arith, h, branches_in-at r round i n)

-- with a node of none in the place of the top
mutual
  put_few : (s : Site) (l : Line) (bs : List ℕ) (n : Node) (m : Stepped) → s.branches ≤ most_branches → Fits s zero m.node → Fits s (branches_in n) (put_at l bs n m).node
  put_few s l bs (Fresh t v) m few h = h
  put_few s l bs (Live r k) m few h = inside_few s l bs r k m few h
  put_few s l bs (Done w f) m few h = h
  put_few s l bs (Fault p) m few h = h

  inside_few : (s : Site) (l : Line) (bs : List ℕ) (r : Running) (k : Inside) (m : Stepped) → s.branches ≤ most_branches → Fits s zero m.node → Fits s (branches_in (Live r k)) (put_inside l bs r k m).node
  inside_few s l bs r (At round i (Fresh t v)) m few h = round_few s zero r (keeping round m.context) i m.node h
  inside_few s l bs r (At round i (Live q k)) m few h =
      let z = seen l r.task round in
      let x = put_inside z bs q k m in
      round_few s (branches_in (Live q k)) r (keeping round x.context) i x.node (inside_few s z bs q k m few h)
  inside_few s l bs r (At round i (Done w f)) m few h = h
  inside_few s l bs r (At round i (Fault p)) m few h = h
  inside_few s l bs r (Later n until) m few h = h
  inside_few s l bs r (Sleep until) m few h = h
  inside_few s l bs r (Hear bound hs) m few h = h
  inside_few s l bs r (Await a q o) m few h = h
  inside_few s l [] r (Forked ns) m few h = omega (arith, h)
  inside_few s l (b ∷ bs) r (Forked ns) m few h = branch_few s l r ns b (put_branch l b bs ns m) few (among_few s l b bs ns m few h)

  among_few : (s : Site) (l : Line) (b : ℕ) (bs : List ℕ) (ns : Nodes) (m : Stepped) → s.branches ≤ most_branches → Fits s zero m.node → FitsAmong s ns b (put_branch l b bs ns m).node
  among_few s l b bs no_nodes m few h = omega (arith, few)
  among_few s l zero bs (branch n ns) m few h = first_among s n (put_at l bs n m).node ns (put_few s l bs n m few h)
  among_few s l (suc b) bs (branch n ns) m few h = later_among s n (put_branch l b bs ns m).node ns b (among_few s l b bs ns m few h)

-- an offer changes no number of branches
or_same_few : (r : Running) (bound : Members) (hs : List Heard) (o : Option (Members × List Heard)) → branches_in (Live r (or_same bound hs o).0) ≡ zero
or_same_few r bound hs None = refl
or_same_few r bound hs (Some p) = refl

mutual
  offered_few : (e : Event) (n : Node) → branches_in (offered e n).0 ≡ branches_in n
  offered_few e (Fresh t v) = refl
  offered_few e (Live r k) = offered_inside_few e r k
  offered_few e (Done w f) = refl
  offered_few e (Fault p) = refl

  offered_inside_few : (e : Event) (r : Running) (k : Inside) → branches_in (Live r (offered_inside e r.task k).0) ≡ branches_in (Live r k)
  offered_inside_few e r (At round i n) = branches_in-at r round i (offered e n).0 ∙ offered_few e n ∙ sym (branches_in-at r round i n)
  offered_inside_few e r (Later n m) = refl
  offered_inside_few e r (Sleep m) = refl
  offered_inside_few e r (Hear bound hs) = or_same_few r bound hs (takes_by (listen_in (kind_of r.task)) bound hs e)
  offered_inside_few e r (Await a q o) = refl
  offered_inside_few e r (Forked ns) = branches_in-fork r (offered_among e ns).0 ∙ offered_among_few e ns ∙ sym (branches_in-fork r ns)

  offered_among_few : (e : Event) (ns : Nodes) → strands_among (offered_among e ns).0 ≡ strands_among ns
  offered_among_few e no_nodes = refl
  offered_among_few e (branch n ns) =
      strands_among-branch (offered e n).0 (offered_among e ns).0 ∙ (λ i. offered_few e n i + 1 + offered_among_few e ns i) ∙ sym (strands_among-branch n ns)

-- of an instance
abbrev IsFew : Instance → Type 0
IsFew i = branches_in i.node ≤ most_branches

step_few : (now : ℕ) (ds : List Loaded) (strand : List ℕ) (i : Instance) (m : Stepped) → step_at now ds strand i ≡ Some m → IsFew i → IsFew (with_step i m)
step_few now ds strand i m e few =
    let s = site_of now ds i in
    let l = line_of i in
    let p = local_put s l strand i.node m e in
    let made = made_few s p.0.node few p.1 in
    let h : branches_in i.node + branches_in m.node ≤ most_branches + branches_in i.node = subst (λ (x : Stepped). Fits s (branches_in i.node) x.node) (sym p.2) (put_few s l strand i.node p.0 few (omega (arith, made))) in
    omega (arith, h)

offer_few : (e : Event) (i : Instance) → IsFew i → IsFew (offered_one e i)
offer_few e i few = omega (arith, few, offered_few e i.node)

answer_few : (a : List ℕ) (r : CallReply) (i : Instance) → IsFew i → IsFew (replied_one a r i)
answer_few a r i few = one_keeps IsFew a r i (omega (arith, few, branches_replied a r i.node)) few

few_after : (w m : World) → AllByRecursion IsFew w.instances → Change w m → AllByRecursion IsFew m.instances
few_after w m all c = change_all IsFew w m (λ id input d. omega arith) step_few offer_few answer_few all c

sent_documents : (w : World) (o : Option Event) → (sent w o).documents ≡ w.documents
sent_documents w None = refl
sent_documents w (Some e) = refl

same_documents : (w m : World) → length w.documents ≤ most_documents → m.documents ≡ w.documents → length m.documents ≤ most_documents
same_documents w m few e = omega (arith, few, ap length e)

-- a load adds a document where there is room
documents_after : (w m : World) (l : Label) → length w.documents ≤ most_documents → after w l ≡ Some m → length m.documents ≤ most_documents
documents_after w m (Load v) few e = option_and_then_some (loaded w v) (accepted v) m e
    (λ d p q.
    let h = refused_some (is_used (OfDocument d.key) w || nat_le most_documents (length w.documents)) (Some (with_document w v d)) m q in
    let room = leb-false most_documents (length w.documents) (or_parts (is_used (OfDocument d.key) w) (nat_le most_documents (length w.documents)) h.0).1 in
    let more = ap (λ u. length u.documents) (sym (same_Some (with_document w v d) m h.1)) ∙ length-append w.documents ((record { value = v; document = d }) ∷ []) in
    omega (arith, room, more))
documents_after w m (Start id key input) few e =
    let h = refused_some (is_used (OfInstance id) w || nat_le most_instances (length w.instances)) (option_map (λ d. with_instance w (new_instance id input w.now d)) (document_at key w.documents)) m e in
    mapped_some (λ d. with_instance w (new_instance id input w.now d)) (document_at key w.documents) m h.1 (λ d p q. same_documents w m few (ap (λ u. u.documents) (sym q)))
documents_after w m (Told x) few e =
    let h = refused_some (is_used (OfEvent x.source x.id) w) (Some (with_event w x)) m e in
    same_documents w m few (ap (λ u. u.documents) (sym (same_Some (with_event w x) m h.1)))
documents_after w m (Reply a x) few e = let h = replied_some w m a x e in same_documents w m few (ap (λ u. u.documents) (sym h.2))
documents_after w m (Moment t) few e =
    let h = refused_some (nat_le t w.now) (Some (record (counted (OfMoment t) w) { now = t })) m e in
    same_documents w m few (ap (λ u. u.documents) (sym (same_Some (record (counted (OfMoment t) w) { now = t }) m h.1)))
documents_after w m (Step id strand) few e =
    mapped_some (with_instances w) (stepped w.now w.documents id strand w.instances) m e
    (λ js p q. same_documents w m few (ap (λ u. u.documents) (sym q) ∙ sent_documents (record w { instances = js.0; count = w.count + 1 }) js.1))

instances_after : (w m : World) → length w.instances ≤ most_instances → IdsAfter w m → length m.instances ≤ most_instances
instances_after w m few (inl e) = omega (arith, few, ap length e, length-map m.instances (λ i. i.id), length-map w.instances (λ i. i.id))
instances_after w m few (inr h) = omega (arith, h.4, ap length h.3, length-append (ids w.instances) (h.0 ∷ []), length-map m.instances (λ i. i.id), length-map w.instances (λ i. i.id))

within_after : (w m : World) (l : Label) → IsWithin w → after w l ≡ Some m → IsWithin m
within_after w m l x e =
    let c = change w m l e in
    record { documents = documents_after w m l x.documents e; instances = instances_after w m x.instances (ids_after w m c); branches = few_after w m x.branches c }

empty_within : IsWithin empty
empty_within = record { documents = omega arith; instances = omega arith; branches = tt }

pub legal_within : (h : List Label) → Legal h → IsWithin (world_at h)
legal_within h legal = legal_keeps IsWithin within_after empty_within h legal
