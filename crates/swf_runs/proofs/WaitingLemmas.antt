-- What goes on without a step listens, waits for a moment, or awaits an answer.
use Rattle.std.proofs.Common.{◌≡◌, ◌∙◌, refl, ap, sym, subst, cond, ℕ, zero, ◌+◌, ◌<◌, ◌⊎◌, inl, inr, ⊎_elim, List, [], ◌∷◌, map, length, codes, Bool, true, false, not, Option, Some, None, option_map, arith, ◌||◌}
use Rattle.std.proofs.lemmas.Bool.{or_cases, or_left, or_right, both_ways, cases_Bool}
use Rattle.std.proofs.lemmas.Option.{same_Some}
use Rattle.std.specs.List.{AllByRecursion, cons_option, filter, filter_map, list_any}
use Rattle.swf_text.specs.Same.{same}
use Rattle.swf_calls.specs.Request.{Request}
use Rattle.swf_text.proofs.SameLemmas.{same_refl}
use Rattle.swf_meaning.specs.Answer.{instance_at, status_of}
use Rattle.swf_meaning.specs.Complete.{Stepped}
use Rattle.swf_meaning.specs.Documents.{Loaded}
use Rattle.swf_meaning.specs.Listen.{is_heard}
use Rattle.swf_meaning.specs.Local.{is_enabled}
use Rattle.swf_meaning.specs.Node.{Node, Fresh, Live, Done, Fault, Inside, At, Later, Sleep, Hear, Await, Forked, Nodes, no_nodes, branch, Running}
use Rattle.swf_meaning.specs.Pending.{is_listening, open_call}
use Rattle.swf_meaning.specs.Strands.{tops, tops_inside, tops_from, can_top}
use Rattle.swf_meaning.specs.Top.{Top, Begins, Moves, Fails, Retries, Sleeps, Hears, Awaits, Splits, Ends, Breaks}
use Rattle.swf_meaning.specs.Wake.{until_top}
use Rattle.swf_meaning.specs.World.{World, Instance, step_at, with_step, site_of, line_of}
use Rattle.swf_meaning.specs.declared.label.Label.{Label}
use Rattle.swf_meaning.proofs.TopsLemmas.{any-branch}
use Rattle.swf_runs.specs.After.{after}
use Rattle.swf_runs.specs.Alive.{has_ended, some_goes_on, IsAlive, IsAliveInside, AreAlive, IsAllAlive}
use Rattle.swf_runs.specs.Waiting.{IsListed, IsWaitListed}
use Rattle.swf_runs.specs.Runs.{world_at, Legal}
use Rattle.swf_runs.proofs.AliveLemmas.{local_alive}
use Rattle.swf_runs.proofs.OfferLemmas.{alive_offered}
use Rattle.swf_runs.proofs.ReplyLemmas.{alive_replied}
use Rattle.swf_runs.proofs.WorldLemmas.{change, change_all, one_keeps, legal_keeps}

-- each step, each offer and each answer leaves an instance alive
step_alive : (now : ℕ) (ds : List Loaded) (strand : List ℕ) (i : Instance) (m : Stepped) → step_at now ds strand i ≡ Some m → IsAlive i.node → IsAlive (with_step i m).node
step_alive now ds strand i m s a = local_alive (site_of now ds i) (line_of i) strand i.node m s a

alive_after : (w m : World) (l : Label) → IsAllAlive w → after w l ≡ Some m → IsAllAlive m
alive_after w m l all e = change_all (λ i. IsAlive i.node) w m (λ id input d. tt) step_alive (λ x i a. alive_offered x i.node a) (λ c r i a. one_keeps (λ i. IsAlive i.node) c r i (alive_replied c r i.node a) a) all (change w m l e)

pub legal_alive : (h : List Label) → Legal h → IsAllAlive (world_at h)
legal_alive h legal = legal_keeps IsAllAlive alive_after tt h legal

-- something can take a step, or is listed
abbrev OrListed : Bool → ℕ → ℕ → ℕ → Type 0
OrListed enabled listens timers calls = (enabled ≡ true) ⊎ (0 < listens + timers + calls)

-- the strand has not ended, and is no `fork`
abbrev goes_on : Top → Bool
goes_on (Splits r ns) = false
goes_on (Ends w f) = false
goes_on (Breaks p) = false
goes_on t = true

abbrev listens : List (List ℕ × Top) → ℕ
listens ss = length (map {A = List ℕ × Top} (λ s. s.0) (filter (λ s. is_listening s.1) ss))

abbrev calls : List (List ℕ × Top) → ℕ
calls ss = length (filter_map {X = List ℕ × Top} {Y = List ℕ × Request} (λ s. open_call s.1) ss)

abbrev timers : List (List ℕ × Top) → ℕ
timers ss = length (filter_map {X = List ℕ × Top} {Y = List ℕ × ℕ} (λ s. option_map (λ m. (s.0, m)) (until_top s.1)) ss)

-- one more strand
more_listed : (now : ℕ) (bs : List ℕ) (t : Top) (ss : List (List ℕ × Top)) → OrListed (list_any (λ s. can_top now s.1) ss) (listens ss) (timers ss) (calls ss) → OrListed (list_any (λ s. can_top now s.1) ((bs, t) ∷ ss)) (listens ((bs, t) ∷ ss)) (timers ((bs, t) ∷ ss)) (calls ((bs, t) ∷ ss))
more_listed now bs t ss (inl e) = inl (or_right (can_top now t) (list_any (λ s. can_top now s.1) ss) e)
more_listed now bs t ss (inr h) = inr (by (is_listening t) (until_top t) (open_call t))
  where
    by : (b : Bool) (o : Option ℕ) (c : Option (List ℕ × Request)) → 0 < length (map {A = List ℕ × Top} (λ s. s.0) (cond b ((bs, t) ∷ filter (λ s. is_listening s.1) ss) (filter (λ s. is_listening s.1) ss))) + length (cons_option {X = List ℕ × ℕ} (option_map (λ m. (bs, m)) o) (filter_map (λ s. option_map (λ m. (s.0, m)) (until_top s.1)) ss)) + length (cons_option {X = List ℕ × Request} c (filter_map (λ s. open_call s.1) ss))
    by true None None = omega arith
    by true None (Some q) = omega arith
    by true (Some m) None = omega arith
    by true (Some m) (Some q) = omega arith
    by false None None = h
    by false None (Some q) = omega arith
    by false (Some m) None = omega arith
    by false (Some m) (Some q) = omega arith

one_listed : (now : ℕ) (bs : List ℕ) (t : Top) (ss : List (List ℕ × Top)) → goes_on t ≡ true → OrListed (list_any (λ s. can_top now s.1) ((bs, t) ∷ ss)) (listens ((bs, t) ∷ ss)) (timers ((bs, t) ∷ ss)) (calls ((bs, t) ∷ ss))
one_listed now bs (Begins r v) ss e = inl refl
one_listed now bs (Moves r round i w f) ss e = inl refl
one_listed now bs (Fails r round i p) ss e = inl refl
one_listed now bs (Retries r n m) ss e = inr (omega arith)
one_listed now bs (Sleeps r m) ss e = inr (omega arith)
one_listed now bs (Hears r bound hs) ss e = by (is_heard r.task hs)
  where
    by : (heard : Bool) → OrListed (heard || list_any (λ s. can_top now s.1) ss) (length (map {A = List ℕ × Top} (λ s. s.0) (cond (not heard) ((bs, Hears r bound hs) ∷ filter (λ s. is_listening s.1) ss) (filter (λ s. is_listening s.1) ss)))) (timers ss) (calls ss)
    by true = inl refl
    by false = inr (omega arith)
one_listed now bs (Awaits r a q None) ss e = inr (omega arith)
one_listed now bs (Awaits r a q (Some p)) ss e = inl refl
one_listed now bs (Splits r ns) ss e = cc
one_listed now bs (Ends w f) ss e = cc
one_listed now bs (Breaks p) ss e = cc

-- some of these go on
some_listed : (now : ℕ) (ss : List (List ℕ × Top)) → list_any (λ s. goes_on s.1) ss ≡ true → OrListed (list_any (λ s. can_top now s.1) ss) (listens ss) (timers ss) (calls ss)
some_listed now [] e = cc
some_listed now (s ∷ ss) e = elim (or_cases (goes_on s.1) (list_any (λ s. goes_on s.1) ss) e) [
  | inl own ↦ one_listed now s.0 s.1 ss own
  | inr more ↦ more_listed now s.0 s.1 ss (some_listed now ss more)
]

goes_later : (e b : Bool) → e ≡ true → cond e b true ≡ true → b ≡ true
goes_later true b p h = h
goes_later false b p h = cc

-- of a node that has not ended some strand goes on
mutual
  some_on : (n : Node) → IsAlive n → has_ended n ≡ false → list_any (λ s. goes_on s.1) (tops n) ≡ true
  some_on (Fresh t v) a h = refl
  some_on (Live r k) a h = some_on_inside r k a
  some_on (Done w f) a h = cc
  some_on (Fault p) a h = cc

  some_on_inside : (r : Running) (k : Inside) → IsAliveInside r.task k → list_any (λ s. goes_on s.1) (tops_inside r k) ≡ true
  some_on_inside r (At round i (Fresh t v)) a = refl
  some_on_inside r (At round i (Live q k)) a = some_on_inside q k a
  some_on_inside r (At round i (Done w f)) a = refl
  some_on_inside r (At round i (Fault p)) a = refl
  some_on_inside r (Later n m) a = refl
  some_on_inside r (Sleep m) a = refl
  some_on_inside r (Hear bound hs) a = refl
  some_on_inside r (Await b q o) a = refl
  some_on_inside r (Forked ns) a = some_on_among ns a.0 a.2

  some_on_among : (ns : Nodes) → some_goes_on ns ≡ true → AreAlive ns → list_any (λ s. goes_on s.1) (tops_from zero ns) ≡ true
  some_on_among no_nodes on a = cc
  some_on_among (branch n ns) on a = any-branch goes_on n ns ∙ elim (cases_Bool (has_ended n)) [
    | inl e ↦ or_right (list_any (λ s. goes_on s.1) (tops n)) (list_any (λ s. goes_on s.1) (tops_from zero ns)) (some_on_among ns (goes_later (has_ended n) (some_goes_on ns) e on) a.2)
    | inr e ↦ or_left (list_any (λ s. goes_on s.1) (tops n)) (list_any (λ s. goes_on s.1) (tops_from zero ns)) (some_on n a.1 e)
  ]

-- another word than `waiting`
other_word : (x : List ℕ) → same x (codes "waiting") ≡ false → x ≡ codes "waiting" → ⊥
other_word x f e = both_ways (same x (codes "waiting")) f (ap (λ y. same y (codes "waiting")) e ∙ same_refl (codes "waiting"))

not_running : (b : Bool) → cond b (codes "running") (codes "waiting") ≡ codes "waiting" → b ≡ false
not_running true e = absurd (other_word (codes "running") refl e)
not_running false e = refl

-- what is waiting has not ended, and is not enabled
waits_on : (now : ℕ) (n : Node) → status_of now n ≡ codes "waiting" → (has_ended n ≡ false) × (is_enabled now n ≡ false)
waits_on now (Fresh t v) e = (refl, not_running true e)
waits_on now (Live r k) e = (refl, not_running (is_enabled now (Live r k)) e)
waits_on now (Done w f) e = absurd (other_word (codes "completed") refl e)
waits_on now (Fault p) e = absurd (other_word (codes "faulted") refl e)

listed : (now : ℕ) (n : Node) → IsAlive n → status_of now n ≡ codes "waiting" → IsListed n
listed now n a e =
    let h = waits_on now n e in
    ⊎_elim (λ t. let f : false ≡ true = sym h.1 ∙ t in cc) (λ l. l) (some_listed now (tops n) (some_on n a h.0))

-- what holds of all holds of the instance of an id
of_id : (Q : Instance → Type 0) (id : List ℕ) (is : List Instance) (i : Instance) → AllByRecursion Q is → instance_at id is ≡ Some i → Q i
of_id Q id [] i all e = cc
of_id Q id (x ∷ xs) i all e = by (same id x.id) e (of_id Q id xs i all.1)
  where
    by : (b : Bool) → cond b (Some x) (instance_at id xs) ≡ Some i → (instance_at id xs ≡ Some i → Q i) → Q i
    by true e rest = subst Q (same_Some x i e) all.0
    by false e rest = rest e

pub legal_waiting : (h : List Label) → Legal h → IsWaitListed (world_at h)
legal_waiting h legal id i e s =
    let w = world_at h in
    listed w.now i.node (of_id (λ i. IsAlive i.node) id w.instances i (legal_alive h legal) e) s
