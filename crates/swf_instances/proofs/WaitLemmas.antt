-- Until when instances wait, at one moment and at a later one.
use Rattle.std.proofs.Common.{◌≡◌, ◌∙◌, refl, ap, sym, ℕ, zero, suc, ◌||◌, ◌⊎◌, inl, inr, List, [], ◌∷◌, ◌++◌, nat_le, true, is_some, Option, Some, None}
use Rattle.std.specs.Prelude.{min, slice_set}
use Rattle.std.proofs.Math.Bool.{or_assoc, or-false}
use Rattle.std.proofs.lemmas.Bool.{or_cases, or_left, or_right}
use Rattle.std.proofs.lemmas.List.{map-append}
use Rattle.std.specs.List.{cons_option, filter_map, fold, list_any, reduce}
use Rattle.swf_meaning.specs.Listen.{is_heard}
use Rattle.swf_meaning.specs.Node.{Node}
use Rattle.swf_meaning.specs.Strands.{tops, can_top}
use Rattle.swf_meaning.specs.Top.{Top, Begins, Moves, Fails, Retries, Sleeps, Hears, Awaits, Splits, Ends, Breaks}
use Rattle.swf_meaning.specs.Wake.{waits, until_top, is_due as is_due_in}
use Rattle.swf_meaning.specs.World.{Instance}
use Rattle.swf_strands.specs.Alarm.{alarm_of}
use Rattle.swf_queue.specs.Alarms.{is_by, is_due}
use Rattle.swf_queue.specs.Queue.{is_among}
use Rattle.swf_queue.proofs.AlarmLemmas.{is_by_sooner}
use Rattle.swf_instances.specs.Offers.{put_at}
use Rattle.swf_instances.specs.Queued.{Queued, enabled_at}
use Rattle.swf_instances.specs.Waits.{alarms_of}

-- the least of moments has come where one of them has
least_by : (moment m : ℕ) (ms : List ℕ) → nat_le (fold min m ms) moment ≡ (nat_le m moment || list_any (λ k. nat_le k moment) ms)
least_by moment m [] = sym (or-false (nat_le m moment))
least_by moment m (k ∷ ms) =
    let rest = list_any (λ k. nat_le k moment) ms in
    least_by moment (min m k) ms ∙ ap (λ b. b || rest) (is_by_sooner moment (Some m) (Some k)) ∙ or_assoc (nat_le m moment) (nat_le k moment) rest

alarm_among : (moment : ℕ) (ms : List ℕ) → is_by moment (reduce min ms) ≡ list_any (λ k. nat_le k moment) ms
alarm_among moment [] = refl
alarm_among moment (m ∷ ms) = least_by moment m ms

-- an alarm is over exactly where a wait is
alarm_over : (moment : ℕ) (n : Node) → is_by moment (alarm_of n) ≡ is_due_in moment n
alarm_over moment n = alarm_among moment (waits n)

pub some_over : (moment : ℕ) (is : List Instance) → list_any (is_by moment) (alarms_of is) ≡ list_any (λ i. is_due_in moment i.node) is
some_over moment [] = refl
some_over moment (i ∷ is) = λ j. alarm_over moment i.node j || some_over moment is j

-- the alarm of an instance that stands in a place of another
pub alarms_put : (is : List Instance) (n : ℕ) (j : Instance) → slice_set (alarms_of is) n (alarm_of j.node) ≡ alarms_of (put_at n j is)
alarms_put [] n j = refl
alarms_put (i ∷ is) zero j = refl
alarms_put (i ∷ is) (suc n) j = ap (λ os. alarm_of i.node ∷ os) (alarms_put is n j)

-- one more that does not wait
pub alarms_pushed : (is : List Instance) (i : Instance) → waits i.node ≡ [] → alarms_of is ++ None ∷ [] ≡ alarms_of (is ++ i ∷ [])
alarms_pushed is i awake = sym (map-append (λ i. alarm_of i.node) is (i ∷ []) ∙ ap (λ ms. alarms_of is ++ reduce min ms ∷ []) awake)

-- a wait that has ended, or none: something can take a step at a moment that it could not take before
Woke : ℕ → ℕ → List (List ℕ × Top) → Type 0
Woke now moment ss = (list_any (λ s. can_top now s.1) ss ≡ true) ⊎ (list_any (λ m. nat_le m moment) (filter_map (λ s. until_top s.1) ss) ≡ true)

-- the same of one more strand
one_woke : (now moment : ℕ) (bs : List ℕ) (t : Top) (ss : List (List ℕ × Top)) → can_top moment t ≡ true → Woke now moment ((bs, t) ∷ ss)
unfolding Woke
one_woke now moment bs (Begins r v) ss e = inl refl
one_woke now moment bs (Moves r round i w f) ss e = inl refl
one_woke now moment bs (Fails r round i p) ss e = inl refl
one_woke now moment bs (Retries r n m) ss e = inr (or_left (nat_le m moment) (list_any (λ k. nat_le k moment) (filter_map (λ s. until_top s.1) ss)) e)
one_woke now moment bs (Sleeps r m) ss e = inr (or_left (nat_le m moment) (list_any (λ k. nat_le k moment) (filter_map (λ s. until_top s.1) ss)) e)
one_woke now moment bs (Hears r bound hs) ss e = inl (or_left (is_heard r.task hs) (list_any (λ s. can_top now s.1) ss) e)
one_woke now moment bs (Awaits r a q o) ss e = inl (or_left (is_some o) (list_any (λ s. can_top now s.1) ss) e)
one_woke now moment bs (Splits r ns) ss e = cc
one_woke now moment bs (Ends w f) ss e = cc
one_woke now moment bs (Breaks p) ss e = cc

more_woke : (now moment : ℕ) (bs : List ℕ) (t : Top) (ss : List (List ℕ × Top)) → Woke now moment ss → Woke now moment ((bs, t) ∷ ss)
unfolding Woke
more_woke now moment bs t ss w = elim w [
  | inl e ↦ inl (or_right (can_top now t) (list_any (λ s. can_top now s.1) ss) e)
  | inr h ↦ inr (by (until_top t) h)
]
  where
    by : (o : Option ℕ) → list_any (λ m. nat_le m moment) (filter_map (λ (s : List ℕ × Top). until_top s.1) ss) ≡ true → list_any (λ m. nat_le m moment) (cons_option o (filter_map (λ (s : List ℕ × Top). until_top s.1) ss)) ≡ true
    by None h = h
    by (Some m) h = or_right (nat_le m moment) (list_any (λ k. nat_le k moment) (filter_map (λ s. until_top s.1) ss)) h

woke : (now moment : ℕ) (ss : List (List ℕ × Top)) → list_any (λ s. can_top moment s.1) ss ≡ true → Woke now moment ss
woke now moment [] e = cc
woke now moment (s ∷ ss) e = elim (or_cases (can_top moment s.1) (list_any (λ t. can_top moment t.1) ss) e) [
  | inl h ↦ one_woke now moment s.0 s.1 ss h
  | inr h ↦ more_woke now moment s.0 s.1 ss (woke now moment ss h)
]

-- what is enabled at a moment was enabled now, or its alarm is over then
enabled_later : (now moment : ℕ) (is : List Instance) (n : ℕ) → enabled_at moment is n ≡ true → (enabled_at now is n ≡ true) ⊎ (is_due moment (alarms_of is) n ≡ true)
unfolding Woke
enabled_later now moment [] n e = cc
enabled_later now moment (i ∷ is) zero e = elim (woke now moment (tops i.node) e) [ inl h ↦ inl h | inr h ↦ inr (alarm_over moment i.node ∙ h) ]
enabled_later now moment (i ∷ is) (suc n) e = enabled_later now moment is n e

-- once those are in the queue whose alarms are over, the moment is reached
pub queued_woken : (now moment : ℕ) (is : List Instance) (queue next : List ℕ) (alarms : List (Option ℕ)) → alarms ≡ alarms_of is → ((n : ℕ) → is_among n next ≡ (is_among n queue || is_due moment alarms n)) → Queued now is queue → Queued moment is next
queued_woken now moment is queue next alarms own woken q = record {
  all = λ n e. woken n ∙ elim (enabled_later now moment is n e) [
    | inl h ↦ or_left (is_among n queue) (is_due moment alarms n) (q.all n h)
    | inr h ↦ or_right (is_among n queue) (is_due moment alarms n) (ap (λ os. is_due moment os n) own ∙ h)
  ];
}
