-- What an offer leaves as it is, and how the places of those that take an event are written one after another.
use Rattle.std.proofs.Common.{◌≡◌, ◌≢◌, ◌∙◌, refl, ap, sym, subst, cond, ℕ, zero, suc, ◌+◌, ◌<◌, ◌≤◌, inl, inr, List, [], ◌∷◌, ◌++◌, length, take, nat_lt, Bool, true, false, Some, None, option_map, slice_get, arith, add-one, append-nil}
use Rattle.std.proofs.lemmas.Option.{same_Some, slice_get-map}
use Rattle.std.proofs.lemmas.Bool.{cases_eq, ltb-false}
use Rattle.std.proofs.lemmas.List.{take_all}
use Rattle.std.specs.List.{AllByRecursion, fold}
use Rattle.swf_cloudevents.specs.declared.event.Event.{Event}
use Rattle.swf_meaning.specs.Offer.{offered_one, takers_in, offered_all, takers}
use Rattle.swf_meaning.specs.World.{Instance}
use Rattle.swf_runs.proofs.OfferLemmas.{one_untaken}
use Rattle.swf_instances.specs.declared.offer.Hearing.{Hearing}
use Rattle.swf_instances.specs.Offers.{put_at, put_all, offered_but, ids, Covers, IsHeardFrom, IsOffer}
use Rattle.swf_instances.specs.Kept.{Listening}
use Rattle.swf_instances.proofs.ListenLemmas.{unheard}
use Rattle.swf_listeners.specs.Listeners.{numbers_where, wanted_by, who}
use Rattle.swf_listeners.specs.Wanted.{Wanted, wants}
use Rattle.swf_listeners.proofs.WantedLemmas.{wants_of}
use Rattle.swf_listeners.proofs.WhoLemmas.{Passes, numbers_from, to_next, to_end, where_from}
use Rattle.swf_queue.specs.Queue.{Queue, is_among}
use Rattle.swf_offers.specs.EventTypes.{event_types}

-- an instance is put in its own place
put_same : (is : List Instance) (n : ℕ) (i : Instance) → slice_get is n ≡ Some i → put_at n i is ≡ is
put_same [] n i e = refl
put_same (x ∷ xs) zero i e = ap (λ y. y ∷ xs) (sym (same_Some x i e))
put_same (x ∷ xs) (suc n) i e = ap (λ ys. x ∷ ys) (put_same xs n i e)

-- the first so many of these after an event was offered to each of them but that of a number
abbrev pub offered_first : ℕ → ℕ → Event → List Instance → List Instance
offered_first zero n e is = is
offered_first (suc k) n e [] = []
offered_first (suc k) zero e (i ∷ is) = i ∷ offered_first k k e is
offered_first (suc k) (suc n) e (i ∷ is) = offered_one e i ∷ offered_first k n e is

-- the one of the next number is as it was
first_next : (k n : ℕ) (e : Event) (is : List Instance) → slice_get (offered_first k n e is) k ≡ slice_get is k
first_next zero n e is = refl
first_next (suc k) n e [] = refl
first_next (suc k) zero e (i ∷ is) = first_next k k e is
first_next (suc k) (suc n) e (i ∷ is) = first_next k n e is

-- the event is offered to one more
all_more : (k : ℕ) (e : Event) (is : List Instance) (i : Instance) → slice_get is k ≡ Some i → put_at k (offered_one e i) (offered_first k k e is) ≡ offered_first (suc k) (suc k) e is
all_more k e [] i h = cc
all_more zero e (x ∷ xs) i h = ap (λ y. offered_one e y ∷ xs) (sym (same_Some x i h))
all_more (suc k) e (x ∷ xs) i h = ap (λ ys. offered_one e x ∷ ys) (all_more k e xs i h)

first_more : (k n : ℕ) (e : Event) (is : List Instance) (i : Instance) → k ≢ n → slice_get is k ≡ Some i → put_at k (offered_one e i) (offered_first k n e is) ≡ offered_first (suc k) n e is
first_more k n e [] i other h = cc
first_more zero zero e (x ∷ xs) i other h = absurd (other refl)
first_more zero (suc n) e (x ∷ xs) i other h = ap (λ y. offered_one e y ∷ xs) (sym (same_Some x i h))
first_more (suc k) zero e (x ∷ xs) i other h = ap (λ ys. x ∷ ys) (all_more k e xs i h)
first_more (suc k) (suc n) e (x ∷ xs) i other h = ap (λ ys. offered_one e x ∷ ys) (first_more k n e xs i (λ p. other (ap suc p)) h)

-- and not to that of the number
first_skipped : (n : ℕ) (e : Event) (is : List Instance) → offered_first n n e is ≡ offered_first (suc n) n e is
first_skipped zero e [] = refl
first_skipped (suc n) e [] = refl
first_skipped zero e (i ∷ is) = refl
first_skipped (suc n) e (i ∷ is) = ap (λ js. offered_one e i ∷ js) (first_skipped n e is)

-- once it was offered to as many as there are, it was offered to all but that of the number
first_all : (k : ℕ) (e : Event) (is : List Instance) → length is ≤ k → offered_first k k e is ≡ offered_all e is
first_all zero e [] w = refl
first_all (suc k) e [] w = refl
first_all zero e (i ∷ is) w = absurd (omega arith)
first_all (suc k) e (i ∷ is) w = ap (λ js. offered_one e i ∷ js) (first_all k e is (omega arith))

first_done : (k n : ℕ) (e : Event) (is : List Instance) → length is ≤ k → offered_first k n e is ≡ offered_but n e is
first_done zero n e [] w = refl
first_done (suc k) n e [] w = refl
first_done zero n e (i ∷ is) w = absurd (omega arith)
first_done (suc k) zero e (i ∷ is) w = ap (λ js. i ∷ js) (first_all k e is (omega arith))
first_done (suc k) (suc n) e (i ∷ is) w = ap (λ js. offered_one e i ∷ js) (first_done k n e is (omega arith))

-- the one that was left out is as it was
pub offered_apart : (n : ℕ) (e : Event) (is : List Instance) → slice_get (offered_but n e is) n ≡ slice_get is n
offered_apart n e [] = refl
offered_apart zero e (i ∷ is) = refl
offered_apart (suc n) e (i ∷ is) = offered_apart n e is

-- a number past the last leaves out none
pub offered_past : (n : ℕ) (e : Event) (is : List Instance) → length is ≤ n → offered_but n e is ≡ offered_all e is
offered_past n e [] w = refl
offered_past zero e (i ∷ is) w = absurd (omega arith)
offered_past (suc n) e (i ∷ is) w = ap (λ js. offered_one e i ∷ js) (offered_past n e is (omega arith))

-- the one that was left out is put in its place after the event was offered to it
pub offered_with : (n : ℕ) (e : Event) (j : Instance) (is : List Instance) → put_at n (offered_one e j) (offered_but n e is) ≡ offered_all e (put_at n j is)
offered_with n e j [] = refl
offered_with zero e j (i ∷ is) = refl
offered_with (suc n) e j (i ∷ is) = ap (λ js. offered_one e i ∷ js) (offered_with n e j is)

pub put_all-append : (hs ks : List Hearing) (is : List Instance) → put_all (hs ++ ks) is ≡ put_all ks (put_all hs is)
put_all-append [] ks is = refl
put_all-append (h ∷ hs) ks is = put_all-append hs ks (put_at h.number h.instance is)

-- one more that was heard
pub all_pushed : {A : Type 0} (P : A → Type 0) (xs : List A) (x : A) → AllByRecursion P xs → P x → AllByRecursion P (xs ++ x ∷ [])
all_pushed P [] x h p = (p, tt)
all_pushed P (y ∷ ys) x h p = (h.0, all_pushed P ys x h.1 p)

-- how many took the event of one instance more
takers_one : (e : Event) (is : List Instance) (k : ℕ) (i : Instance) (z : ℕ) → slice_get is k ≡ Some i → fold (λ n i. n + takers_in e i) z (take (suc k) is) ≡ fold (λ n i. n + takers_in e i) z (take k is) + takers_in e i
takers_one e [] k i z h = cc
takers_one e (x ∷ xs) zero i z h = ap (λ y. z + takers_in e y) (same_Some x i h)
takers_one e (x ∷ xs) (suc k) i z h = takers_one e xs k i (z + takers_in e x) h

pub takers_more : (e : Event) (is : List Instance) (k : ℕ) (i : Instance) → slice_get is k ≡ Some i → takers e (take (k + 1) is) ≡ takers e (take k is) + takers_in e i
takers_more e is k i h = ap (λ m. takers e (take m is)) (add-one k) ∙ takers_one e is k i zero h

-- the event was offered to the first so many, but to that of a number
pub record Offered (k n : ℕ) (e : Event) (is : List Instance) (hs : List Hearing) : Type 0 where
  pub put : put_all hs is ≡ offered_first k n e is
  pub heard : AllByRecursion (IsHeardFrom is) hs

pub offered_none : (n : ℕ) (e : Event) (is : List Instance) → Offered 0 n e is []
offered_none n e is = record { put = refl; heard = tt }

-- what is heard of one more
abbrev pub heard_by : ℕ → Event → Instance → ℕ → List Hearing
heard_by k e i m = cond (nat_lt 0 m) ((record { number = k; instance = offered_one e i }) ∷ []) []

pub offered_next : (k n : ℕ) (e : Event) (is : List Instance) (hs : List Hearing) (i : Instance) (m : ℕ) → k ≢ n → slice_get is k ≡ Some i → m ≡ takers_in e i → Offered k n e is hs → Offered (k + 1) n e is (hs ++ heard_by k e i m)
offered_next k n e is hs i m other at taken o = by (nat_lt 0 m) refl
  where
    more : put_at k (offered_one e i) (put_all hs is) ≡ offered_first (k + 1) n e is
    more = ap (put_at k (offered_one e i)) o.put ∙ first_more k n e is i other at ∙ ap (λ j. offered_first j n e is) (sym (add-one k))

    from : slice_get (ids is) k ≡ Some i.id
    from = slice_get-map (λ i. i.id) is k ∙ ap (option_map (λ i. i.id)) at

    still : slice_get (put_all hs is) k ≡ Some i
    still = ap (λ js. slice_get js k) o.put ∙ first_next k n e is ∙ at

    by : (b : Bool) → nat_lt 0 m ≡ b → Offered (k + 1) n e is (hs ++ cond b ((record { number = k; instance = offered_one e i }) ∷ []) [])
    by true t = record {
      put = put_all-append hs ((record { number = k; instance = offered_one e i }) ∷ []) is ∙ more;
      heard = all_pushed (IsHeardFrom is) hs (record { number = k; instance = offered_one e i }) o.heard from;
    }
    by false t = subst (Offered (k + 1) n e is) (sym (append-nil hs)) (record {
      put = sym (put_same (put_all hs is) k i still) ∙ ap (λ j. put_at k j (put_all hs is)) (sym (one_untaken e i (omega (arith, taken, ltb-false 0 m t)))) ∙ more;
      heard = o.heard;
    })

-- that of the number is passed over
pub offered_skipped : (k n : ℕ) (e : Event) (is : List Instance) (hs : List Hearing) → k ≡ n → Offered k n e is hs → Offered (k + 1) n e is hs
offered_skipped k n e is hs same o = record {
  put = o.put ∙ ap (λ m. offered_first k m e is) (sym same) ∙ first_skipped k e is ∙ ap (λ m. offered_first (suc k) m e is) same ∙ ap (λ j. offered_first j n e is) (sym (add-one k));
  heard = o.heard;
}

pub offered_done : (k n : ℕ) (e : Event) (is : List Instance) (hs : List Hearing) → k ≡ length is → Offered k n e is hs → IsOffer n e is hs
offered_done k n e is hs all o = record {
  put = o.put ∙ first_done k n e is (omega (arith, all));
  heard = o.heard;
}

-- those that took an event keep their ids
pub ids_put : (is : List Instance) (n : ℕ) (j : Instance) → slice_get (ids is) n ≡ Some j.id → ids (put_at n j is) ≡ ids is
ids_put [] n j e = refl
ids_put (i ∷ is) zero j e = ap (λ id. id ∷ ids is) (sym (same_Some i.id j.id e))
ids_put (i ∷ is) (suc n) j e = ap (λ ns. i.id ∷ ns) (ids_put is n j e)

-- others of the same ids were heard from too
pub from_again : (is js : List Instance) (hs : List Hearing) → ids is ≡ ids js → AllByRecursion (IsHeardFrom is) hs → AllByRecursion (IsHeardFrom js) hs
from_again is js [] e all = tt
from_again is js (h ∷ hs) e all = (ap (λ ns. slice_get ns h.number) (sym e) ∙ all.0, from_again is js hs e all.1)

pub ids_all : (hs : List Hearing) (is : List Instance) → AllByRecursion (IsHeardFrom is) hs → ids (put_all hs is) ≡ ids is
ids_all [] is all = refl
ids_all (h ∷ hs) is all =
    let one = ids_put is h.number h.instance all.0 in
    ids_all hs (put_at h.number h.instance is) (from_again is (put_at h.number h.instance is) hs (sym one) all.1) ∙ one

-- ---- those alone are gone over that an event may change

-- what holds once the numbers before this one were gone over
abbrev pub IsOfferedTo : ℕ → Event → List Instance → List Hearing → ℕ → ℕ → Type 0
IsOfferedTo n e is hs taken k = Offered k n e is hs × (length is ≤ n → taken ≡ takers e (take k is))

there_at : (is : List Instance) (n : ℕ) → n < length is → (i : Instance) × (slice_get is n ≡ Some i)
there_at [] n w = absurd (omega arith)
there_at (i ∷ is) zero w = (i, refl)
there_at (i ∷ is) (suc n) w = there_at is n (omega arith)

plus-zero : (m : ℕ) → m + 0 ≡ m
plus-zero m = omega arith

-- an instance that it does not change is passed over
passed : (n : ℕ) (e : Event) (is : List Instance) (hs : List Hearing) (taken : ℕ) (test : ℕ → Bool) → ((m : ℕ) (i : Instance) → slice_get is m ≡ Some i → test m ≡ false → takers_in e i ≡ 0) → Passes (IsOfferedTo n e is hs taken) test (length is)
passed n e is hs taken test others k w gone so =
    let there = there_at is k w in
    let none : takers_in e there.0 ≡ 0 = others k there.0 there.1 gone in
    let more : length is ≤ n → taken ≡ takers e (take (suc k) is) =
    λ all. so.1 all ∙ sym (ap (λ j. takers e (take j is)) (sym (add-one k)) ∙ takers_more e is k there.0 there.1 ∙ ap (λ m. takers e (take k is) + m) none ∙ plus-zero (takers e (take k is))) in
    elim (cases_eq k n) [
      | inl same ↦ (subst (λ j. Offered j n e is hs) (add-one k) (offered_skipped k n e is hs same so.0), more)
      | inr other ↦ (subst (λ j. Offered j n e is hs) (add-one k) (subst (Offered (k + 1) n e is) (append-nil hs) (offered_next k n e is hs there.0 0 other there.1 (sym none) so.0)), more)
    ]

-- between those before a number, and the ones that are left
pub record Between (n : ℕ) (e : Event) (is : List Instance) (left : List ℕ) (hs : List Hearing) (taken : ℕ) : Type 0 where
  pub test : ℕ → Bool
  pub others : (m : ℕ) (i : Instance) → slice_get is m ≡ Some i → test m ≡ false → takers_in e i ≡ 0
  pub at : ℕ
  pub many : ℕ
  pub all : many + at ≡ length is
  pub left_is : left ≡ numbers_from test at many
  pub so_far : IsOfferedTo n e is hs taken at

pub between_first : (n : ℕ) (e : Event) (is : List Instance) (left : List ℕ) → Covers e is left → Between n e is left [] 0
between_first n e is left c =
    record { test = c.test; others = c.others; at = 0; many = length is; all = omega arith; left_is = c.are ∙ where_from c.test (length is); so_far = (offered_none n e is, λ all. refl) }

-- at the next of them
pub record AtNext (n : ℕ) (e : Event) (is : List Instance) (number : ℕ) (left : List ℕ) (hs : List Hearing) (taken : ℕ) : Type 0 where
  pub test : ℕ → Bool
  pub others : (m : ℕ) (i : Instance) → slice_get is m ≡ Some i → test m ≡ false → takers_in e i ≡ 0
  pub many : ℕ
  pub all : many + suc number ≡ length is
  pub left_is : left ≡ numbers_from test (suc number) many
  pub so_far : IsOfferedTo n e is hs taken number

pub between_next : (n : ℕ) (e : Event) (is : List Instance) (number : ℕ) (rest left : List ℕ) (hs : List Hearing) (taken : ℕ) → rest ≡ number ∷ left → Between n e is rest hs taken → AtNext n e is number left hs taken
between_next n e is number rest left hs taken next b =
    let p = to_next (IsOfferedTo n e is hs taken) b.test b.many b.at number left (λ k w h q. passed n e is hs taken b.test b.others k (omega (arith, w, b.all)) h q) (sym b.left_is ∙ next) b.so_far in
    record { test = b.test; others = b.others; many = p.0; all = p.1.1.1 ∙ b.all; left_is = p.1.1.0; so_far = p.1.0 }

pub between_more : (n : ℕ) (e : Event) (is : List Instance) (number : ℕ) (left : List ℕ) (hs gs : List Hearing) (was taken : ℕ) → AtNext n e is number left hs was → IsOfferedTo n e is gs taken (number + 1) → Between n e is left gs taken
between_more n e is number left hs gs was taken a so =
    record { test = a.test; others = a.others; at = suc number; many = a.many; all = a.all; left_is = a.left_is; so_far = subst (IsOfferedTo n e is gs taken) (add-one number) so }

pub between_done : (n : ℕ) (e : Event) (is : List Instance) (left : List ℕ) (hs : List Hearing) (taken : ℕ) → left ≡ [] → Between n e is left hs taken → IsOffer n e is hs × (length is ≤ n → taken ≡ takers e is)
between_done n e is left hs taken none b =
    let p = to_end (IsOfferedTo n e is hs taken) b.test b.many b.at (λ k w h q. passed n e is hs taken b.test b.others k (omega (arith, w, b.all)) h q) (sym b.left_is ∙ none) b.so_far in
    (offered_done (b.many + b.at) n e is hs b.all p.0, λ all. p.1 all ∙ ap (takers e) (take_all (b.many + b.at) is (omega (arith, b.all))))

-- where none may take the event it changes none
pub offered_nowhere : (n : ℕ) (e : Event) (is : List Instance) (ns : List ℕ) → ns ≡ [] → Covers e is ns → IsOffer n e is [] × (length is ≤ n → 0 ≡ takers e is)
offered_nowhere n e is ns none c = between_done n e is ns [] 0 none (between_first n e is ns c)

empty : (ns : List ℕ) → slice_get ns 0 ≡ None → ns ≡ []
empty [] e = refl
empty (n ∷ ns) e = cc

-- who wants an event's type, where it is noted of all what they want
pub covers_who : (e : Event) (is : List Instance) (wanted : List Wanted) (stale : Queue) (ns : List ℕ) → Listening is wanted stale → slice_get stale.numbers 0 ≡ None → ns ≡ who e.kind wanted → Covers e is ns
covers_who e is wanted stale ns l fresh are = record {
  test = λ n. wants e.kind (wanted_by wanted n);
  are = are ∙ ap (numbers_where (λ n. wants e.kind (wanted_by wanted n))) l.many;
  others = λ n i at gone.
      unheard e i.node (sym (wants_of e.kind (event_types i.node)) ∙ ap (wants e.kind) (sym (l.noted n i at (ap (is_among n) (empty stale.numbers fresh)))) ∙ gone);
}

pub covers_all : (e : Event) (is : List Instance) (ns : List ℕ) → ns ≡ numbers_where (λ n. true) (length is) → Covers e is ns
covers_all e is ns are = record { test = λ n. true; are = are; others = λ n i at gone. absurd (cc) }
