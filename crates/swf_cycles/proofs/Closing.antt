-- Closing the last group keeps what is known, and tells of each in it whether it comes to call itself.
use Rattle.std.proofs.Common.{◌≡◌, ◌≢◌, ◌∙◌, sym, subst, refl, ap, ℕ, zero, suc, ◌+◌, ◌-◌, ◌<◌, ◌≤◌, ◌⊎◌, inl, inr, List, [], ◌∷◌, Bool, true, false, ◌||◌, nat_lt, length, get_or, arith, drop}
use Rattle.std.specs.Prelude.{slice_set}
use Rattle.std.proofs.lemmas.List.{get_or-set_same, get_or-set_other, length-set, get_or-take, length-take-le}
use Rattle.std.proofs.lemmas.Bool.{ltb-true, ltb-false, cases_eq, false≢true}
use Rattle.swf_cycles.specs.Cycles.{calls, calls_itself}
use Rattle.swf_cycles.specs.declared.search.Stage.{Stage}
use Rattle.swf_cycles.specs.declared.search.Stage.TheVariants.{New, Open, Closed}
use Rattle.swf_cycles.specs.declared.search.Waiting.{Waiting}
use Rattle.swf_cycles.specs.Search.{State, all_closed, rest, closed, is_cycle, NoneOf}
use Rattle.swf_cycles.proofs.ReachLemmas.{called_reaches, joined as ways, closed_has}
use Rattle.swf_cycles.proofs.Groups.{In, stage, at, IsClosed, Way, Reach, Falls, Sinks, call, Seen, Base, AllSeen, inside}

closed_len : (ss : List Stage) (vs : List ℕ) (b : Bool) → length (all_closed ss vs b) ≡ length ss
closed_len ss [] b = refl
closed_len ss (v ∷ vs) b = closed_len (slice_set ss v (Closed b)) vs b ∙ length-set ss v (Closed b)

closed_not : (ss : List Stage) (vs : List ℕ) (b : Bool) (x : ℕ) → (In x vs → ⊥) → get_or (all_closed ss vs b) x New ≡ get_or ss x New
closed_not ss [] b x n = refl
closed_not ss (v ∷ vs) b x n =
    closed_not (slice_set ss v (Closed b)) vs b x (λ i. n (inr i)) ∙ get_or-set_other ss v x (Closed b) New (λ e. n (inl (sym e)))

in_or_not : (x : ℕ) (vs : List ℕ) → In x vs ⊎ (In x vs → ⊥)
in_or_not x [] = inr (λ i. i)
in_or_not x (v ∷ vs) = by (cases_eq x v) (in_or_not x vs)
  where
    neither : x ≢ v → (In x vs → ⊥) → In x (v ∷ vs) → ⊥
    neither n m (inl e) = n (sym e)
    neither n m (inr i) = m i

    by : (x ≡ v) ⊎ (x ≢ v) → In x vs ⊎ (In x vs → ⊥) → In x (v ∷ vs) ⊎ (In x (v ∷ vs) → ⊥)
    by (inl e) r = inl (inl (sym e))
    by (inr n) (inl i) = inl (inr i)
    by (inr n) (inr m) = inr (neither n m)

closed_in : (ss : List Stage) (vs : List ℕ) (b : Bool) (x : ℕ) → x < length ss → In x vs → get_or (all_closed ss vs b) x New ≡ Closed b
closed_in ss [] b x h i = absurd i
closed_in ss (v ∷ vs) b x h i = by i (in_or_not x vs) (λ j. closed_in (slice_set ss v (Closed b)) vs b x (omega (arith, h, length-set ss v (Closed b))) j)
  where
    by : In x (v ∷ vs) → In x vs ⊎ (In x vs → ⊥) → (In x vs → get_or (all_closed (slice_set ss v (Closed b)) vs b) x New ≡ Closed b) → get_or (all_closed (slice_set ss v (Closed b)) vs b) x New ≡ Closed b
    by i (inl j) f = f j
    by (inr j) (inr n) f = f j
    by (inl e) (inr n) f =
        closed_not (slice_set ss v (Closed b)) vs b x n ∙ subst (λ k. get_or (slice_set ss v (Closed b)) k New ≡ Closed b) e (get_or-set_same ss v (Closed b) New (omega (arith, h, e)))

in_drop : (xs : List ℕ) (t p : ℕ) → t ≤ p → p < length xs → In (get_or xs p 0) (drop t xs)
in_drop [] t p l h = absurd (omega arith)
in_drop (x ∷ xs) zero zero l h = inl refl
in_drop (x ∷ xs) zero (suc p) l h = inr (in_drop xs zero p (omega arith) (omega arith))
in_drop (x ∷ xs) (suc t) zero l h = absurd (omega arith)
in_drop (x ∷ xs) (suc t) (suc p) l h = in_drop xs t p (omega arith) (omega arith)

drop_in : (xs : List ℕ) (t x : ℕ) → In x (drop t xs) → (p : ℕ) × (t ≤ p) × (p < length xs) × (get_or xs p 0 ≡ x)
drop_in [] zero x i = absurd i
drop_in [] (suc t) x i = absurd i
drop_in (y ∷ xs) zero x (inl e) = (0, omega arith, omega arith, e)
drop_in (y ∷ xs) zero x (inr i) = let r = drop_in xs zero x i in (suc r.0, omega arith, omega (arith, r.2), r.3)
drop_in (y ∷ xs) (suc t) x i = let r = drop_in xs t x i in (suc r.0, omega (arith, r.1), omega (arith, r.2), r.3)

none_of : (t : ℕ) (ws : List Waiting) → Sinks ws → NoneOf t ws → (e : Waiting) → In e ws → e.from < t
none_of t [] s n e i = absurd i
none_of t (w ∷ ws) s n e (inl q) = omega (arith, n, ap (λ (y : Waiting). y.from) q)
none_of t (w ∷ ws) s n e (inr i) = omega (arith, n, s.0 e i)

-- the last group is that from a place on, and none of its calls waits
pub record Last (s : State) (t : ℕ) (ts : List ℕ) : Type 0 where
  pub starts : s.starts ≡ t ∷ ts
  pub over : NoneOf t s.waiting

start_in : (g : List (List ℕ)) (s : State) (t : ℕ) (ts : List ℕ) → Base g s → Last s t ts → t < length s.stack
start_in g s t ts b l = b.below t (subst (In t) (sym l.starts) (inl refl))

pub within : (g : List (List ℕ)) (s : State) (p : ℕ) → Base g s → p < length s.stack → at s p < length g
within g s p b h = omega (arith, b.size, inside s (at s p) (Open p) (λ (x : Open p ≡ New). absurd (cc)) (b.stands p h))

pub starts-le : (s : State) (t : ℕ) (ts : List ℕ) → Falls s.starts → s.starts ≡ t ∷ ts → (k : ℕ) → In k s.starts → k ≤ t
starts-le s t ts f e k i = by (subst Falls e f) (subst (In k) e i)
  where
    by : Falls (t ∷ ts) → In k (t ∷ ts) → k ≤ t
    by f (inl q) = omega (arith, q)
    by f (inr j) = omega (arith, f.0 k j)

-- all in the last group come to each other
group : (g : List (List ℕ)) (s : State) (t : ℕ) (ts : List ℕ) → Base g s → Last s t ts → (p q : ℕ) → p < length s.stack → q < length s.stack → t ≤ q → Way g (at s p) (at s q)
group g s t ts b l p q h m y = b.linked p q h m (λ k i z. omega (arith, starts-le s t ts b.falls l.starts k i, y))

-- what one in the last group calls is closed, or in it too
called_group : (g : List (List ℕ)) (s : State) (t : ℕ) (ts : List ℕ) → Base g s → AllSeen g s → Last s t ts → (p w : ℕ) → p < length s.stack → t ≤ p → calls g (at s p) w ≡ true → w < length g
    → IsClosed (stage s w) ⊎ ((q : ℕ) × (stage s w ≡ Open q) × (t ≤ q))
called_group g s t ts b a l p w h y c m = by (a p w h c m)
  where
    by : Seen s p w → IsClosed (stage s w) ⊎ ((q : ℕ) × (stage s w ≡ Open q) × (t ≤ q))
    by (inl i) = absurd (omega (arith, none_of t s.waiting b.order l.over (call p w) i, y))
    by (inr (inl x)) = inl x
    by (inr (inr x)) = inr (x.0, x.1, x.2 t (subst (In t) (sym l.starts) (inl refl)) y)

several : (g : List (List ℕ)) (s : State) (t : ℕ) (ts : List ℕ) → Base g s → Last s t ts → (p q : ℕ) → p < length s.stack → q < length s.stack → t ≤ p → t ≤ q → p ≢ q → calls_itself g (at s p) ≡ true
several g s t ts b l p q h m y z n = by (group g s t ts b l p q h m z) (group g s t ts b l q p m h y)
  where
    apart : at s p ≡ at s q → ⊥
    apart e = n (let o : Open p ≡ Open q = sym (b.stands p h) ∙ ap (stage s) e ∙ b.stands q m in cc)

    by : Way g (at s p) (at s q) → Way g (at s q) (at s p) → calls_itself g (at s p) ≡ true
    by (inl e) w = absurd (apart e)
    by (inr x) (inl e) = absurd (apart (sym e))
    by (inr x) (inr w) = ways g (length g) (at s q) (within g s q b m) (at s p) (at s p) x w

alone : (g : List (List ℕ)) (s : State) (t : ℕ) (ts : List ℕ) → Base g s → AllSeen g s → Last s t ts → length s.stack ≤ t + 1 → calls g (at s t) (at s t) ≡ false → calls_itself g (at s t) ≡ true → ⊥
alone g s t ts b a l one lone itself = by (subst IsClosed (b.stands t h) (closed_has g (λ x. (x ≡ v) ⊎ IsClosed (stage s x)) (λ x. IsClosed (stage s x)) (length g) (λ x m. inr m) goes (length g) (omega arith) v v (inl refl) itself (within g s t b h)))
  where
    v : ℕ
    v = at s t

    h : t < length s.stack
    h = start_in g s t ts b l

    by : IsClosed (Open t) → ⊥
    by x = x

    from_it : (y : ℕ) → calls g v y ≡ true → IsClosed (stage s y) ⊎ ((q : ℕ) × (stage s y ≡ Open q) × (t ≤ q)) → IsClosed (stage s y)
    from_it y c (inl x) = x
    from_it y c (inr x) =
        let o = b.placed y x.0 x.1 in
        let e : t ≡ x.0 = omega (arith, o.0, one, x.2) in
        absurd (false≢true (sym lone ∙ subst (λ k. calls g v k ≡ true) (sym (ap (at s) e ∙ o.1)) c))

    goes : (x y : ℕ) → (x ≡ v) ⊎ IsClosed (stage s x) → calls g x y ≡ true → y < length g → IsClosed (stage s y)
    goes x y (inl e) c d = let k : calls g v y ≡ true = subst (λ k. calls g k y ≡ true) e c in from_it y k (called_group g s t ts b a l t y h (omega arith) k d)
    goes x y (inr m) c d = b.shut x y m c d

-- what is told of the group is so of each in it
pub told_right : (g : List (List ℕ)) (s : State) (t : ℕ) (ts : List ℕ) → Base g s → AllSeen g s → Last s t ts → (p : ℕ) → p < length s.stack → t ≤ p → is_cycle g s t ≡ calls_itself g (at s p)
told_right g s t ts b a l p h y = by (nat_lt 1 (length s.stack - t)) (calls g (at s t) (at s t)) refl refl
  where
    first : t < length s.stack
    first = start_in g s t ts b l

    many : t + 1 < length s.stack → (t ≡ p) ⊎ (t ≢ p) → calls_itself g (at s p) ≡ true
    many m (inl e) = several g s t ts b l p (t + 1) h m y (omega arith) (omega (arith, e))
    many m (inr n) = several g s t ts b l p t h first y (omega arith) (λ e. n (sym e))

    one : length s.stack ≤ t + 1 → t ≡ p
    one m = omega (arith, m, h, y)

    not : (c : Bool) → calls_itself g (at s t) ≡ c → length s.stack ≤ t + 1 → calls g (at s t) (at s t) ≡ false → false ≡ c
    not false e m n = refl
    not true e m n = absurd (alone g s t ts b a l m n e)

    by : (c d : Bool) → nat_lt 1 (length s.stack - t) ≡ c → calls g (at s t) (at s t) ≡ d → (c || d) ≡ calls_itself g (at s p)
    by true d e f = sym (many (omega (arith, ltb-true 1 (length s.stack - t) e)) (cases_eq t p))
    by false true e f =
        let m : length s.stack ≤ t + 1 = omega (arith, ltb-false 1 (length s.stack - t) e) in
        sym (called_reaches g (length g) (at s p) (at s p) (subst (λ k. calls g (at s k) (at s k) ≡ true) (one m) f))
    by false false e f =
        let m : length s.stack ≤ t + 1 = omega (arith, ltb-false 1 (length s.stack - t) e) in
        subst (λ k. false ≡ calls_itself g (at s k)) (one m) (not (calls_itself g (at s t)) refl m f)

-- ---- the step

-- as it was, and if open then before the group
abbrev Kept : State → ℕ → Bool → ℕ → Type 0
Kept s t v x = (stage (closed s t v) x ≡ stage s x) × ((p : ℕ) → stage s x ≡ Open p → p < t)

abbrev Gone : State → ℕ → ℕ → Type 0
Gone s t x = (p : ℕ) × (t ≤ p) × (p < length s.stack) × (at s p ≡ x)

kept_or_gone : (g : List (List ℕ)) (s : State) (t : ℕ) (v : Bool) (x : ℕ) → Base g s → Kept s t v x ⊎ Gone s t x
kept_or_gone g s t v x b = by (in_or_not x (drop t s.stack))
  where
    early : (In x (drop t s.stack) → ⊥) → (p : ℕ) → stage s x ≡ Open p → p < t
    early n p e = by (nat_lt p t) refl
      where
        by : (c : Bool) → nat_lt p t ≡ c → p < t
        by true c = ltb-true p t c
        by false c = let o = b.placed x p e in absurd (n (subst (λ k. In k (drop t s.stack)) o.1 (in_drop s.stack t p (ltb-false p t c) o.0)))

    by : In x (drop t s.stack) ⊎ (In x (drop t s.stack) → ⊥) → Kept s t v x ⊎ Gone s t x
    by (inl i) = inr (drop_in s.stack t x i)
    by (inr n) = inl (closed_not s.stages (drop t s.stack) v x n, early n)

gone_closed : (g : List (List ℕ)) (s : State) (t : ℕ) (v : Bool) (x : ℕ) → Base g s → Gone s t x → stage (closed s t v) x ≡ Closed v
gone_closed g s t v x b q =
    subst (λ k. stage (closed s t v) k ≡ Closed v) q.3 (closed_in s.stages (drop t s.stack) v (at s q.0) (omega (arith, within g s q.0 b q.2, b.size)) (in_drop s.stack t q.0 q.1 q.2))

still : (g : List (List ℕ)) (s : State) (t : ℕ) (v : Bool) (x : ℕ) → Base g s → IsClosed (stage s x) → IsClosed (stage (closed s t v) x)
still g s t v x b c = by (kept_or_gone g s t v x b)
  where
    by : Kept s t v x ⊎ Gone s t x → IsClosed (stage (closed s t v) x)
    by (inl k) = subst IsClosed (sym k.0) c
    by (inr q) = subst IsClosed (sym (gone_closed g s t v x b q)) tt

-- what is open before the group stays so, and what is in it is closed
pub closes_base : (g : List (List ℕ)) (s : State) (t : ℕ) (ts : List ℕ) → Base g s → AllSeen g s → Last s t ts → Base g (closed s t (is_cycle g s t))
closes_base g s t ts b a l = record {
  size = closed_len s.stages (drop t s.stack) v ∙ b.size;
  stands = stands;
  placed = placed;
  told = told;
  shut = shut;
  linked = linked;
  falls = subst (λ k. Falls (rest k)) (sym l.starts) (subst Falls l.starts b.falls).1;
  below = below;
  bottom = bottom;
  real = real;
  order = b.order;
}
  where
    v : Bool
    v = is_cycle g s t

    u : State
    u = closed s t v

    first : t < length s.stack
    first = start_in g s t ts b l

    count : length u.stack ≡ t
    count = length-take-le t s.stack (omega (arith, first))

    older : (k : ℕ) → In k u.starts → In k ts
    older k i = subst (λ x. In k (rest x)) l.starts i

    before : (p : ℕ) → p < t → at u p ≡ at s p
    before p h = get_or-take t s.stack p 0 h

    low : (p : ℕ) → p < length u.stack → p < t
    low p h = omega (arith, h, count)

    high : (p : ℕ) → p < t → p < length s.stack
    high p h = omega (arith, h, first)

    stands : (p : ℕ) → p < length u.stack → stage u (at u p) ≡ Open p
    stands p h = ap (stage u) (before p (low p h)) ∙ by (kept_or_gone g s t v (at s p) b)
      where
        by : Kept s t v (at s p) ⊎ Gone s t (at s p) → stage u (at s p) ≡ Open p
        by (inl k) = k.0 ∙ b.stands p (high p (low p h))
        by (inr q) =
            let o : Open q.0 ≡ Open p = sym (b.stands q.0 q.2) ∙ ap (stage s) q.3 ∙ b.stands p (high p (low p h)) in
            let n : q.0 ≡ p = cc in
            absurd (omega (arith, n, q.1, low p h))

    placed : (x p : ℕ) → stage u x ≡ Open p → (p < length u.stack) × (at u p ≡ x)
    placed x p e = by (kept_or_gone g s t v x b)
      where
        by : Kept s t v x ⊎ Gone s t x → (p < length u.stack) × (at u p ≡ x)
        by (inl k) =
            let o : stage s x ≡ Open p = sym k.0 ∙ e in
            (omega (arith, k.1 p o, count), before p (k.1 p o) ∙ (b.placed x p o).1)
        by (inr q) = absurd (let o : Closed v ≡ Open p = sym (gone_closed g s t v x b q) ∙ e in cc)

    told : (x : ℕ) (c : Bool) → stage u x ≡ Closed c → c ≡ calls_itself g x
    told x c e = by (kept_or_gone g s t v x b)
      where
        by : Kept s t v x ⊎ Gone s t x → c ≡ calls_itself g x
        by (inl k) = b.told x c (sym k.0 ∙ e)
        by (inr q) =
            let o : Closed c ≡ Closed v = sym e ∙ gone_closed g s t v x b q in
            let n : c ≡ v = cc in
            n ∙ told_right g s t ts b a l q.0 q.2 q.1 ∙ ap (calls_itself g) q.3

    shut : (x w : ℕ) → IsClosed (stage u x) → calls g x w ≡ true → w < length g → IsClosed (stage u w)
    shut x w c e m = by (kept_or_gone g s t v x b)
      where
        then : IsClosed (stage s w) ⊎ ((q : ℕ) × (stage s w ≡ Open q) × (t ≤ q)) → IsClosed (stage u w)
        then (inl y) = still g s t v w b y
        then (inr y) = let o = b.placed w y.0 y.1 in subst IsClosed (sym (gone_closed g s t v w b (y.0, y.2, o.0, o.1))) tt

        by : Kept s t v x ⊎ Gone s t x → IsClosed (stage u w)
        by (inl k) = still g s t v w b (b.shut x w (subst IsClosed k.0 c) e m)
        by (inr q) = then (called_group g s t ts b a l q.0 w q.2 q.1 (subst (λ k. calls g k w ≡ true) (sym q.3) e) m)

    linked : (p q : ℕ) → p < length u.stack → q < length u.stack → Reach u.starts p q → Way g (at u p) (at u q)
    linked p q h m x =
        subst (λ k. Way g k (at u q)) (sym (before p (low p h))) (subst (λ k. Way g (at s p) k) (sym (before q (low q m))) (b.linked p q (high p (low p h)) (high q (low q m)) (λ k i y. by k (subst (In k) l.starts i) y)))
      where
        by : (k : ℕ) → In k (t ∷ ts) → k ≤ p → k ≤ q
        by k (inl e) y = absurd (omega (arith, e, y, low p h))
        by k (inr i) y = x k (subst (λ z. In k (rest z)) (sym l.starts) i) y

    below : (k : ℕ) → In k u.starts → k < length u.stack
    below k i = omega (arith, (subst Falls l.starts b.falls).0 k (older k i), count)

    bottom : 0 < length u.stack → In 0 u.starts
    bottom h = subst (λ z. In 0 (rest z)) (sym l.starts) (by (subst (In 0) l.starts (b.bottom (omega (arith, first)))))
      where
        by : In 0 (t ∷ ts) → In 0 ts
        by (inl e) = absurd (omega (arith, e, h, count))
        by (inr i) = i

    real : (e : Waiting) → In e u.waiting → (e.from < length u.stack) × (calls g (at u e.from) e.to ≡ true)
    real e i =
        let h : e.from < t = none_of t s.waiting b.order l.over e i in
        (omega (arith, h, count), subst (λ k. calls g k e.to ≡ true) (sym (before e.from h)) (b.real e i).1)

pub closes_seen : (g : List (List ℕ)) (s : State) (t : ℕ) (ts : List ℕ) → Base g s → AllSeen g s → Last s t ts → AllSeen g (closed s t (is_cycle g s t))
closes_seen g s t ts b a l p w h c m = by (a p w (omega (arith, low, first)) (subst (λ k. calls g k w ≡ true) (get_or-take t s.stack p 0 low) c) m)
  where
    v : Bool
    v = is_cycle g s t

    u : State
    u = closed s t v

    first : t < length s.stack
    first = start_in g s t ts b l

    low : p < t
    low = omega (arith, h, length-take-le t s.stack (omega (arith, first)))

    then : (q : ℕ) → stage s w ≡ Open q → Reach s.starts p q → Kept s t v w ⊎ Gone s t w → Seen u p w
    then q e x (inl k) = inr (inr (q, k.0 ∙ e, λ k i y. x k (subst (In k) (sym l.starts) (inr (subst (λ z. In k (rest z)) l.starts i))) y))
    then q e x (inr y) = inr (inl (subst IsClosed (sym (gone_closed g s t v w b y)) tt))

    by : Seen s p w → Seen u p w
    by (inl i) = inl i
    by (inr (inl x)) = inr (inl (still g s t v w b x))
    by (inr (inr x)) = then x.0 x.1 x.2 (kept_or_gone g s t v w b)
