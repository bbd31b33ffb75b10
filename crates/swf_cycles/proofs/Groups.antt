-- What is known of a search, and that each step keeps it.
use Rattle.std.proofs.Common.{◌≡◌, ◌≢◌, ◌∙◌, sym, subst, refl, ap, ℕ, ◌+◌, ◌<◌, ◌≤◌, ◌⊎◌, inl, inr, List, [], ◌∷◌, Bool, true, false, ◌||◌, cond, nat_le, nat_lt, nat_eq, length, get_or, length-append, arith}
use borrow.Author.Count.{below_more}
use Rattle.std.specs.Prelude.{⊤}
use Rattle.std.specs.List.{list_any}
use Rattle.std.proofs.lemmas.List.{get_or-set_same, get_or-set_other, get_or_append_left, length-set, get_or_past}
use Rattle.std.proofs.Math.Seq.{get_or-append_seam}
use Rattle.std.proofs.lemmas.Bool.{ltb-true, ltb-false, leb-true, leb-false, eqb-true, eq-eqb, cases_eq, false≢true}
use Rattle.swf_cycles.specs.Cycles.{calls, calls_itself}
use Rattle.swf_cycles.specs.declared.search.Stage.{Stage}
use Rattle.swf_cycles.specs.declared.search.Stage.TheVariants.{New, Open, Closed}
use Rattle.swf_cycles.specs.declared.search.Waiting.{Waiting}
use Rattle.swf_cycles.specs.Search.{State, with_calls, opened, up_to, joined}
use Rattle.swf_cycles.proofs.ReachLemmas.{Reaches, first_true, second_true, called_reaches, joined as ways}

abbrev pub In : {A : Type 0} → A → List A → Type 0
In e [] = ⊥
In e (x ∷ xs) = (x ≡ e) ⊎ In e xs

abbrev pub stage : State → ℕ → Stage
stage s v = get_or s.stages v New

abbrev pub at : State → ℕ → ℕ
at s p = get_or s.stack p 0

abbrev pub IsClosed : Stage → Type 0
IsClosed New = ⊥
IsClosed (Open p) = ⊥
IsClosed (Closed b) = ⊤

-- the same, or one comes to call the other
abbrev pub Way : List (List ℕ) → ℕ → ℕ → Type 0
Way g i j = (i ≡ j) ⊎ Reaches g (length g) i j

-- no group starts behind the second place that does not start behind the first
abbrev pub Reach : List ℕ → ℕ → ℕ → Type 0
Reach ks p q = (k : ℕ) → In k ks → k ≤ p → k ≤ q

abbrev pub Falls : List ℕ → Type 0
Falls [] = ⊤
Falls (t ∷ ts) = ((k : ℕ) → In k ts → k < t) × Falls ts

abbrev pub Sinks : List Waiting → Type 0
Sinks [] = ⊤
Sinks (w ∷ ws) = ((e : Waiting) → In e ws → e.from ≤ w.from) × Sinks ws

abbrev pub call : ℕ → ℕ → Waiting
call p w = record { from = p; to = w }

-- a call waits, or was followed: what is called is closed, or open in no earlier group
abbrev pub Seen : State → ℕ → ℕ → Type 0
Seen s p w = In (call p w) s.waiting ⊎ (IsClosed (stage s w) ⊎ ((q : ℕ) × (stage s w ≡ Open q) × Reach s.starts p q))

pub record Base (g : List (List ℕ)) (s : State) : Type 0 where
  pub size : length s.stages ≡ length g
  pub stands : (p : ℕ) → p < length s.stack → stage s (at s p) ≡ Open p
  pub placed : (v p : ℕ) → stage s v ≡ Open p → (p < length s.stack) × (at s p ≡ v)
  pub told : (v : ℕ) (b : Bool) → stage s v ≡ Closed b → b ≡ calls_itself g v
  pub shut : (v w : ℕ) → IsClosed (stage s v) → calls g v w ≡ true → w < length g → IsClosed (stage s w)
  pub linked : (p q : ℕ) → p < length s.stack → q < length s.stack → Reach s.starts p q → Way g (at s p) (at s q)
  pub falls : Falls s.starts
  pub below : (k : ℕ) → In k s.starts → k < length s.stack
  pub bottom : 0 < length s.stack → In 0 s.starts
  pub real : (e : Waiting) → In e s.waiting → (e.from < length s.stack) × (calls g (at s e.from) e.to ≡ true)
  pub order : Sinks s.waiting

abbrev pub AllSeen : List (List ℕ) → State → Type 0
AllSeen g s = (p w : ℕ) → p < length s.stack → calls g (at s p) w ≡ true → w < length g → Seen s p w

-- a stage that is not the one by default lies inside
pub inside : (s : State) (v : ℕ) (x : Stage) → (x ≡ New → ⊥) → stage s v ≡ x → v < length s.stages
inside s v x h e = by (nat_lt v (length s.stages)) refl
  where
    by : (b : Bool) → nat_lt v (length s.stages) ≡ b → v < length s.stages
    by true p = ltb-true v (length s.stages) p
    by false p = absurd (h (sym e ∙ get_or_past s.stages v New (ltb-false v (length s.stages) p)))

-- ---- joining

pub way_on : (g : List (List ℕ)) (i j k : ℕ) → j < length g → Way g i j → Way g j k → Way g i k
way_on g i j k h (inl e) w = subst (λ x. Way g x k) (sym e) w
way_on g i j k h (inr p) (inl e) = inr (subst (λ x. Reaches g (length g) i x) e p)
way_on g i j k h (inr p) (inr q) = inr (ways g (length g) j h i k p q)

in_up_to : (p k : ℕ) (ts : List ℕ) → In k (up_to p ts) → In k ts
in_up_to p k [] h = h
in_up_to p k (t ∷ ts) h = by (nat_le t p) (in_up_to p k ts) h
  where
    by : (b : Bool) → (In k (up_to p ts) → In k ts) → In k (cond b (t ∷ ts) (up_to p ts)) → In k (t ∷ ts)
    by true f h = h
    by false f h = inr (f h)

newest-le : (t k : ℕ) (ts : List ℕ) → Falls (t ∷ ts) → In k (t ∷ ts) → k ≤ t
newest-le t k ts f (inl e) = omega (arith, e)
newest-le t k ts f (inr i) = omega (arith, f.0 k i)

up_to-le : (p k : ℕ) (ts : List ℕ) → Falls ts → In k (up_to p ts) → k ≤ p
up_to-le p k [] f h = absurd h
up_to-le p k (t ∷ ts) f h = by (nat_le t p) refl (up_to-le p k ts f.1) h
  where
    by : (b : Bool) → nat_le t p ≡ b → (In k (up_to p ts) → k ≤ p) → In k (cond b (t ∷ ts) (up_to p ts)) → k ≤ p
    by true e g h = omega (arith, leb-true t p e, newest-le t k ts f h)
    by false e g h = g h

stays : (p k : ℕ) (ts : List ℕ) → In k ts → k ≤ p → In k (up_to p ts)
stays p k [] h l = h
stays p k (t ∷ ts) h l = by (nat_le t p) refl (λ i. stays p k ts i l) h
  where
    by : (b : Bool) → nat_le t p ≡ b → (In k ts → In k (up_to p ts)) → In k (t ∷ ts) → In k (cond b (t ∷ ts) (up_to p ts))
    by true e g h = h
    by false e g (inl q) = absurd (omega (arith, leb-false t p e, q, l))
    by false e g (inr i) = g i

up_to_falls : (p : ℕ) (ts : List ℕ) → Falls ts → Falls (up_to p ts)
up_to_falls p [] f = f
up_to_falls p (t ∷ ts) f = by (nat_le t p) (up_to_falls p ts f.1)
  where
    by : (b : Bool) → Falls (up_to p ts) → Falls (cond b (t ∷ ts) (up_to p ts))
    by true g = f
    by false g = g

abbrev pub without : State → List Waiting → State
without s ws = record { stages = s.stages; stack = s.stack; starts = s.starts; waiting = ws }

pub base_without : (g : List (List ℕ)) (s : State) (e : Waiting) (ws : List Waiting) → Base g s → s.waiting ≡ e ∷ ws → Base g (without s ws)
base_without g s e ws b w = record {
  size = b.size;
  stands = b.stands;
  placed = b.placed;
  told = b.told;
  shut = b.shut;
  linked = b.linked;
  falls = b.falls;
  below = b.below;
  bottom = b.bottom;
  real = λ c i. b.real c (subst (In c) (sym w) (inr i));
  order = (subst Sinks w b.order).1;
}

-- all others were seen
pub seen_others : (g : List (List ℕ)) (s : State) (e : Waiting) (ws : List Waiting) → AllSeen g s → s.waiting ≡ e ∷ ws → (p w : ℕ) → p < length s.stack → calls g (at s p) w ≡ true → w < length g → Seen (without s ws) p w ⊎ (e ≡ call p w)
seen_others g s e ws a q p w h c l = by (a p w h c l)
  where
    first : In (call p w) (e ∷ ws) → Seen (without s ws) p w ⊎ (e ≡ call p w)
    first (inl x) = inr x
    first (inr i) = inl (inl i)

    by : Seen s p w → Seen (without s ws) p w ⊎ (e ≡ call p w)
    by (inl i) = first (subst (In (call p w)) q i)
    by (inr x) = inl (inr x)

-- a call of what is closed, or stands nowhere
pub skips : (g : List (List ℕ)) (s : State) (e : Waiting) (ws : List Waiting) → Base g s → AllSeen g s → s.waiting ≡ e ∷ ws → (e.to < length g → IsClosed (stage s e.to)) → AllSeen g (without s ws)
skips g s e ws b a q shut p w h c l = by (seen_others g s e ws a q p w h c l)
  where
    by : Seen (without s ws) p w ⊎ (e ≡ call p w) → Seen (without s ws) p w
    by (inl x) = x
    by (inr x) = inr (inl (subst (λ k. IsClosed (stage s k)) (ap (λ (y : Waiting). y.to) x) (shut (subst (λ k. k < length g) (sym (ap (λ (y : Waiting). y.to) x)) l))))

-- a call of what is open, at a place: all from there on are one group
pub joins_base : (g : List (List ℕ)) (s : State) (e : Waiting) (ws : List Waiting) (t : ℕ) (ts : List ℕ) (q : ℕ) → Base g s → s.waiting ≡ e ∷ ws → s.starts ≡ t ∷ ts → t ≤ e.from → stage s e.to ≡ Open q → Base g (joined (without s ws) q)
joins_base g s e ws t ts q b w f l o = record {
  size = b.size;
  stands = b.stands;
  placed = b.placed;
  told = b.told;
  shut = b.shut;
  linked = linked;
  falls = up_to_falls q s.starts b.falls;
  below = λ k i. b.below k (in_up_to q k s.starts i);
  bottom = λ h. stays q 0 s.starts (b.bottom h) (omega arith);
  real = λ c i. b.real c (subst (In c) (sym w) (inr i));
  order = (subst Sinks w b.order).1;
}
  where
    made : (e.from < length s.stack) × (calls g (at s e.from) e.to ≡ true)
    made = b.real e (subst (In e) (sym w) (inl refl))

    there : (q < length s.stack) × (at s q ≡ e.to)
    there = b.placed e.to q o

    latest : (k : ℕ) → In k s.starts → k ≤ e.from
    latest k i = omega (arith, l, newest-le t k ts (subst Falls f b.falls) (subst (In k) f i))

    within : (p : ℕ) → p < length s.stack → at s p < length g
    within p h = omega (arith, b.size, inside s (at s p) (Open p) (λ (x : Open p ≡ New). absurd (cc)) (b.stands p h))

    step : Way g (at s e.from) (at s q)
    step = inr (called_reaches g (length g) (at s e.from) (at s q) (subst (λ k. calls g (at s e.from) k ≡ true) (sym there.1) made.1))

    from_late : (p r : ℕ) → p < length s.stack → r < length s.stack → q < p → Reach (up_to q s.starts) p r → Way g (at s p) (at s r)
    from_late p r h m d x =
        way_on g (at s p) (at s e.from) (at s r) (within e.from made.0) (b.linked p e.from h made.0 (λ k i y. latest k i))
        (way_on g (at s e.from) (at s q) (at s r) (within q there.0) step (b.linked q r there.0 m (λ k i y. x k (stays q k s.starts i y) (omega (arith, y, d)))))

    from_early : (p r : ℕ) → p < length s.stack → r < length s.stack → p ≤ q → Reach (up_to q s.starts) p r → Way g (at s p) (at s r)
    from_early p r h m d x = b.linked p r h m (λ k i y. x k (stays q k s.starts i (omega (arith, y, d))) y)

    linked : (p r : ℕ) → p < length s.stack → r < length s.stack → Reach (up_to q s.starts) p r → Way g (at s p) (at s r)
    linked p r h m x = by (nat_le p q) refl
      where
        by : (c : Bool) → nat_le p q ≡ c → Way g (at s p) (at s r)
        by true y = from_early p r h m (leb-true p q y) x
        by false y = from_late p r h m (leb-false p q y) x

pub joins_seen : (g : List (List ℕ)) (s : State) (e : Waiting) (ws : List Waiting) (q : ℕ) → Base g s → AllSeen g s → s.waiting ≡ e ∷ ws → stage s e.to ≡ Open q → AllSeen g (joined (without s ws) q)
joins_seen g s e ws q b a w o p v h c l = by (seen_others g s e ws a w p v h c l)
  where
    by : Seen (without s ws) p v ⊎ (e ≡ call p v) → Seen (joined (without s ws) q) p v
    by (inl (inl i)) = inl i
    by (inl (inr (inl x))) = inr (inl x)
    by (inl (inr (inr x))) = inr (inr (x.0, x.1, λ k i y. x.2 k (in_up_to q k s.starts i) y))
    by (inr x) = inr (inr (q, subst (λ k. stage s k ≡ Open q) (ap (λ (y : Waiting). y.to) x) o, λ k i y. up_to-le q k s.starts b.falls i))

-- ---- opening

any_in : (w : ℕ) (js : List ℕ) → list_any (nat_eq w) js ≡ true → In w js
any_in w [] e = absurd (false≢true e)
any_in w (j ∷ js) e = by (nat_eq w j) refl e (any_in w js)
  where
    by : (b : Bool) → nat_eq w j ≡ b → (b || list_any (nat_eq w) js) ≡ true → (list_any (nat_eq w) js ≡ true → In w js) → In w (j ∷ js)
    by true q e f = inl (sym (eqb-true w j q))
    by false q e f = inr (f e)

in_any : (w : ℕ) (js : List ℕ) → In w js → list_any (nat_eq w) js ≡ true
in_any w [] i = absurd i
in_any w (j ∷ js) (inl e) = first_true (nat_eq w j) (list_any (nat_eq w) js) (eq-eqb w j (sym e))
in_any w (j ∷ js) (inr i) = second_true (nat_eq w j) (list_any (nat_eq w) js) (in_any w js i)

old_in : (e : Waiting) (ws : List Waiting) (p : ℕ) (js : List ℕ) → In e ws → In e (with_calls ws p js)
old_in e ws p [] i = i
old_in e ws p (j ∷ js) i = old_in e (call p j ∷ ws) p js (inr i)

new_in : (w : ℕ) (ws : List Waiting) (p : ℕ) (js : List ℕ) → In w js → In (call p w) (with_calls ws p js)
new_in w ws p [] i = absurd i
new_in w ws p (j ∷ js) (inl e) = old_in (call p w) (call p j ∷ ws) p js (inl (ap (call p) e))
new_in w ws p (j ∷ js) (inr i) = new_in w (call p j ∷ ws) p js i

in_calls : (e : Waiting) (ws : List Waiting) (p : ℕ) (js : List ℕ) → In e (with_calls ws p js) → In e ws ⊎ ((j : ℕ) × In j js × (call p j ≡ e))
in_calls e ws p [] i = inl i
in_calls e ws p (j ∷ js) i = by (in_calls e (call p j ∷ ws) p js i)
  where
    by : In e (call p j ∷ ws) ⊎ ((k : ℕ) × In k js × (call p k ≡ e)) → In e ws ⊎ ((k : ℕ) × In k (j ∷ js) × (call p k ≡ e))
    by (inl (inl q)) = inr (j, inl refl, q)
    by (inl (inr i)) = inl i
    by (inr x) = inr (x.0, inr x.1, x.2)

calls_sink : (ws : List Waiting) (p : ℕ) (js : List ℕ) → Sinks ws → ((e : Waiting) → In e ws → e.from ≤ p) → Sinks (with_calls ws p js)
calls_sink ws p [] s l = s
calls_sink ws p (j ∷ js) s l = calls_sink (call p j ∷ ws) p js (l, s) low
  where
    low : (e : Waiting) → In e (call p j ∷ ws) → e.from ≤ p
    low e (inl q) = omega (arith, ap (λ (y : Waiting). y.from) q)
    low e (inr i) = l e i

-- one is new, and every open one comes to it
pub record Fresh (g : List (List ℕ)) (s : State) (v : ℕ) : Type 0 where
  pub new : stage s v ≡ New
  pub within : v < length g
  pub comes : (p : ℕ) → p < length s.stack → Way g (at s p) v

same_or_not : (x v : ℕ) → (x ≡ v) ⊎ (x ≢ v)
same_or_not x v = cases_eq x v

stage_new : (g : List (List ℕ)) (s : State) (v : ℕ) (js : List ℕ) → Base g s → Fresh g s v → stage (opened s v js) v ≡ Open (length s.stack)
stage_new g s v js b f = get_or-set_same s.stages v (Open (length s.stack)) New (omega (arith, f.within, b.size))

stage_old : (s : State) (v x : ℕ) (js : List ℕ) → x ≢ v → stage (opened s v js) x ≡ stage s x
stage_old s v x js n = get_or-set_other s.stages v x (Open (length s.stack)) New n

other : (g : List (List ℕ)) (s : State) (v p : ℕ) → Base g s → Fresh g s v → p < length s.stack → at s p ≢ v
other g s v p b f h e = (let q : Open p ≡ New = sym (b.stands p h) ∙ ap (stage s) e ∙ f.new in cc)

shut_other : (g : List (List ℕ)) (s : State) (v x : ℕ) → Fresh g s v → IsClosed (stage s x) → x ≢ v
shut_other g s v x f c e = subst IsClosed (ap (stage s) e ∙ f.new) c

at_old : (s : State) (v p : ℕ) (js : List ℕ) → p < length s.stack → at (opened s v js) p ≡ at s p
at_old s v p js h = get_or_append_left s.stack (v ∷ []) 0 p h

at_new : (s : State) (v : ℕ) (js : List ℕ) → at (opened s v js) (length s.stack) ≡ v
at_new s v js = get_or-append_seam s.stack v [] 0

one_more : (s : State) (v : ℕ) (js : List ℕ) → length (opened s v js).stack ≡ length s.stack + 1
one_more s v js = length-append s.stack (v ∷ [])

pub opens_base : (g : List (List ℕ)) (s : State) (v : ℕ) → Base g s → Fresh g s v → Base g (opened s v (get_or g v []))
opens_base g s v b f = record {
  size = length-set s.stages v (Open (length s.stack)) ∙ b.size;
  stands = λ p h. below_more (λ p. stage t (at t p) ≡ Open p) (length s.stack)
      (λ p h. ap (stage t) (at_old s v p js h) ∙ stage_old s v (at s p) js (other g s v p b f h) ∙ b.stands p h)
      (ap (stage t) (at_new s v js) ∙ stage_new g s v js b f) p (omega (arith, h, one_more s v js));
  placed = placed;
  told = told;
  shut = shut;
  linked = linked;
  falls = (λ k i. b.below k i, b.falls);
  below = below;
  bottom = λ h. bottom (nat_lt 0 (length s.stack)) refl;
  real = real;
  order = calls_sink s.waiting (length s.stack) js b.order (λ e i. omega (arith, (b.real e i).0));
}
  where
    js : List ℕ
    js = get_or g v []

    t : State
    t = opened s v js

    placed : (x p : ℕ) → stage t x ≡ Open p → (p < length t.stack) × (at t p ≡ x)
    placed x p e = by (same_or_not x v)
      where
        by : (x ≡ v) ⊎ (x ≢ v) → (p < length t.stack) × (at t p ≡ x)
        by (inl q) =
            let o : Open (length s.stack) ≡ Open p = sym (stage_new g s v js b f) ∙ ap (stage t) (sym q) ∙ e in
            let n : length s.stack ≡ p = cc in
            (omega (arith, n, one_more s v js), ap (at t) (sym n) ∙ at_new s v js ∙ sym q)
        by (inr q) =
            let o = b.placed x p (sym (stage_old s v x js q) ∙ e) in
            (omega (arith, o.0, one_more s v js), at_old s v p js o.0 ∙ o.1)

    told : (x : ℕ) (c : Bool) → stage t x ≡ Closed c → c ≡ calls_itself g x
    told x c e = by (same_or_not x v)
      where
        by : (x ≡ v) ⊎ (x ≢ v) → c ≡ calls_itself g x
        by (inl q) = absurd (let o : Open (length s.stack) ≡ Closed c = sym (stage_new g s v js b f) ∙ ap (stage t) (sym q) ∙ e in cc)
        by (inr q) = b.told x c (sym (stage_old s v x js q) ∙ e)

    still : (x : ℕ) → IsClosed (stage s x) → IsClosed (stage t x)
    still x c = subst IsClosed (sym (stage_old s v x js (shut_other g s v x f c))) c

    shut : (x w : ℕ) → IsClosed (stage t x) → calls g x w ≡ true → w < length g → IsClosed (stage t w)
    shut x w c e l = by (same_or_not x v)
      where
        by : (x ≡ v) ⊎ (x ≢ v) → IsClosed (stage t w)
        by (inl q) = absurd (subst IsClosed (ap (stage t) q ∙ stage_new g s v js b f) c)
        by (inr q) = still w (b.shut x w (subst IsClosed (stage_old s v x js q) c) e l)

    linked : (p q : ℕ) → p < length t.stack → q < length t.stack → Reach t.starts p q → Way g (at t p) (at t q)
    linked p q h m x = by (nat_lt p (length s.stack)) (nat_lt q (length s.stack)) refl refl
      where
        by : (c d : Bool) → nat_lt p (length s.stack) ≡ c → nat_lt q (length s.stack) ≡ d → Way g (at t p) (at t q)
        by true true c d =
            let i = ltb-true p (length s.stack) c in
            let j = ltb-true q (length s.stack) d in
            subst (λ k. Way g k (at t q)) (sym (at_old s v p js i)) (subst (λ k. Way g (at s p) k) (sym (at_old s v q js j)) (b.linked p q i j (λ k y z. x k (inr y) z)))
        by true false c d =
            let i = ltb-true p (length s.stack) c in
            let n : length s.stack ≡ q = omega (arith, ltb-false q (length s.stack) d, m, one_more s v js) in
            subst (λ k. Way g k (at t q)) (sym (at_old s v p js i)) (subst (λ k. Way g (at s p) (at t k)) n (subst (λ k. Way g (at s p) k) (sym (at_new s v js)) (f.comes p i)))
        by false true c d = absurd (omega (arith, x (length s.stack) (inl refl) (ltb-false p (length s.stack) c), ltb-true q (length s.stack) d))
        by false false c d = inl (ap (at t) (omega (arith, h, m, one_more s v js, ltb-false p (length s.stack) c, ltb-false q (length s.stack) d)))

    below : (k : ℕ) → In k t.starts → k < length t.stack
    below k (inl e) = omega (arith, e, one_more s v js)
    below k (inr i) = omega (arith, b.below k i, one_more s v js)

    bottom : (c : Bool) → nat_lt 0 (length s.stack) ≡ c → In 0 t.starts
    bottom true e = inr (b.bottom (ltb-true 0 (length s.stack) e))
    bottom false e = inl (omega (arith, ltb-false 0 (length s.stack) e))

    real : (e : Waiting) → In e t.waiting → (e.from < length t.stack) × (calls g (at t e.from) e.to ≡ true)
    real e i = by (in_calls e s.waiting (length s.stack) js i)
      where
        by : In e s.waiting ⊎ ((j : ℕ) × In j js × (call (length s.stack) j ≡ e)) → (e.from < length t.stack) × (calls g (at t e.from) e.to ≡ true)
        by (inl y) = let r = b.real e y in (omega (arith, r.0, one_more s v js), subst (λ k. calls g k e.to ≡ true) (sym (at_old s v e.from js r.0)) r.1)
        by (inr y) =
            subst (λ (z : Waiting). (z.from < length t.stack) × (calls g (at t z.from) z.to ≡ true)) y.2
            (omega (arith, one_more s v js), subst (λ k. calls g k y.0 ≡ true) (sym (at_new s v js)) (in_any y.0 js y.1))

-- what calls it was seen as it opened
pub opens_seen : (g : List (List ℕ)) (s : State) (v : ℕ) → Base g s → Fresh g s v → ((p w : ℕ) → p < length s.stack → calls g (at s p) w ≡ true → w < length g → Seen s p w ⊎ (w ≡ v)) → AllSeen g (opened s v (get_or g v []))
opens_seen g s v b f a p w h c l = by (nat_lt p (length s.stack)) refl
  where
    js : List ℕ
    js = get_or g v []

    t : State
    t = opened s v js

    early : p < length s.stack → Seen s p w ⊎ (w ≡ v) → Seen t p w
    early i (inl (inl x)) = inl (old_in (call p w) s.waiting (length s.stack) js x)
    early i (inl (inr (inl x))) = inr (inl (subst IsClosed (sym (stage_old s v w js (shut_other g s v w f x))) x))
    early i (inl (inr (inr x))) =
        let n : w ≢ v = λ e. (let q : Open x.0 ≡ New = sym x.1 ∙ ap (stage s) e ∙ f.new in cc) in
        inr (inr (x.0, stage_old s v w js n ∙ x.1, reach))
      where
        reach : Reach t.starts p x.0
        reach k (inl e) y = absurd (omega (arith, e, y, i))
        reach k (inr m) y = x.2 k m y
    early i (inr e) = inr (inr (length s.stack, ap (stage t) e ∙ stage_new g s v js b f, λ k m y. omega (arith, y, i)))

    by : (d : Bool) → nat_lt p (length s.stack) ≡ d → Seen t p w
    by true d = let i = ltb-true p (length s.stack) d in early i (a p w i (subst (λ k. calls g k w ≡ true) (at_old s v p js i) c) l)
    by false d =
        let n : length s.stack ≡ p = omega (arith, ltb-false p (length s.stack) d, h, one_more s v js) in
        let o : calls g v w ≡ true = subst (λ k. calls g k w ≡ true) (ap (at t) (sym n) ∙ at_new s v js) c in
        inl (subst (λ k. In (call k w) t.waiting) n (new_in w s.waiting (length s.stack) js (any_in w js o)))
