-- The whole search: each step keeps what is known, and there is less left to do.
use Rattle.std.proofs.Common.{◌≡◌, ◌≢◌, ◌∙◌, sym, subst, refl, ap, ℕ, zero, suc, ◌+◌, ◌<◌, ◌≤◌, ◌⊎◌, inl, inr, List, [], ◌∷◌, Bool, true, false, ◌&&◌, cond, nat_le, nat_lt, length, get_or, arith, drop, replicate}
use Rattle.std.specs.Prelude.{slice_set}
use Rattle.std.proofs.lemmas.List.{get_or-set_same, get_or-set_other, get_or-replicate, get_or_past, length-replicate, set_past}
use Rattle.std.proofs.lemmas.Bool.{ltb-true, ltb-false, leb-true, leb-false, cases_eq}
use Rattle.swf_cycles.specs.Cycles.{calls, calls_itself}
use Rattle.swf_cycles.specs.declared.search.Stage.{Stage}
use Rattle.swf_cycles.specs.declared.search.Stage.TheVariants.{New, Open, Closed}
use Rattle.swf_cycles.specs.declared.search.Waiting.{Waiting}
use Rattle.swf_cycles.specs.Search.{State, with_calls, opened, is_new, begun, up_to, all_closed, rest, closed, is_cycle, NoneOf, met, followed, advanced, is_closed_true}
use Rattle.swf_cycles.proofs.ReachLemmas.{called_reaches}
use Rattle.swf_cycles.proofs.Groups.{In, stage, at, IsClosed, call, Seen, Base, AllSeen, Fresh, inside, without, base_without, seen_others, skips, joins_base, joins_seen, opens_base, opens_seen, way_on}
use Rattle.swf_cycles.proofs.Closing.{Last, starts-le, closes_base, closes_seen}

pub record Sound (g : List (List ℕ)) (s : State) : Type 0 where
  pub base : Base g s
  pub seen : AllSeen g s

-- a call of the last group is followed
pub follows_sound : (g : List (List ℕ)) (s : State) (e : Waiting) (ws : List Waiting) (t : ℕ) (ts : List ℕ) → Sound g s → s.waiting ≡ e ∷ ws → s.starts ≡ t ∷ ts → t ≤ e.from → Sound g (followed g (without s ws) e.to)
follows_sound g s e ws t ts k w f l = by (nat_lt e.to (length s.stages)) (stage s e.to) refl refl
  where
    b : Base g s
    b = k.base

    none : Base g (without s ws)
    none = base_without g s e ws b w

    made : (e.from < length s.stack) × (calls g (at s e.from) e.to ≡ true)
    made = b.real e (subst (In e) (sym w) (inl refl))

    within : (p : ℕ) → p < length s.stack → at s p < length g
    within p h = omega (arith, b.size, inside s (at s p) (Open p) (λ (x : Open p ≡ New). absurd (cc)) (b.stands p h))

    latest : (j : ℕ) → In j s.starts → j ≤ e.from
    latest j i = omega (arith, l, starts-le s t ts b.falls f j i)

    fresh : stage s e.to ≡ New → e.to < length g → Fresh g (without s ws) e.to
    fresh o h = record { new = o; within = h; comes = λ p m. way_on g (at s p) (at s e.from) e.to (within e.from made.0) (b.linked p e.from m made.0 (λ j i y. latest j i)) (inr (called_reaches g (length g) (at s e.from) e.to made.1)) }

    others : (p v : ℕ) → p < length s.stack → calls g (at s p) v ≡ true → v < length g → Seen (without s ws) p v ⊎ (v ≡ e.to)
    others p v h c m = by (seen_others g s e ws k.seen w p v h c m)
      where
        by : Seen (without s ws) p v ⊎ (e ≡ call p v) → Seen (without s ws) p v ⊎ (v ≡ e.to)
        by (inl x) = inl x
        by (inr x) = inr (sym (ap (λ (y : Waiting). y.to) x))

    by : (c : Bool) (x : Stage) → nat_lt e.to (length s.stages) ≡ c → stage s e.to ≡ x → Sound g (cond c (met g (without s ws) e.to x) (without s ws))
    by true New c x = let h : e.to < length g = omega (arith, ltb-true e.to (length s.stages) c, b.size) in record { base = opens_base g (without s ws) e.to none (fresh x h); seen = opens_seen g (without s ws) e.to none (fresh x h) others }
    by true (Open q) c x = record { base = joins_base g s e ws t ts q b w f l x; seen = joins_seen g s e ws q b k.seen w x }
    by true (Closed v) c x = record { base = none; seen = skips g s e ws b k.seen w (λ h. subst IsClosed (sym x) tt) }
    by false x c y = record { base = none; seen = skips g s e ws b k.seen w (λ h. absurd (omega (arith, h, ltb-false e.to (length s.stages) c, b.size))) }

-- a step of the search
pub advances_sound : (g : List (List ℕ)) (s : State) (t : ℕ) (ts : List ℕ) → Sound g s → s.starts ≡ t ∷ ts → Sound g (advanced g s t s.waiting)
advances_sound g s t ts k f = by s.waiting refl
  where
    closes : NoneOf t s.waiting → Sound g (closed s t (is_cycle g s t))
    closes n = let l : Last s t ts = record { starts = f; over = n } in record { base = closes_base g s t ts k.base k.seen l; seen = closes_seen g s t ts k.base k.seen l }

    next : (e : Waiting) (ws : List Waiting) → s.waiting ≡ e ∷ ws → (c : Bool) → nat_le t e.from ≡ c → Sound g (cond c (followed g (without s ws) e.to) (closed s t (is_cycle g s t)))
    next e ws w true c = follows_sound g s e ws t ts k w f (leb-true t e.from c)
    next e ws w false c = closes (subst (NoneOf t) (sym w) (leb-false t e.from c))

    by : (ws : List Waiting) → s.waiting ≡ ws → Sound g (advanced g s t ws)
    by [] w = closes (subst (NoneOf t) (sym w) tt)
    by (e ∷ ws) w = next e ws w (nat_le t e.from) refl

-- ---- what is left to do

-- for each that is new, the steps of its opening, of its calls and of its closing
abbrev pub left : List Stage → List (List ℕ) → ℕ
left [] g = 0
left (x ∷ xs) [] = 0
left (New ∷ xs) (r ∷ rs) = 2 + length r + left xs rs
left (Open p ∷ xs) (r ∷ rs) = left xs rs
left (Closed b ∷ xs) (r ∷ rs) = left xs rs

abbrev pub work : List (List ℕ) → State → ℕ
work g s = left s.stages g + length s.waiting + length s.starts

left_opened : (xs : List Stage) (g : List (List ℕ)) (v p : ℕ) → v < length xs → v < length g → get_or xs v New ≡ New → left (slice_set xs v (Open p)) g + 2 + length (get_or g v []) ≡ left xs g
left_opened [] g v p h m e = absurd (omega arith)
left_opened (x ∷ xs) [] v p h m e = absurd (omega arith)
left_opened (New ∷ xs) (r ∷ rs) zero p h m e = omega arith
left_opened (Open q ∷ xs) (r ∷ rs) zero p h m e = absurd (cc)
left_opened (Closed b ∷ xs) (r ∷ rs) zero p h m e = absurd (cc)
left_opened (New ∷ xs) (r ∷ rs) (suc v) p h m e = omega (arith, left_opened xs rs v p (omega arith) (omega arith) e)
left_opened (Open q ∷ xs) (r ∷ rs) (suc v) p h m e = left_opened xs rs v p (omega arith) (omega arith) e
left_opened (Closed b ∷ xs) (r ∷ rs) (suc v) p h m e = left_opened xs rs v p (omega arith) (omega arith) e

left_set : (xs : List Stage) (g : List (List ℕ)) (v : ℕ) (b : Bool) → left (slice_set xs v (Closed b)) g ≤ left xs g
left_set [] g v b = omega arith
left_set (x ∷ xs) [] zero b = omega arith
left_set (x ∷ xs) [] (suc v) b = omega arith
left_set (New ∷ xs) (r ∷ rs) zero b = omega arith
left_set (Open q ∷ xs) (r ∷ rs) zero b = omega arith
left_set (Closed c ∷ xs) (r ∷ rs) zero b = omega arith
left_set (New ∷ xs) (r ∷ rs) (suc v) b = omega (arith, left_set xs rs v b)
left_set (Open q ∷ xs) (r ∷ rs) (suc v) b = left_set xs rs v b
left_set (Closed c ∷ xs) (r ∷ rs) (suc v) b = left_set xs rs v b

left_closed : (xs : List Stage) (g : List (List ℕ)) (vs : List ℕ) (b : Bool) → left (all_closed xs vs b) g ≤ left xs g
left_closed xs g [] b = omega arith
left_closed xs g (v ∷ vs) b = omega (arith, left_closed (slice_set xs v (Closed b)) g vs b, left_set xs g v b)

length-with_calls : (ws : List Waiting) (p : ℕ) (js : List ℕ) → length (with_calls ws p js) ≡ length ws + length js
length-with_calls ws p [] = omega arith
length-with_calls ws p (j ∷ js) = omega (arith, length-with_calls (call p j ∷ ws) p js)

up_to-short : (p : ℕ) (ts : List ℕ) → length (up_to p ts) ≤ length ts
up_to-short p [] = omega arith
up_to-short p (t ∷ ts) = by (nat_le t p) (up_to-short p ts)
  where
    by : (b : Bool) → length (up_to p ts) ≤ length ts → length (cond b (t ∷ ts) (up_to p ts)) ≤ length (t ∷ ts)
    by true h = omega arith
    by false h = omega (arith, h)

-- a step leaves less
pub advances_less : (g : List (List ℕ)) (s : State) (t : ℕ) (ts : List ℕ) → Sound g s → s.starts ≡ t ∷ ts → work g (advanced g s t s.waiting) < work g s
advances_less g s t ts k f = by s.waiting refl
  where
    closes : work g (closed s t (is_cycle g s t)) < work g s
    closes = omega (arith, left_closed s.stages g (drop t s.stack) (is_cycle g s t), ap length f, ap (λ l. length (rest l)) f)

    meets : (e : Waiting) (ws : List Waiting) → s.waiting ≡ e ∷ ws → (c : Bool) (x : Stage) → nat_lt e.to (length s.stages) ≡ c → stage s e.to ≡ x → work g (cond c (met g (without s ws) e.to x) (without s ws)) < work g s
    meets e ws w true New c x =
        let h = ltb-true e.to (length s.stages) c in
        omega (arith, left_opened s.stages g e.to (length s.stack) h (omega (arith, h, k.base.size)) x, length-with_calls ws (length s.stack) (get_or g e.to []), ap length w)
    meets e ws w true (Open q) c x = omega (arith, up_to-short q s.starts, ap length w)
    meets e ws w true (Closed v) c x = omega (arith, ap length w)
    meets e ws w false x c y = omega (arith, ap length w)

    next : (e : Waiting) (ws : List Waiting) → s.waiting ≡ e ∷ ws → (c : Bool) → work g (cond c (followed g (without s ws) e.to) (closed s t (is_cycle g s t))) < work g s
    next e ws w true = meets e ws w (nat_lt e.to (length s.stages)) (stage s e.to) refl refl
    next e ws w false = closes

    by : (ws : List Waiting) → s.waiting ≡ ws → work g (advanced g s t ws) < work g s
    by [] w = closes
    by (e ∷ ws) w = next e ws w (nat_le t e.from)

-- ---- what is no longer new stays so

abbrev pub Passed : State → ℕ → Type 0
Passed s x = stage s x ≡ New → ⊥

set_passes : (xs : List Stage) (v x : ℕ) (y : Stage) → (y ≡ New → ⊥) → (get_or xs x New ≡ New → ⊥) → get_or (slice_set xs v y) x New ≡ New → ⊥
set_passes xs v x y n h e = by (cases_eq x v) (nat_lt v (length xs)) refl
  where
    by : (x ≡ v) ⊎ (x ≢ v) → (c : Bool) → nat_lt v (length xs) ≡ c → ⊥
    by (inr d) c q = h (sym (get_or-set_other xs v x y New d) ∙ e)
    by (inl d) true q = n (sym (get_or-set_same xs v y New (ltb-true v (length xs) q)) ∙ ap (λ k. get_or (slice_set xs v y) k New) (sym d) ∙ e)
    by (inl d) false q = h (ap (λ l. get_or l x New) (sym (set_past xs v y (ltb-false v (length xs) q))) ∙ e)

closed_passes : (xs : List Stage) (vs : List ℕ) (b : Bool) (x : ℕ) → (get_or xs x New ≡ New → ⊥) → get_or (all_closed xs vs b) x New ≡ New → ⊥
closed_passes xs [] b x h = h
closed_passes xs (v ∷ vs) b x h = closed_passes (slice_set xs v (Closed b)) vs b x (set_passes xs v x (Closed b) (λ e. absurd (cc)) h)

pub advances_pass : (g : List (List ℕ)) (s : State) (t x : ℕ) (ws : List Waiting) → Passed s x → Passed (advanced g s t ws) x
advances_pass g s t x [] h = closed_passes s.stages (drop t s.stack) (is_cycle g s t) x h
advances_pass g s t x (e ∷ ws) h = by (nat_le t e.from)
  where
    meets : (c : Bool) (y : Stage) → Passed (cond c (met g (without s ws) e.to y) (without s ws)) x
    meets true New = set_passes s.stages e.to x (Open (length s.stack)) (λ e. absurd (cc)) h
    meets true (Open q) = h
    meets true (Closed v) = h
    meets false y = h

    by : (c : Bool) → Passed (cond c (followed g (without s ws) e.to) (closed s t (is_cycle g s t))) x
    by true = meets (nat_lt e.to (length s.stages)) (stage s e.to)
    by false = closed_passes s.stages (drop t s.stack) (is_cycle g s t) x h

-- ---- from one that was not met to the next

-- where no group is left nothing is open
pub nothing_open : (g : List (List ℕ)) (s : State) → Base g s → s.starts ≡ [] → length s.stack ≡ 0
nothing_open g s b e = by (nat_lt 0 (length s.stack)) refl
  where
    by : (c : Bool) → nat_lt 0 (length s.stack) ≡ c → length s.stack ≡ 0
    by true c = absurd (subst (In 0) e (b.bottom (ltb-true 0 (length s.stack) c)))
    by false c = omega (arith, ltb-false 0 (length s.stack) c)

pub begins_sound : (g : List (List ℕ)) (s : State) (v : ℕ) → Sound g s → s.starts ≡ [] → v < length g → Sound g (begun s v (get_or g v []))
begins_sound g s v k e h = by (nat_lt v (length s.stages)) (stage s v) refl
  where
    zero_open : (p : ℕ) → p < length s.stack → ⊥
    zero_open p m = absurd (omega (arith, m, nothing_open g s k.base e))

    fresh : stage s v ≡ New → Fresh g s v
    fresh x = record { new = x; within = h; comes = λ p m. absurd (zero_open p m) }

    by : (c : Bool) (x : Stage) → stage s v ≡ x → Sound g (cond (c && is_new x) (opened s v (get_or g v [])) s)
    by true New x = record { base = opens_base g s v k.base (fresh x); seen = opens_seen g s v k.base (fresh x) (λ p w m c l. absurd (zero_open p m)) }
    by true (Open p) x = k
    by true (Closed b) x = k
    by false y x = k

pub begins_pass : (s : State) (v x : ℕ) (js : List ℕ) → v < length s.stages → Passed s x ⊎ (x ≡ v) → Passed (begun s v js) x
begins_pass s v x js h p = by (nat_lt v (length s.stages)) (stage s v) refl refl p
  where
    by : (c : Bool) (y : Stage) → nat_lt v (length s.stages) ≡ c → stage s v ≡ y → Passed s x ⊎ (x ≡ v) → Passed (cond (c && is_new y) (opened s v js) s) x
    by true New c y (inl q) = set_passes s.stages v x (Open (length s.stack)) (λ e. absurd (cc)) q
    by true New c y (inr q) = λ e. (let o : Open (length s.stack) ≡ New = sym (get_or-set_same s.stages v (Open (length s.stack)) New h) ∙ ap (stage (opened s v js)) (sym q) ∙ e in absurd (cc))
    by true (Open p) c y (inl q) = q
    by true (Open p) c y (inr q) = λ e. (let o : Open p ≡ New = sym y ∙ ap (stage s) (sym q) ∙ e in absurd (cc))
    by true (Closed b) c y (inl q) = q
    by true (Closed b) c y (inr q) = λ e. (let o : Closed b ≡ New = sym y ∙ ap (stage s) (sym q) ∙ e in absurd (cc))
    by false y c z q = absurd (omega (arith, h, ltb-false v (length s.stages) c))

abbrev pub unmet : ℕ → State
unmet n = record { stages = replicate n New; stack = []; starts = []; waiting = [] }

pub unmet_sound : (g : List (List ℕ)) → Sound g (unmet (length g))
unmet_sound g = record { base = base; seen = λ p w h. absurd (omega (arith, h)) }
  where
    new : (v : ℕ) → stage (unmet (length g)) v ≡ New
    new v = by (nat_lt v (length g)) refl
      where
        by : (c : Bool) → nat_lt v (length g) ≡ c → stage (unmet (length g)) v ≡ New
        by true c = get_or-replicate (length g) v New New (ltb-true v (length g) c)
        by false c = get_or_past (replicate (length g) New) v New (omega (arith, ltb-false v (length g) c, length-replicate (length g) New))

    base : Base g (unmet (length g))
    base = record {
      size = length-replicate (length g) New;
      stands = λ p h. absurd (omega (arith, h));
      placed = λ v p e. absurd (let o : New ≡ Open p = sym (new v) ∙ e in cc);
      told = λ v b e. absurd (let o : New ≡ Closed b = sym (new v) ∙ e in cc);
      shut = λ v w c. absurd (subst IsClosed (new v) c);
      linked = λ p q h. absurd (omega (arith, h));
      falls = tt;
      below = λ k i. absurd i;
      bottom = λ h. absurd (omega (arith, h));
      real = λ e i. absurd i;
      order = tt;
    }

-- at the end each is closed, and told right
pub tells : (g : List (List ℕ)) (s : State) (i : ℕ) → Sound g s → s.starts ≡ [] → Passed s i → is_closed_true (stage s i) ≡ calls_itself g i
tells g s i k e p = by (stage s i) refl
  where
    by : (x : Stage) → stage s i ≡ x → is_closed_true x ≡ calls_itself g i
    by New x = absurd (p x)
    by (Open q) x = absurd (omega (arith, (k.base.placed i q x).0, nothing_open g s k.base e))
    by (Closed b) x = k.base.told i b x
