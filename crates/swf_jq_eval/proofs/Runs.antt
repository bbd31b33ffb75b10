-- Runs that follow one another.
use Rattle.std.proofs.Common.{◌≡◌, ◌+◌, ◌<◌, ◌≤◌, ℕ, List, [], ◌∷◌, ◌++◌, Result, Ok, Err, refl, sym, ap, ◌∙◌, subst, arith, zero, suc, length, get_or, drop, append-nil, append_assoc}
use Rattle.swf_jq_eval.specs.declared.outputs.Ending.{Ending as Ends}
use Rattle.swf_jq_eval.specs.declared.outputs.Ending.TheVariants as endings
use Rattle.swf_jq_eval.specs.declared.outputs.Stop.{Stop}
use Rattle.swf_jq_eval.specs.declared.outputs.Stop.TheVariants as stops
use Rattle.swf_jq_eval.specs.declared.outputs.Out.{Out}
use Rattle.swf_jq_eval.specs.declared.outputs.Outputs.{Outputs}
use Rattle.swf_evaluation.specs.Run.{Ending, clean, raised, Run, gave, gives, spend, turn, after, followed_by, each, over}
use Rattle.swf_value.specs.Value.{Value}
use Rattle.swf_evaluation.specs.Turns.{limit}
use Rattle.swf_jq_eval.specs.Goes.{ending_of, ahead, Goes, Comes}

-- a run that ended clean goes on with the next
pub goes_on : (old mid : Out) (s t : Run) → Goes old s mid (Ok endings.Clean) → ahead mid t ≡ ahead old (followed_by s t)
goes_on old mid s t h =
    let v : mid.values.items ++ [] ≡ old.values.items ++ s.values = ap (λ (r : Run). r.values) h in
    let e : clean ≡ s.end = ap (λ (r : Run). r.end) h in
    let n : mid.turns + 0 ≡ old.turns + s.turns = ap (λ (r : Run). r.turns) h in
    let v' : mid.values.items ++ t.values ≡ old.values.items ++ (s.values ++ t.values) = ap (λ (l : List Value). l ++ t.values) (sym (append-nil mid.values.items) ∙ v) ∙ append_assoc old.values.items s.values t.values in
    let n' : mid.turns + t.turns ≡ old.turns + (s.turns + t.turns) = omega (arith, n) in
    (λ i. record { values = v' i; end = t.end; turns = n' i })
    ∙ ap (λ c. ahead old (after c s t)) e

-- a run that raised is the whole
pub goes_out : (old mid : Out) (s t : Run) (m : Value) → Goes old s mid (Ok (endings.Raised m)) → Goes old (followed_by s t) mid (Ok (endings.Raised m))
goes_out old mid s t m h = h ∙ ap (λ c. ahead old (after c s t)) (ap (λ (r : Run). r.end) h)

no_fewer : (e : Ending) (s t : Run) → s.turns ≤ (after e s t).turns
no_fewer clean s t = omega arith
no_fewer (raised m) s t = omega arith

pub stops_at : (old mid new : Out) (s t : Run) (e : Stop) → Goes old s mid (Err e) → Goes old (followed_by s t) new (Err e)
stops_at old mid new s t stops.Limit h = omega (arith, h, no_fewer s.end s t)
stops_at old mid new s t stops.OutOfMemory h = tt

-- what begins where another run is ahead of the same
pub goes_from : (old mid new : Out) (s t : Run) (r : Result Ends Stop) → ahead mid t ≡ ahead old s → Goes mid t new r → Goes old s new r
goes_from old mid new s t (Ok e) k h = h ∙ k
goes_from old mid new s t (Err stops.Limit) k h = let n : mid.turns + t.turns ≡ old.turns + s.turns = ap (λ (r : Run). r.turns) k in omega (arith, h, n)
goes_from old mid new s t (Err stops.OutOfMemory) k h = tt

-- what is made of the outputs of a run
pub made_from : (F : List Value → Ending → Run) (old mid : Out) (s : Run) (o : Outputs) → Comes old s mid (Ok o)
    → ahead mid (F o.values.items (ending_of o.end)) ≡ ahead old (spend s.turns (F s.values s.end))
made_from F old mid s o h =
    let v : o.values.items ≡ s.values = ap (λ (r : Run). r.values) h.1 in
    let e : ending_of o.end ≡ s.end = ap (λ (r : Run). r.end) h.1 in
    let n : mid.turns + 0 ≡ old.turns + s.turns = ap (λ (r : Run). r.turns) h.1 in
    let k : mid.turns + (F s.values s.end).turns ≡ old.turns + (s.turns + (F s.values s.end).turns) = omega (arith, n) in
    (λ i. ahead mid (F (v i) (e i)))
    ∙ (λ i. record { values = h.0 i ++ (F s.values s.end).values; end = (F s.values s.end).end; turns = k i })

-- what stops while outputs are made stops the whole
pub made_stop : (F : List Value → Ending → Run) (old mid new : Out) (s : Run) (e : Stop) → Comes old s mid (Err e) → Goes old (spend s.turns (F s.values s.end)) new (Err e)
made_stop F old mid new s stops.Limit h = omega (arith, h)
made_stop F old mid new s stops.OutOfMemory h = tt

-- a turn that was counted
pub turn_on : (old mid new : Out) (s : Run) (r : Result Ends Stop) → mid ≡ record { turns = old.turns + 1; values = old.values } → Goes mid s new r → Goes old (turn s) new r
turn_on old mid new s r k h =
    let n : old.turns + 1 + s.turns ≡ old.turns + (1 + s.turns) = omega arith in
    goes_from old mid new (turn s) s r (ap (λ (o : Out). ahead o s) k ∙ (λ i. record { values = old.values.items ++ s.values; end = s.end; turns = n i })) h

pub turn_stop : (old new : Out) (s : Run) → limit < old.turns + 1 → Goes old (turn s) new (Err stops.Limit)
turn_stop old new s h = omega (arith, h)

-- what goes on with each output
pub over_on : (old mid new : Out) (s : Run) (g : Value → Run) (o : Outputs) (r : Result Ends Stop) → Comes old s mid (Ok o)
    → Goes mid (each g o.values.items (ending_of o.end)) new r → Goes old (over s g) new r
over_on old mid new s g o r h k = goes_from old mid new (over s g) (each g o.values.items (ending_of o.end)) r (made_from (each g) old mid s o h) k

-- a run for the first value, which ended clean, and then for the others
pub each_on : (k : Value → Run) (xs : List Value) (i : ℕ) (e : Ending) (mid new : Out) (x : Value)
    → i < length xs → x ≡ get_or xs i x → Goes mid (k x) new (Ok endings.Clean)
    → ahead new (each k (drop (suc i) xs) e) ≡ ahead mid (each k (drop i xs) e)
each_on k [] n e mid new x l q h = absurd (omega (arith, l))
each_on k (y ∷ xs) zero e mid new x l q h = goes_on mid new (k y) (each k xs e) (subst (λ z. Goes mid (k z) new (Ok endings.Clean)) q h)
each_on k (y ∷ xs) (suc i) e mid new x l q h = each_on k xs i e mid new x (omega (arith, l)) q h

pub each_out : (k : Value → Run) (xs : List Value) (i : ℕ) (e : Ending) (mid new : Out) (x m : Value)
    → i < length xs → x ≡ get_or xs i x → Goes mid (k x) new (Ok (endings.Raised m)) → Goes mid (each k (drop i xs) e) new (Ok (endings.Raised m))
each_out k [] n e mid new x m l q h = absurd (omega (arith, l))
each_out k (y ∷ xs) zero e mid new x m l q h = goes_out mid new (k y) (each k xs e) m (subst (λ z. Goes mid (k z) new (Ok (endings.Raised m))) q h)
each_out k (y ∷ xs) (suc i) e mid new x m l q h = each_out k xs i e mid new x m (omega (arith, l)) q h

pub each_stop : (k : Value → Run) (xs : List Value) (i : ℕ) (e : Ending) (mid new : Out) (x : Value) (s : Stop)
    → i < length xs → x ≡ get_or xs i x → Goes mid (k x) new (Err s) → Goes mid (each k (drop i xs) e) new (Err s)
each_stop k [] n e mid new x s l q h = absurd (omega (arith, l))
each_stop k (y ∷ xs) zero e mid new x s l q h = stops_at mid new new (k y) (each k xs e) s (subst (λ z. Goes mid (k z) new (Err s)) q h)
each_stop k (y ∷ xs) (suc i) e mid new x s l q h = each_stop k xs i e mid new x s (omega (arith, l)) q h

pub each_end : (k : Value → Run) (xs : List Value) (i : ℕ) (e : Ending) → length xs ≤ i → gave [] e ≡ each k (drop i xs) e
each_end k [] zero e l = refl
each_end k [] (suc i) e l = refl
each_end k (x ∷ xs) zero e l = absurd (omega (arith, l))
each_end k (x ∷ xs) (suc i) e l = each_end k xs i e (omega (arith, l))

-- a run after which nothing comes
none_after : (e : Ending) (s : Run) → s.end ≡ e → s ≡ after e s (gave [] clean)
none_after clean s h = let n : s.turns ≡ s.turns + 0 = omega arith in λ i. record { values = sym (append-nil s.values) i; end = h i; turns = n i }
none_after (raised m) s h = refl

-- a run for one value that takes a turn
pub over_one : (v : Value) (g : Value → Run) → turn (g v) ≡ over (turn (gives v)) g
over_one v g = ap turn (none_after (g v).end (g v) refl)

-- the turns of a made value
pub made_on : (old mid new : Out) (n : ℕ) (s : Run) → mid ≡ record { turns = old.turns + n; values = old.values } → ahead mid s ≡ ahead old (spend n s)
made_on old mid new n s k = let t : old.turns + n + s.turns ≡ old.turns + (n + s.turns) = omega arith in ap (λ (o : Out). ahead o s) k ∙ (λ i. record { values = old.values.items ++ s.values; end = s.end; turns = t i })
