use Rattle.std.proofs.Common.{◌≡◌, ◌∙◌, ◌<◌, ◌≤◌, ◌-◌, ◌⊎◌, inl, inr, ap, sym, subst, refl, ℕ, suc, List, [], ◌∷◌, Bool, true, false, nat_lt, get_or, length, map, reverse, take, arith, Vec, Global}
use Rattle.std.proofs.lemmas.List.{get_or-map}
use Rattle.std.proofs.lemmas.Bool.{ltb-true, ltb-false, eqb-true}
use Rattle.swf_cycles.specs.Cycles.{calls_itself}
use Rattle.swf_cycles.specs.declared.search.Stage.TheVariants.{New}
use Rattle.swf_cycles.specs.Search.{State, state_of, begun, is_closed_true}
use Rattle.swf_cycles.proofs.Groups.{In, at}
use Rattle.swf_cycles.proofs.Closing.{within}
use Rattle.swf_cycles.proofs.Running.{Sound, Passed, work, begins_sound, begins_pass, advances_sound, advances_less, advances_pass, tells}
use Rattle.swf_cycles.proofs.StepLemmas.{newest_start, some_left, none_left, as_far}
use Rattle.swf_cycles.proofs.search.calling_themselves.Goals as goal

abbrev rows : List (Vec ℕ Global) → List (List ℕ)
rows called = map (λ row. row.items) called

-- a row of the graph
row_at : (called : List (Vec ℕ Global)) (i : ℕ) (r : Vec ℕ Global) → i < length called → r ≡ get_or called i r → get_or (rows called) i [] ≡ r.items
row_at called i r h e = get_or-map (λ (row : Vec ℕ Global). row.items) called i r [] h ∙ ap (λ (row : Vec ℕ Global). row.items) (sym e)

many : (called : List (Vec ℕ Global)) → length (rows called) ≡ length called
many [] = refl
many (row ∷ rest) = ap suc (many rest)

or_last : (s : State) (v : ℕ) → ((i : ℕ) → i < v → Passed s i) → (i : ℕ) → i ≤ v → Passed s i ⊎ (i ≡ v)
or_last s v f i h = by (nat_lt i v) refl
  where
    by : (c : Bool) → nat_lt i v ≡ c → Passed s i ⊎ (i ≡ v)
    by true e = inl (f i (ltb-true i v e))
    by false e = inr (omega (arith, h, ltb-false i v e))

pub loop-search-init : goal.loop-search-init
loop-search-init c =
    let g = rows c.args.called.now in
    let s = state_of c.loop-number.search in
    let v = c.loop-number.number in
    let k = c.loop-number.invariant.0 in
    let l : v < length c.args.called.now = omega (arith, c.loop-number-test.true, c.loop-number.auto.number-end) in
    let h : v < length g = omega (arith, l, many c.args.called.now) in
    let r : get_or g v [] ≡ c.deref.result.now = row_at c.args.called.now v c.index-called-number.result l c.index-called-number.is ∙ sym c.deref.ensures.value in
    let b : state_of c.begin.new.self ≡ begun s v (get_or g v []) = c.in_ok-begin.ensures ∙ ap (begun s v) (sym r) in
    (subst (Sound g) (sym b) (begins_sound g s v k c.loop-number.invariant.1.0 h), λ i m. subst (λ x. Passed x i) (sym b) (begins_pass s v i (get_or g v []) (omega (arith, h, k.base.size)) (or_last s v c.loop-number.invariant.1.1 i m)))

pub advance-requires-clause-start_in : goal.advance-requires-clause-start_in
advance-requires-clause-start_in c =
    let xs = c.loop-search.search.starts in
    let t = c.index-start.result.now in
    let n : 0 < xs.len = some_left xs.len c.is_empty.result c.is_empty.ensures c.loop-search-test.true in
    let f = newest_start xs.items c.len.result t (omega (arith, c.len.ensures, xs.ok.0)) (omega (arith, c.len.ensures, n)) c.index-start.ensures in
    c.loop-search.invariant.0.base.below t (subst (In t) (sym f) (inl refl))

pub advance-requires-clause-number_in : goal.advance-requires-clause-number_in
advance-requires-clause-number_in c =
    let g = rows c.args.called.now in
    let s = state_of c.loop-search.search in
    let xs = c.loop-search.search.starts in
    let t = c.index-start.result.now in
    let n : 0 < xs.len = some_left xs.len c.is_empty.result c.is_empty.ensures c.loop-search-test.true in
    let f = newest_start xs.items c.len.result t (omega (arith, c.len.ensures, xs.ok.0)) (omega (arith, c.len.ensures, n)) c.index-start.ensures in
    let b = c.loop-search.invariant.0.base in
    let h : at s t < length g = within g s t b (b.below t (subst (In t) (sym f) (inl refl))) in
    omega (arith, h, many c.args.called.now)

pub loop-search-smaller : goal.loop-search-smaller
loop-search-smaller c =
    let g = rows c.args.called.now in
    let s = state_of c.loop-search.search in
    let xs = c.loop-search.search.starts in
    let t = c.index-start.result.now in
    let n : 0 < xs.len = some_left xs.len c.is_empty.result c.is_empty.ensures c.loop-search-test.true in
    let f = newest_start xs.items c.len.result t (omega (arith, c.len.ensures, xs.ok.0)) (omega (arith, c.len.ensures, n)) c.index-start.ensures in
    subst (λ x. work g x < work g s) (sym c.in_ok-advance.ensures) (advances_less g s t (reverse (take (length xs.items - 1) xs.items)) c.loop-search.invariant.0 f)

pub loop-search-preserved : goal.loop-search-preserved
loop-search-preserved c =
    let g = rows c.args.called.now in
    let s = state_of c.loop-search.search in
    let xs = c.loop-search.search.starts in
    let t = c.index-start.result.now in
    let n : 0 < xs.len = some_left xs.len c.is_empty.result c.is_empty.ensures c.loop-search-test.true in
    let f = newest_start xs.items c.len.result t (omega (arith, c.len.ensures, xs.ok.0)) (omega (arith, c.len.ensures, n)) c.index-start.ensures in
    (subst (Sound g) (sym c.in_ok-advance.ensures) (advances_sound g s t (reverse (take (length xs.items - 1) xs.items)) c.loop-search.invariant.0 f), λ i m. subst (λ x. Passed x i) (sym c.in_ok-advance.ensures) (advances_pass g s t i s.waiting (c.loop-search.invariant.1 i m)))

pub loop-number-preserved : goal.loop-number-preserved
loop-number-preserved c =
    let xs = c.loop-search.search.starts in
    let n : xs.len ≡ 0 = eqb-true xs.len 0 (sym c.is_empty.ensures ∙ c.loop-search-test.false) in
    (c.loop-search.invariant.0, (none_left xs.items (omega (arith, n, xs.ok.0)), λ i m. c.loop-search.invariant.1 i (omega (arith, m))))

pub returns-clause-each : goal.returns-clause-each
returns-clause-each c =
    let g = rows c.args.called.now in
    let s = state_of c.loop-number.search in
    let k = c.loop-number.invariant.0 in
    as_far c.answers.result (λ a. a.items ≡ map is_closed_true s.stages) (λ a. (i : ℕ) → i < length c.args.called.now → get_or a.items i false ≡ calls_itself g i)
    (λ a e i h.
    ap (λ l. get_or l i false) e
    ∙ get_or-map is_closed_true s.stages i New false (omega (arith, h, many c.args.called.now, k.base.size))
    ∙ tells g s i k c.loop-number.invariant.1.0 (c.loop-number.invariant.1.1 i (omega (arith, h, c.loop-number-test.false, c.loop-number.auto.number-end))))
    c.answers.ensures
