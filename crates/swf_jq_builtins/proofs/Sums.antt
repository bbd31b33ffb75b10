-- Adding up values.
use Rattle.std.proofs.Common.{◌≡◌, ◌∙◌, ℕ, ◌+◌, ◌<◌, ◌≤◌, List, [], ◌∷◌, length, get_or, drop, refl, ap, sym, Ok, Err}
use Rattle.std.proofs.lemmas.List.{drop_all}
use Rattle.swf_value.specs.Value.{Value, null, boolean, int, text, list, object, Items, no_items, Members, no_members, Ascending}
use Rattle.swf_value.proofs.Rests.{rest_at}
use Rattle.swf_evaluation.specs.Builtins.{summed, lead, and_then}
use Rattle.swf_evaluation.specs.Operations.{sum_of}
use Rattle.swf_jq_builtins.proofs.Lists.{items_of_values_of}
use Rattle.swf_jq_builtins.proofs.Merges.{merged_with_none}

sum_next : (v : Value) (ws : List Value) (i : ℕ) (w : Value) → i < length ws → w ≡ get_or ws i w → summed v (drop i ws) ≡ and_then (sum_of v w) (λ x. summed x (drop (i + 1) ws))
sum_next v ws i w h e = ap (summed v) (rest_at ws i w h e)

pub sum_more : (v : Value) (ws : List Value) (i : ℕ) (w x : Value) → i < length ws → w ≡ get_or ws i w → sum_of v w ≡ Ok x → summed v (drop i ws) ≡ summed x (drop (i + 1) ws)
sum_more v ws i w x h e s = sum_next v ws i w h e ∙ ap (λ r. and_then r (λ y. summed y (drop (i + 1) ws))) s

pub sum_fails : (v : Value) (ws : List Value) (i : ℕ) (w x : Value) → i < length ws → w ≡ get_or ws i w → sum_of v w ≡ Err x → summed v (drop i ws) ≡ Err x
sum_fails v ws i w x h e s = sum_next v ws i w h e ∙ ap (λ r. and_then r (λ y. summed y (drop (i + 1) ws))) s

pub sum_done : (v : Value) (ws : List Value) (i : ℕ) → length ws ≤ i → summed v (drop i ws) ≡ Ok v
sum_done v ws i h = ap (summed v) (drop_all i ws h)

-- what is added to null before the first value that is none
pub lead_text : (vs : List Value) (t : List ℕ) → lead vs ≡ text t → summed null vs ≡ summed (text []) vs
lead_text [] t e = absurd (cc)
lead_text (null ∷ vs) t e = lead_text vs t e
lead_text (boolean b ∷ vs) t e = absurd (cc)
lead_text (int z ∷ vs) t e = absurd (cc)
lead_text (text s ∷ vs) t e = refl
lead_text (list ds ∷ vs) t e = absurd (cc)
lead_text (object ms ∷ vs) t e = absurd (cc)

pub lead_list : (vs : List Value) (ds : Items) → lead vs ≡ list ds → summed null vs ≡ summed (list no_items) vs
lead_list [] es e = absurd (cc)
lead_list (null ∷ vs) es e = lead_list vs es e
lead_list (boolean b ∷ vs) es e = absurd (cc)
lead_list (int z ∷ vs) es e = absurd (cc)
lead_list (text s ∷ vs) es e = absurd (cc)
lead_list (list ds ∷ vs) es e = ap (λ fs. summed (list fs) vs) (sym (items_of_values_of ds))
lead_list (object ms ∷ vs) es e = absurd (cc)

pub lead_object : (vs : List Value) (ms : Members) → lead vs ≡ object ms → Ascending ms → summed null vs ≡ summed (object no_members) vs
lead_object [] ns e up = absurd (cc)
lead_object (null ∷ vs) ns e up = lead_object vs ns e up
lead_object (boolean b ∷ vs) ns e up = absurd (cc)
lead_object (int z ∷ vs) ns e up = absurd (cc)
lead_object (text s ∷ vs) ns e up = absurd (cc)
lead_object (list ds ∷ vs) ns e up = absurd (cc)
lead_object (object ms ∷ vs) ns e up =
    let same : ms ≡ ns = cc in
    ap (λ os. summed (object os) vs) (sym (merged_with_none ms (rw same up)))

-- the first that is not null
pub lead_next : (vs : List Value) (i : ℕ) (v : Value) → i < length vs → v ≡ get_or vs i v → lead (drop i vs) ≡ lead (v ∷ drop (i + 1) vs)
lead_next vs i v h e = ap lead (rest_at vs i v h e)

pub lead_done : (vs : List Value) (i : ℕ) → length vs ≤ i → lead (drop i vs) ≡ null
lead_done vs i h = ap lead (drop_all i vs h)
