-- One field more among headers.
use Rattle.std.proofs.Common.{◌≡◌, ◌∙◌, ap, sym, subst, refl, ℕ, zero, suc, ◌+◌, ◌<◌, ◌≤◌, List, [], ◌∷◌, length, get_or, slice_set, Result, Ok, Err, arith}
use Rattle.std.specs.List.{insert}
use Rattle.std.specs.Ordering.{nat_cmp}
use Rattle.std.specs.declared.cmp.Ordering.{Ordering}
use Rattle.std.specs.declared.cmp.Ordering.TheVariants.{Less, Equal, Greater}
use Rattle.std.specs.Cmp.Lexicographic.{slice_cmp}
use Rattle.swf_value.specs.Value.{text, member, Ascending}
use Rattle.swf_value.specs.Members.{put}
use Rattle.swf_value.proofs.Places.{ascending_put}
use Rattle.swf_calls.specs.declared.headers.Header.{Header}
use Rattle.swf_calls.specs.Headers.{header_members, placed, set_field, joined, later_field, with_field, put_field, stepped, place_in}

-- ---- where a name stands

-- so many places further
abbrev pub later : ℕ → Result ℕ ℕ → Result ℕ ℕ
later n (Ok p) = Ok (n + p)
later n (Err p) = Err (n + p)

-- ---- what is put there

found_by : (both : Header → Header → Header) (o : Ordering) (field h : Header) (hs : List Header) (p : ℕ) (d : Header) → slice_cmp nat_cmp field.name h.name ≡ o
    → stepped o (place_in field.name hs) ≡ Ok p
    → ((q : ℕ) → place_in field.name hs ≡ Ok q → (q < length hs) × (set_field both field hs ≡ slice_set hs q (both (get_or hs q d) field)))
    → (p < suc (length hs)) × (placed both o field h hs (set_field both field hs) ≡ slice_set (h ∷ hs) p (both (get_or (h ∷ hs) p d) field))
found_by both Less field h hs p d is at rest = cc
found_by both Equal field h hs zero d is at rest = (omega arith, refl)
found_by both Equal field h hs (suc p) d is at rest = cc
found_by both Greater field h hs p d is at rest = greater (place_in field.name hs) p refl at
  where
    greater : (r : Result ℕ ℕ) (p : ℕ) → place_in field.name hs ≡ r → stepped Greater r ≡ Ok p
        → (p < suc (length hs)) × ((h ∷ set_field both field hs) ≡ slice_set (h ∷ hs) p (both (get_or (h ∷ hs) p d) field))
    greater (Ok q) zero e at = cc
    greater (Ok q) (suc p) e at =
        let same : q ≡ p = cc in
        let more = rest p (e ∙ ap Ok same) in
        (omega (arith, more.0), ap (λ (t : List Header). h ∷ t) more.1)
    greater (Err q) p e at = cc

pub found_field : (both : Header → Header → Header) (field : Header) (hs : List Header) (p : ℕ) (d : Header) → place_in field.name hs ≡ Ok p
    → (p < length hs) × (set_field both field hs ≡ slice_set hs p (both (get_or hs p d) field))
found_field both field [] p d at = cc
found_field both field (h ∷ hs) p d at =
    found_by both (slice_cmp nat_cmp field.name h.name) field h hs p d refl at (λ q e. found_field both field hs q d e)

missing_by : (both : Header → Header → Header) (o : Ordering) (field h : Header) (hs : List Header) (p : ℕ) → slice_cmp nat_cmp field.name h.name ≡ o
    → stepped o (place_in field.name hs) ≡ Err p
    → ((q : ℕ) → place_in field.name hs ≡ Err q → (q ≤ length hs) × (set_field both field hs ≡ insert hs q field))
    → (p ≤ suc (length hs)) × (placed both o field h hs (set_field both field hs) ≡ insert (h ∷ hs) p field)
missing_by both Less field h hs zero is at rest = (omega arith, refl)
missing_by both Less field h hs (suc p) is at rest = cc
missing_by both Equal field h hs p is at rest = cc
missing_by both Greater field h hs p is at rest = greater (place_in field.name hs) p refl at
  where
    greater : (r : Result ℕ ℕ) (p : ℕ) → place_in field.name hs ≡ r → stepped Greater r ≡ Err p
        → (p ≤ suc (length hs)) × ((h ∷ set_field both field hs) ≡ insert (h ∷ hs) p field)
    greater (Err q) zero e at = cc
    greater (Err q) (suc p) e at =
        let same : q ≡ p = cc in
        let more = rest p (e ∙ ap Err same) in
        (omega (arith, more.0), ap (λ (t : List Header). h ∷ t) more.1)
    greater (Ok q) p e at = cc

pub missing_field : (both : Header → Header → Header) (field : Header) (hs : List Header) (p : ℕ) → place_in field.name hs ≡ Err p
    → (p ≤ length hs) × (set_field both field hs ≡ insert hs p field)
missing_field both field [] zero at = (omega arith, refl)
missing_field both field [] (suc p) at = cc
missing_field both field (h ∷ hs) p at =
    missing_by both (slice_cmp nat_cmp field.name h.name) field h hs p refl at (λ q e. missing_field both field hs q e)

-- ---- the order

-- what stands for two has the name of the field
abbrev KeepsName : (Header → Header → Header) → Type 0
KeepsName both = (h field : Header) → (both h field).name ≡ field.name

put_by : (both : Header → Header → Header) → KeepsName both → (o : Ordering) (field h : Header) (hs : List Header) → slice_cmp nat_cmp field.name h.name ≡ o
    → ((v : List ℕ) × (header_members (set_field both field hs) ≡ put field.name (text v) (header_members hs)))
    → (v : List ℕ) × (header_members (placed both o field h hs (set_field both field hs)) ≡ put field.name (text v) (header_members (h ∷ hs)))
put_by both keeps Less field h hs is rest = (field.value, rw is refl)
put_by both keeps Equal field h hs is rest =
    ((both h field).value, rw is (ap (λ (k : List ℕ). member k (text (both h field).value) (header_members hs)) (keeps h field)))
put_by both keeps Greater field h hs is rest = (rest.0, rw is (ap (member h.name (text h.value)) rest.1))

put_both : (both : Header → Header → Header) → KeepsName both → (field : Header) (hs : List Header)
    → (v : List ℕ) × (header_members (set_field both field hs) ≡ put field.name (text v) (header_members hs))
put_both both keeps field [] = (field.value, refl)
put_both both keeps field (h ∷ hs) = put_by both keeps (slice_cmp nat_cmp field.name h.name) field h hs refl (put_both both keeps field hs)

set_ascends : (both : Header → Header → Header) → KeepsName both → (field : Header) (hs : List Header) → Ascending (header_members hs)
    → Ascending (header_members (set_field both field hs))
set_ascends both keeps field hs ascends =
    let p = put_both both keeps field hs in
    subst Ascending (sym p.1) (ascending_put field.name (text p.0) (header_members hs) ascends)

pub still_ascends : (field : Header) (hs : List Header) → Ascending (header_members hs) → Ascending (header_members (with_field field hs))
still_ascends field hs ascends = set_ascends joined (λ h f. refl) field hs ascends

pub put_ascends : (field : Header) (hs : List Header) → Ascending (header_members hs) → Ascending (header_members (put_field field hs))
put_ascends field hs ascends = set_ascends later_field (λ h f. refl) field hs ascends
