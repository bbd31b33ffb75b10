-- Laws of the walk over the strands of a node: which top each name finds, and how the strands of branches follow from each branch's.
use Rattle.std.proofs.Common.{◌≡◌, ◌∙◌, refl, sym, ap, subst, ℕ, zero, suc, ◌+◌, ◌-◌, ◌<◌, ◌⊎◌, inl, inr, ⊎_elim, List, [], ◌∷◌, ◌++◌, map, length, length-append, Bool, ◌||◌, Option, Some, None, arith}
use Rattle.std.proofs.lemmas.List.{length-map, map-append}
use Rattle.std.proofs.lemmas.List.Elements.{Contains-append_left, Contains-append_right, Contains-append_cases, filter_map-append}
use Rattle.std.proofs.lemmas.List.Folds.{list_any-append}
use Rattle.std.proofs.lemmas.Option.{same_Some}
use Rattle.std.specs.List.{list_any, cons_option}
use Rattle.std.specs.Prelude.{Contains, filter_map}
use Rattle.swf_meaning.specs.Local.{is_enabled}
use Rattle.swf_meaning.specs.Node.{Node, Fresh, Live, Done, Fault, Inside, At, Later, Sleep, Hear, Await, Forked, Nodes, no_nodes, branch, Round, Running}
use Rattle.swf_meaning.specs.Strands.{in_branch, tops, tops_inside, tops_from, strands, branches_in, can_top}
use Rattle.swf_meaning.specs.Top.{Top, Begins, Moves, Fails, Retries, Sleeps, Hears, Awaits, Splits, Ends, Breaks, here, top_at, top_inside, top_branch}
use Rattle.swf_meaning.specs.Wake.{waits, until_top}

-- ---- a strand is listed with the top that its name finds

nothing : {T : Type 0} (x : T) → None ≡ Some x → ⊥
nothing x e = cc

-- the first element, or one behind it
first_or_later : {X : Type 0} (x : X) (xs : List X) (y : X) → Contains (x ∷ xs) y → (x ≡ y) ⊎ Contains xs y
first_or_later x xs y (zero, within, is) = inl is
first_or_later x xs y (suc k, within, is) = inr (k, omega (arith, within), is)

later : {X : Type 0} (x : X) (xs : List X) (y : X) → Contains xs y → Contains (x ∷ xs) y
later x xs y h = (suc h.0, omega (arith, h.1), h.2)

-- an element of the list to which f was applied
abbrev IsMapped : {X Y : Type 0} → (X → Y) → List X → Y → Type 0
IsMapped {X} f xs y = (x : X) × Contains xs x × (f x ≡ y)

from_map : {X Y : Type 0} (f : X → Y) (xs : List X) (y : Y) → Contains (map f xs) y → IsMapped f xs y
from_map f [] y h = absurd (omega (arith, h.1))
from_map f (x ∷ xs) y h = ⊎_elim (λ is. (x, (zero, omega arith, refl), is)) (λ more. let p = from_map f xs y more in (p.0, later x xs p.0 p.1, p.2)) (first_or_later (f x) (map f xs) y h)

in_map : {X Y : Type 0} (f : X → Y) (xs : List X) (x : X) → Contains xs x → Contains (map f xs) (f x)
in_map f [] x h = absurd (omega (arith, h.1))
in_map f (z ∷ xs) x h = ⊎_elim (λ is. (zero, omega arith, ap f is)) (λ more. later (f z) (map f xs) (f x) (in_map f xs x more)) (first_or_later z xs x h)

-- the one strand of a node without branches
found_here : (u : Top) (bs : List ℕ) (t : Top) → Contains {X = List ℕ × Top} (([], u) ∷ []) (bs, t) → here bs u ≡ Some t
found_here u bs t h = ⊎_elim (λ is. ap (λ (s : List ℕ × Top). here s.0 u) (sym is) ∙ ap (λ (s : List ℕ × Top). Some s.1) is) (λ none. absurd (omega (arith, none.1))) (first_or_later ([], u) [] (bs, t) h)

listed_here : (u : Top) (bs : List ℕ) (t : Top) → here bs u ≡ Some t → Contains {X = List ℕ × Top} (([], u) ∷ []) (bs, t)
listed_here u [] t e = (zero, omega arith, ap (λ (x : Top). ([], x)) (same_Some u t e))
listed_here u (b ∷ bs) t e = absurd (nothing t e)

-- a strand of branches that are numbered from b on
abbrev FoundFrom : ℕ → Nodes → List ℕ → Top → Type 0
FoundFrom b ns bs t = (c : ℕ) × (cs : List ℕ) × (bs ≡ (b + c) ∷ cs) × (top_branch c cs ns ≡ Some t)

found_split : (r : Running) (ns : Nodes) (bs : List ℕ) (t : Top) → FoundFrom zero ns bs t → top_inside bs r (Forked ns) ≡ Some t
found_split r ns bs t h =
    let same : zero + h.0 ≡ h.0 = omega arith in
    ap (λ xs. top_inside xs r (Forked ns)) (h.2 ∙ ap (λ c. c ∷ h.1) same) ∙ h.3

found_branch : (b : ℕ) (n : Node) (ns : Nodes) (bs cs : List ℕ) (t u : Top) → in_branch b (cs, u) ≡ (bs, t) → top_at cs n ≡ Some u → FoundFrom b (branch n ns) bs t
found_branch b n ns bs cs t u is e =
    let same : b ≡ b + zero = omega arith in
    (zero, cs, sym (ap (λ (s : List ℕ × Top). s.0) is) ∙ ap (λ c. c ∷ cs) same, e ∙ ap (λ (s : List ℕ × Top). Some s.1) is)

found_later : (b : ℕ) (n : Node) (ns : Nodes) (bs : List ℕ) (t : Top) → FoundFrom (b + 1) ns bs t → FoundFrom b (branch n ns) bs t
found_later b n ns bs t h =
    let same : b + 1 + h.0 ≡ b + suc h.0 = omega arith in
    (suc h.0, h.1, h.2 ∙ ap (λ c. c ∷ h.1) same, h.3)

first_found : (b : ℕ) (n : Node) (ns : Nodes) (bs : List ℕ) (t : Top) → ((cs : List ℕ) (u : Top) → Contains (tops n) (cs, u) → top_at cs n ≡ Some u) → Contains (map (in_branch b) (tops n)) (bs, t) → FoundFrom b (branch n ns) bs t
first_found b n ns bs t each h = let p = from_map (in_branch b) (tops n) (bs, t) h in found_branch b n ns bs p.0.0 t p.0.1 p.2 (each p.0.0 p.0.1 p.1)

-- what is listed is found by its name
mutual
  pub tops_found : (n : Node) (bs : List ℕ) (t : Top) → Contains (tops n) (bs, t) → top_at bs n ≡ Some t
  tops_found (Fresh r v) bs t h = found_here (Begins r v) bs t h
  tops_found (Live r k) bs t h = found_inside r k bs t h
  tops_found (Done w f) bs t h = found_here (Ends w f) bs t h
  tops_found (Fault p) bs t h = found_here (Breaks p) bs t h

  found_inside : (r : Running) (k : Inside) (bs : List ℕ) (t : Top) → Contains (tops_inside r k) (bs, t) → top_inside bs r k ≡ Some t
  found_inside r (At round i (Fresh q v)) bs t h = found_here (Begins q v) bs t h
  found_inside r (At round i (Live q k)) bs t h = found_inside q k bs t h
  found_inside r (At round i (Done w f)) bs t h = found_here (Moves r round i w f) bs t h
  found_inside r (At round i (Fault p)) bs t h = found_here (Fails r round i p) bs t h
  found_inside r (Later n until) bs t h = found_here (Retries r n until) bs t h
  found_inside r (Sleep until) bs t h = found_here (Sleeps r until) bs t h
  found_inside r (Hear bound hs) bs t h = found_here (Hears r bound hs) bs t h
  found_inside r (Await a q o) bs t h = found_here (Awaits r a q o) bs t h
  found_inside r (Forked ns) bs t h = ⊎_elim
      (λ is. ap (λ (s : List ℕ × Top). top_inside s.0 r (Forked ns)) (sym is) ∙ ap (λ (s : List ℕ × Top). Some s.1) is)
      (λ more. found_split r ns bs t (found_from zero ns bs t more))
      (first_or_later ([], Splits r ns) (tops_from zero ns) (bs, t) h)

  found_from : (b : ℕ) (ns : Nodes) (bs : List ℕ) (t : Top) → Contains (tops_from b ns) (bs, t) → FoundFrom b ns bs t
  found_from b no_nodes bs t h = absurd (omega (arith, h.1))
  found_from b (branch n ns) bs t h = ⊎_elim (first_found b n ns bs t (tops_found n)) (λ more. found_later b n ns bs t (found_from (b + 1) ns bs t more)) (Contains-append_cases (map (in_branch b) (tops n)) (tops_from (b + 1) ns) (bs, t) h)

-- what a name finds is listed
mutual
  pub tops_listed : (n : Node) (bs : List ℕ) (t : Top) → top_at bs n ≡ Some t → Contains (tops n) (bs, t)
  tops_listed (Fresh r v) bs t e = listed_here (Begins r v) bs t e
  tops_listed (Live r k) bs t e = listed_inside r k bs t e
  tops_listed (Done w f) bs t e = listed_here (Ends w f) bs t e
  tops_listed (Fault p) bs t e = listed_here (Breaks p) bs t e

  listed_inside : (r : Running) (k : Inside) (bs : List ℕ) (t : Top) → top_inside bs r k ≡ Some t → Contains (tops_inside r k) (bs, t)
  listed_inside r (At round i (Fresh q v)) bs t e = listed_here (Begins q v) bs t e
  listed_inside r (At round i (Live q k)) bs t e = listed_inside q k bs t e
  listed_inside r (At round i (Done w f)) bs t e = listed_here (Moves r round i w f) bs t e
  listed_inside r (At round i (Fault p)) bs t e = listed_here (Fails r round i p) bs t e
  listed_inside r (Later n until) bs t e = listed_here (Retries r n until) bs t e
  listed_inside r (Sleep until) bs t e = listed_here (Sleeps r until) bs t e
  listed_inside r (Hear bound hs) bs t e = listed_here (Hears r bound hs) bs t e
  listed_inside r (Await a q o) bs t e = listed_here (Awaits r a q o) bs t e
  listed_inside r (Forked ns) [] t e = (zero, omega arith, ap (λ (x : Top). ([], x)) (same_Some (Splits r ns) t e))
  listed_inside r (Forked ns) (b ∷ bs) t e =
      let same : zero + b ≡ b = omega arith in
      later ([], Splits r ns) (tops_from zero ns) (b ∷ bs, t) (subst (λ c. Contains (tops_from zero ns) (c ∷ bs, t)) same (listed_from zero b bs ns t e))

  listed_from : (b c : ℕ) (bs : List ℕ) (ns : Nodes) (t : Top) → top_branch c bs ns ≡ Some t → Contains (tops_from b ns) ((b + c) ∷ bs, t)
  listed_from b c bs no_nodes t e = absurd (nothing t e)
  listed_from b zero bs (branch n ns) t e =
      let same : b ≡ b + zero = omega arith in
      subst (λ c. Contains (tops_from b (branch n ns)) (c ∷ bs, t)) same
      (Contains-append_left (map (in_branch b) (tops n)) (tops_from (b + 1) ns) (b ∷ bs, t) (in_map (in_branch b) (tops n) (bs, t) (tops_listed n bs t e)))
  listed_from b (suc c) bs (branch n ns) t e =
      let same : b + 1 + c ≡ b + suc c = omega arith in
      Contains-append_right (map (in_branch b) (tops n)) (tops_from (b + 1) ns) ((b + suc c) ∷ bs, t) (subst (λ m. Contains (tops_from (b + 1) ns) (m ∷ bs, t)) same (listed_from (b + 1) c bs ns t e))

-- ---- numbers change no top

any-numbered : (f : Top → Bool) (b : ℕ) (ss : List (List ℕ × Top)) → list_any (λ s. f s.1) (map (in_branch b) ss) ≡ list_any (λ s. f s.1) ss
any-numbered f b [] = refl
any-numbered f b (s ∷ ss) = ap (λ x. f s.1 || x) (any-numbered f b ss)

-- the first branch, or one behind it
any-first : (f : Top → Bool) (b : ℕ) (n : Node) (ns : Nodes) → list_any (λ s. f s.1) (tops_from b (branch n ns)) ≡ (list_any (λ s. f s.1) (tops n) || list_any (λ s. f s.1) (tops_from (b + 1) ns))
any-first f b n ns = list_any-append (λ s. f s.1) (map (in_branch b) (tops n)) (tops_from (b + 1) ns) ∙ ap (λ x. x || list_any (λ s. f s.1) (tops_from (b + 1) ns)) (any-numbered f b (tops n))

any-from : (f : Top → Bool) (b c : ℕ) (ns : Nodes) → list_any (λ s. f s.1) (tops_from b ns) ≡ list_any (λ s. f s.1) (tops_from c ns)
any-from f b c no_nodes = refl
any-from f b c (branch n ns) = any-first f b n ns ∙ ap (λ x. list_any (λ s. f s.1) (tops n) || x) (any-from f (b + 1) (c + 1) ns) ∙ sym (any-first f c n ns)

given-numbered : {A : Type 0} (f : Top → Option A) (b : ℕ) (ss : List (List ℕ × Top)) → filter_map (λ s. f s.1) (map (in_branch b) ss) ≡ filter_map (λ s. f s.1) ss
given-numbered f b [] = refl
given-numbered f b (s ∷ ss) = ap (cons_option (f s.1)) (given-numbered f b ss)

given-first : {A : Type 0} (f : Top → Option A) (b : ℕ) (n : Node) (ns : Nodes) → filter_map (λ s. f s.1) (tops_from b (branch n ns)) ≡ filter_map (λ s. f s.1) (tops n) ++ filter_map (λ s. f s.1) (tops_from (b + 1) ns)
given-first f b n ns = filter_map-append (λ s. f s.1) (map (in_branch b) (tops n)) (tops_from (b + 1) ns) ∙ ap (λ xs. xs ++ filter_map (λ s. f s.1) (tops_from (b + 1) ns)) (given-numbered f b (tops n))

given-from : {A : Type 0} (f : Top → Option A) (b c : ℕ) (ns : Nodes) → filter_map (λ s. f s.1) (tops_from b ns) ≡ filter_map (λ s. f s.1) (tops_from c ns)
given-from f b c no_nodes = refl
given-from f b c (branch n ns) = given-first f b n ns ∙ ap (λ xs. filter_map (λ s. f s.1) (tops n) ++ xs) (given-from f (b + 1) (c + 1) ns) ∙ sym (given-first f c n ns)

-- ---- of branches beside each other

-- a test, and what is taken of each top: of the first branch, and of those behind it
pub any-branch : (f : Top → Bool) (n : Node) (ns : Nodes) → list_any (λ s. f s.1) (tops_from zero (branch n ns)) ≡ (list_any (λ s. f s.1) (tops n) || list_any (λ s. f s.1) (tops_from zero ns))
any-branch f n ns = any-first f zero n ns ∙ ap (λ x. list_any (λ s. f s.1) (tops n) || x) (any-from f (zero + 1) zero ns)

pub given-branch : {A : Type 0} (f : Top → Option A) (n : Node) (ns : Nodes) → filter_map (λ s. f s.1) (tops_from zero (branch n ns)) ≡ filter_map (λ s. f s.1) (tops n) ++ filter_map (λ s. f s.1) (tops_from zero ns)
given-branch f n ns = given-first f zero n ns ∙ ap (λ xs. filter_map (λ s. f s.1) (tops n) ++ xs) (given-from f (zero + 1) zero ns)

-- one of them can take a step
abbrev pub enabled_among : ℕ → Nodes → Bool
enabled_among now ns = list_any (λ s. can_top now s.1) (tops_from zero ns)

pub enabled_among-branch : (now : ℕ) (n : Node) (ns : Nodes) → enabled_among now (branch n ns) ≡ (is_enabled now n || enabled_among now ns)
enabled_among-branch now n ns = any-branch (can_top now) n ns

-- until when they wait
abbrev pub waits_among : Nodes → List ℕ
waits_among ns = filter_map (λ s. until_top s.1) (tops_from zero ns)

pub waits_among-branch : (n : Node) (ns : Nodes) → waits_among (branch n ns) ≡ waits n ++ waits_among ns
waits_among-branch n ns = given-branch until_top n ns

-- their strands, where they are numbered from b on
abbrev pub strands_from : ℕ → Nodes → List (List ℕ)
strands_from b ns = map (λ s. s.0) (tops_from b ns)

names-numbered : (b : ℕ) (ss : List (List ℕ × Top)) → map (λ s. s.0) (map (in_branch b) ss) ≡ map (λ bs. b ∷ bs) (map (λ s. s.0) ss)
names-numbered b [] = refl
names-numbered b (s ∷ ss) = ap (λ xs. (b ∷ s.0) ∷ xs) (names-numbered b ss)

pub strands_from-branch : (b : ℕ) (n : Node) (ns : Nodes) → strands_from b (branch n ns) ≡ map (λ bs. b ∷ bs) (strands n) ++ strands_from (b + 1) ns
strands_from-branch b n ns = map-append (λ (s : List ℕ × Top). s.0) (map (in_branch b) (tops n)) (tops_from (b + 1) ns) ∙ ap (λ xs. xs ++ strands_from (b + 1) ns) (names-numbered b (tops n))

-- how many strands these are
abbrev pub strands_among : Nodes → ℕ
strands_among ns = length (strands_from zero ns)

many-first : (b : ℕ) (n : Node) (ns : Nodes) → length (strands_from b (branch n ns)) ≡ length (strands n) + length (strands_from (b + 1) ns)
many-first b n ns =
    ap length (strands_from-branch b n ns) ∙ length-append (map (λ bs. b ∷ bs) (strands n)) (strands_from (b + 1) ns)
    ∙ ap (λ k. k + length (strands_from (b + 1) ns)) (length-map (strands n) (λ bs. b ∷ bs))

many-from : (b c : ℕ) (ns : Nodes) → length (strands_from b ns) ≡ length (strands_from c ns)
many-from b c no_nodes = refl
many-from b c (branch n ns) = many-first b n ns ∙ ap (λ k. length (strands n) + k) (many-from (b + 1) (c + 1) ns) ∙ sym (many-first c n ns)

-- the first of all strands is always there
mutual
  has_first : (n : Node) → 0 < length (strands n)
  has_first (Fresh t v) = omega arith
  has_first (Live r k) = has_first_inside r k
  has_first (Done w f) = omega arith
  has_first (Fault p) = omega arith

  has_first_inside : (r : Running) (k : Inside) → 0 < length (strands (Live r k))
  has_first_inside r (At round i (Fresh t v)) = omega arith
  has_first_inside r (At round i (Live q k)) = has_first_inside q k
  has_first_inside r (At round i (Done w f)) = omega arith
  has_first_inside r (At round i (Fault p)) = omega arith
  has_first_inside r (Later n until) = omega arith
  has_first_inside r (Sleep until) = omega arith
  has_first_inside r (Hear bound hs) = omega arith
  has_first_inside r (Await a q o) = omega arith
  has_first_inside r (Forked ns) = omega arith

pub strands_among-branch : (n : Node) (ns : Nodes) → strands_among (branch n ns) ≡ branches_in n + 1 + strands_among ns
strands_among-branch n ns =
    let all = many-first zero n ns in
    let rest = many-from (zero + 1) zero ns in
    let some = has_first n in
    omega (arith, all, rest, some)

pub branches_in-fork : (r : Running) (ns : Nodes) → branches_in (Live r (Forked ns)) ≡ strands_among ns
branches_in-fork r ns = omega arith

-- ---- of a task with one node inside

pub strands-at : (r : Running) (round : Round) (i : ℕ) (n : Node) → strands (Live r (At round i n)) ≡ strands n
strands-at r round i (Fresh t v) = refl
strands-at r round i (Live q k) = refl
strands-at r round i (Done w f) = refl
strands-at r round i (Fault p) = refl

pub branches_in-at : (r : Running) (round : Round) (i : ℕ) (n : Node) → branches_in (Live r (At round i n)) ≡ branches_in n
branches_in-at r round i n = ap (λ ss. length ss - 1) (strands-at r round i n)

pub waits-at : (r : Running) (round : Round) (i : ℕ) (n : Node) → waits (Live r (At round i n)) ≡ waits n
waits-at r round i (Fresh t v) = refl
waits-at r round i (Live q k) = refl
waits-at r round i (Done w f) = refl
waits-at r round i (Fault p) = refl
