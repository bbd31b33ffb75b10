-- What an answer leaves as it is: a node in which its activity is not open, and the strands of each node, with what they wait for.
use Rattle.std.proofs.Common.{◌≡◌, ◌∙◌, refl, ap, sym, ℕ, zero, ◌+◌, ◌-◌, List, [], ◌∷◌, ◌++◌, map, length, cond, if◌then◌else◌, Bool, true, false, ◌&&◌, ◌||◌, Option, Some, None, option_map}
use Rattle.std.proofs.lemmas.Bool.{or_parts}
use Rattle.std.proofs.lemmas.List.{map-append}
use Rattle.std.specs.List.{list_any, cons_option, filter}
use Rattle.std.specs.Prelude.{filter_map}
use Rattle.swf_text.specs.Same.{same}
use Rattle.swf_calls.specs.Request.{Request}
use Rattle.swf_calls.specs.declared.reply.CallReply.{CallReply}
use Rattle.swf_meaning.specs.Node.{Node, Fresh, Live, Done, Fault, Inside, At, Later, Sleep, Hear, Await, Forked, Nodes, no_nodes, branch, Running}
use Rattle.swf_meaning.specs.Pending.{is_listening, listening, waiting}
use Rattle.swf_meaning.specs.Reply.{is_open_top, is_open, or_answer, with_reply, with_reply_inside, with_reply_among}
use Rattle.swf_meaning.specs.Strands.{in_branch, tops, tops_inside, tops_from, strands, branches_in}
use Rattle.swf_meaning.specs.Top.{Top, Awaits, Splits}
use Rattle.swf_meaning.specs.Wake.{until_top, waits}
use Rattle.swf_meaning.proofs.TopsLemmas.{any-branch}

-- what holds with the answer in the first branch, and with it in one behind it, holds of branches after an answer
pub either_branch : (P : Nodes → Type 0) (a : List ℕ) (p : CallReply) (n : Node) (ns : Nodes) → P (branch (with_reply a p n) ns) → P (branch n (with_reply_among a p ns)) → P (with_reply_among a p (branch n ns))
either_branch P a p n ns first later = by (is_open a n)
  where
    by : (b : Bool) → P (if b then branch (with_reply a p n) ns else branch n (with_reply_among a p ns))
    by true = first
    by false = later

-- ---- a node in which the activity is not open

-- a call of another activity, or one that has its answer
same_answer : (a : List ℕ) (p : CallReply) (r : Running) (b : List ℕ) (q : Request) (o : Option CallReply) → (is_open_top a (Awaits r b q o) || false) ≡ false → or_answer a p b o ≡ o
same_answer a p r b q None h = by (same a b) h
  where
    by : (c : Bool) → ((c && true) || false) ≡ false → (if c then Some p else None) ≡ None
    by true e = cc
    by false e = refl
same_answer a p r b q (Some x) h = refl

mutual
  pub same_closed : (a : List ℕ) (p : CallReply) (n : Node) → is_open a n ≡ false → with_reply a p n ≡ n
  same_closed a p (Fresh t v) h = refl
  same_closed a p (Live r k) h = ap (Live r) (same_closed_inside a p r k h)
  same_closed a p (Done w f) h = refl
  same_closed a p (Fault q) h = refl

  same_closed_inside : (a : List ℕ) (p : CallReply) (r : Running) (k : Inside) → is_open a (Live r k) ≡ false → with_reply_inside a p k ≡ k
  same_closed_inside a p r (At round i (Fresh t v)) h = refl
  same_closed_inside a p r (At round i (Live q k)) h = ap (λ x. At round i (Live q x)) (same_closed_inside a p q k h)
  same_closed_inside a p r (At round i (Done w f)) h = refl
  same_closed_inside a p r (At round i (Fault q)) h = refl
  same_closed_inside a p r (Later n until) h = refl
  same_closed_inside a p r (Sleep until) h = refl
  same_closed_inside a p r (Hear bound hs) h = refl
  same_closed_inside a p r (Await b q o) h = ap (Await b q) (same_answer a p r b q o h)
  same_closed_inside a p r (Forked ns) h = ap Forked (same_closed_among a p ns h)

  same_closed_among : (a : List ℕ) (p : CallReply) (ns : Nodes) → list_any (λ s. is_open_top a s.1) (tops_from zero ns) ≡ false → with_reply_among a p ns ≡ ns
  same_closed_among a p no_nodes h = refl
  same_closed_among a p (branch n ns) h =
      let e = or_parts (is_open a n) (list_any (λ s. is_open_top a s.1) (tops_from zero ns)) (sym (any-branch (is_open_top a) n ns) ∙ h) in
      ap (λ b. if b then branch (with_reply a p n) ns else branch n (with_reply_among a p ns)) e.0 ∙ ap (branch n) (same_closed_among a p ns e.1)

-- ---- the strands of a node

-- what is seen of a top does not depend on the branches of a `fork`, nor on the answer of a call
abbrev pub Overlooks : {X : Type 0} → (Top → X) → Type 0
Overlooks f = ((r : Running) (ns ms : Nodes) → f (Splits r ns) ≡ f (Splits r ms)) × ((r : Running) (b : List ℕ) (q : Request) (o c : Option CallReply) → f (Awaits r b q o) ≡ f (Awaits r b q c))

-- strands, each with what is seen of its top
abbrev pub views : {X : Type 0} → (Top → X) → List (List ℕ × Top) → List (List ℕ × X)
views f ss = map (λ s. (s.0, f s.1)) ss

-- as seen from the `fork` whose branch of that number they are in
abbrev numbered : {X : Type 0} → ℕ → List (List ℕ × X) → List (List ℕ × X)
numbered b ss = map (λ s. (b ∷ s.0, s.1)) ss

views-numbered : {X : Type 0} (f : Top → X) (b : ℕ) (ss : List (List ℕ × Top)) → views f (map (in_branch b) ss) ≡ numbered b (views f ss)
views-numbered f b [] = refl
views-numbered f b (s ∷ ss) = ap (λ xs. (b ∷ s.0, f s.1) ∷ xs) (views-numbered f b ss)

-- of the first branch, and of those behind it
views-first : {X : Type 0} (f : Top → X) (b : ℕ) (n : Node) (ns : Nodes) → views f (tops_from b (branch n ns)) ≡ numbered b (views f (tops n)) ++ views f (tops_from (b + 1) ns)
views-first f b n ns = map-append (λ (s : List ℕ × Top). (s.0, f s.1)) (map (in_branch b) (tops n)) (tops_from (b + 1) ns) ∙ ap (λ xs. xs ++ views f (tops_from (b + 1) ns)) (views-numbered f b (tops n))

mutual
  pub views_replied : {X : Type 0} (f : Top → X) → Overlooks f → (a : List ℕ) (p : CallReply) (n : Node) → views f (tops (with_reply a p n)) ≡ views f (tops n)
  views_replied f over a p (Fresh t v) = refl
  views_replied f over a p (Live r k) = views_inside f over a p r k
  views_replied f over a p (Done w g) = refl
  views_replied f over a p (Fault q) = refl

  views_inside : {X : Type 0} (f : Top → X) → Overlooks f → (a : List ℕ) (p : CallReply) (r : Running) (k : Inside) → views f (tops_inside r (with_reply_inside a p k)) ≡ views f (tops_inside r k)
  views_inside f over a p r (At round i (Fresh t v)) = refl
  views_inside f over a p r (At round i (Live q k)) = views_inside f over a p q k
  views_inside f over a p r (At round i (Done w g)) = refl
  views_inside f over a p r (At round i (Fault q)) = refl
  views_inside f over a p r (Later n until) = refl
  views_inside f over a p r (Sleep until) = refl
  views_inside f over a p r (Hear bound hs) = refl
  views_inside f over a p r (Await b q o) = ap (λ x. ([], x) ∷ []) (over.1 r b q (or_answer a p b o) o)
  views_inside f over a p r (Forked ns) = λ i. ([], over.0 r (with_reply_among a p ns) ns i) ∷ views_among f over a p zero ns i

  views_among : {X : Type 0} (f : Top → X) → Overlooks f → (a : List ℕ) (p : CallReply) (b : ℕ) (ns : Nodes) → views f (tops_from b (with_reply_among a p ns)) ≡ views f (tops_from b ns)
  views_among f over a p b no_nodes = refl
  views_among f over a p b (branch n ns) = either_branch (λ ms. views f (tops_from b ms) ≡ views f (tops_from b (branch n ns))) a p n ns
      (views-first f b (with_reply a p n) ns ∙ ap (λ xs. numbered b xs ++ views f (tops_from (b + 1) ns)) (views_replied f over a p n) ∙ sym (views-first f b n ns))
      (views-first f b n (with_reply_among a p ns) ∙ ap (λ xs. numbered b (views f (tops n)) ++ xs) (views_among f over a p (b + 1) ns) ∙ sym (views-first f b n ns))

-- ---- their names

names_seen : (ss : List (List ℕ × Top)) → map (λ s. s.0) (views {X = Unit {0}} (λ t. tt) ss) ≡ map (λ s. s.0) ss
names_seen [] = refl
names_seen (s ∷ ss) = ap (λ xs. s.0 ∷ xs) (names_seen ss)

pub strands_replied : (a : List ℕ) (p : CallReply) (n : Node) → strands (with_reply a p n) ≡ strands n
strands_replied a p n =
    sym (names_seen (tops (with_reply a p n))) ∙ ap (λ (xs : List (List ℕ × Unit {0})). map (λ s. s.0) xs) (views_replied {X = Unit {0}} (λ t. tt) ((λ r ns ms. refl), (λ r b q o c. refl)) a p n) ∙ names_seen (tops n)

pub branches_replied : (a : List ℕ) (p : CallReply) (n : Node) → branches_in (with_reply a p n) ≡ branches_in n
branches_replied a p n = ap (λ ss. length ss - 1) (strands_replied a p n)

-- ---- what they wait for

listeners_seen : (ss : List (List ℕ × Top)) → map (λ s. s.0) (filter (λ s. s.1) (views is_listening ss)) ≡ map (λ s. s.0) (filter (λ s. is_listening s.1) ss)
listeners_seen [] = refl
listeners_seen (s ∷ ss) = by (is_listening s.1) (listeners_seen ss)
  where
    by : (b : Bool) → map (λ x. x.0) (filter (λ x. x.1) (views is_listening ss)) ≡ map (λ x. x.0) (filter (λ x. is_listening x.1) ss) →
        map {A = List ℕ × Bool} (λ x. x.0) (cond b ((s.0, b) ∷ filter (λ x. x.1) (views is_listening ss)) (filter (λ x. x.1) (views is_listening ss))) ≡ map {A = List ℕ × Top} (λ x. x.0) (cond b (s ∷ filter (λ x. is_listening x.1) ss) (filter (λ x. is_listening x.1) ss))
    by true rest = ap (λ xs. s.0 ∷ xs) rest
    by false rest = rest

pub listening_replied : (a : List ℕ) (p : CallReply) (n : Node) → listening (with_reply a p n) ≡ listening n
listening_replied a p n =
    sym (listeners_seen (tops (with_reply a p n))) ∙ ap (λ (xs : List (List ℕ × Bool)). map (λ s. s.0) (filter (λ s. s.1) xs)) (views_replied is_listening ((λ r ns ms. refl), (λ r b q o c. refl)) a p n) ∙ listeners_seen (tops n)

-- what is taken of a strand by its name and what is seen of its top
given_seen : {X Y : Type 0} (f : Top → X) (g : List ℕ × X → Option Y) (ss : List (List ℕ × Top)) → filter_map g (views f ss) ≡ filter_map (λ s. g (s.0, f s.1)) ss
given_seen f g [] = refl
given_seen f g (s ∷ ss) = ap (cons_option (g (s.0, f s.1))) (given_seen f g ss)

given_replied : {X Y : Type 0} (f : Top → X) (g : List ℕ × X → Option Y) → Overlooks f → (a : List ℕ) (p : CallReply) (n : Node) → filter_map (λ s. g (s.0, f s.1)) (tops (with_reply a p n)) ≡ filter_map (λ s. g (s.0, f s.1)) (tops n)
given_replied f g over a p n = sym (given_seen f g (tops (with_reply a p n))) ∙ ap (filter_map g) (views_replied f over a p n) ∙ given_seen f g (tops n)

pub waiting_replied : (a : List ℕ) (p : CallReply) (n : Node) → waiting (with_reply a p n) ≡ waiting n
waiting_replied a p n = given_replied {X = Option ℕ} {Y = List ℕ × ℕ} until_top (λ s. option_map (λ m. (s.0, m)) s.1) ((λ r ns ms. refl), (λ r b q o c. refl)) a p n

pub waits_replied : (a : List ℕ) (p : CallReply) (n : Node) → waits (with_reply a p n) ≡ waits n
waits_replied a p n = given_replied {X = Option ℕ} until_top (λ s. s.1) ((λ r ns ms. refl), (λ r b q o c. refl)) a p n
