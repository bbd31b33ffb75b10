-- The least moment that a strand waits for, where one is put anew.
use Rattle.std.proofs.Common.{◌≡◌, ◌∙◌, refl, sym, ap, ℕ, zero, suc, ◌+◌, ◌<◌, min, Bool, true, false, List, [], ◌∷◌, ◌++◌, Option, Some, None, is_some, arith}
use Rattle.std.proofs.lemmas.Option.{same_Some}
use Rattle.std.specs.List.{fold, reduce}
use Rattle.swf_frames.specs.Tree.{Tree, Branch, find, numbers}
use Rattle.swf_frames.specs.Paths.{nth}
use Rattle.swf_meaning.specs.Node.{Node, Fresh, Live, Done, Fault, Inside, At, Later, Sleep, Hear, Await, Forked, Nodes, no_nodes, branch, Running}
use Rattle.swf_meaning.specs.Wake.{waits}
use Rattle.swf_meaning.proofs.TopsLemmas.{waits_among, waits_among-branch, waits-at}
use Rattle.swf_stack.specs.Stands.{frames_of, inward, top_of}
use Rattle.swf_stack.specs.Stack.{top_node, forked}
use Rattle.swf_stack.specs.declared.made.Stand.{Stand}
use Rattle.swf_stack.specs.declared.made.Top.{Top}
use Rattle.swf_stack.specs.declared.made.Top.TheVariants as tops
use Rattle.swf_strands.specs.Alarm.{alarm_of, earlier, until_in_top}
use Rattle.swf_strands.specs.Forks.{stand_node}
use Rattle.swf_strands.specs.Strands.{nodes_of, node_of, root_node, is_fork, IsGrown, IsGrownAt, IsHeld}
use Rattle.swf_strands.specs.Ways.{at, at_inside, at_among, has_strand, own_until, replaced, replaced_inside, replaced_among}
use Rattle.swf_strands.proofs.AskLemmas.{nodes_from, from-child, from-end, own_until-plug, own_until-waiting, waits-plug}
use Rattle.swf_strands.proofs.TreeLemmas.{nothing, yes-no, fork-node, plain-node, waiting-forked, root-holds, held-is, at-walk, IsAt, IsChild}

-- ---- the least of moments

pub earlier-none : (a : Option ℕ) → earlier a None ≡ a
earlier-none None = refl
earlier-none (Some m) = refl

pub earlier-assoc : (a b c : Option ℕ) → earlier (earlier a b) c ≡ earlier a (earlier b c)
earlier-assoc None b c = refl
earlier-assoc (Some m) None c = refl
earlier-assoc (Some m) (Some n) None = refl
earlier-assoc (Some m) (Some n) (Some k) = let same : min (min m n) k ≡ min m (min n k) = omega arith in ap Some same

earlier-swap : (a b : Option ℕ) → earlier a b ≡ earlier b a
earlier-swap None None = refl
earlier-swap None (Some n) = refl
earlier-swap (Some m) None = refl
earlier-swap (Some m) (Some n) = let same : min m n ≡ min n m = omega arith in ap Some same

fold-first : (a b : ℕ) (ms : List ℕ) → fold min (min a b) ms ≡ min a (fold min b ms)
fold-first a b [] = refl
fold-first a b (m ∷ ms) = let same : min (min a b) m ≡ min a (min b m) = omega arith in ap (λ k. fold min k ms) same ∙ fold-first a (min b m) ms

fold-append : (a : ℕ) (ms ns : List ℕ) → fold min a (ms ++ ns) ≡ fold min (fold min a ms) ns
fold-append a [] ns = refl
fold-append a (m ∷ ms) ns = fold-append (min a m) ms ns

least-append : (ms ns : List ℕ) → reduce min (ms ++ ns) ≡ earlier (reduce min ms) (reduce min ns)
least-append [] ns = refl
least-append (m ∷ ms) [] = ap Some (fold-append m ms [])
least-append (m ∷ ms) (n ∷ ns) = ap Some (fold-append m ms (n ∷ ns) ∙ fold-first (fold min m ms) n ns)

-- ---- a strand and those below it

abbrev alarm_among : Nodes → Option ℕ
alarm_among ns = reduce min (waits_among ns)

alarm_among-branch : (n : Node) (ns : Nodes) → alarm_among (branch n ns) ≡ earlier (alarm_of n) (alarm_among ns)
alarm_among-branch n ns = ap (reduce min) (waits_among-branch n ns) ∙ least-append (waits n) (waits_among ns)

plain-alarm : (t : Top) → is_fork t ≡ false → alarm_of (top_node t) ≡ own_until (top_node t)
plain-alarm (tops.Fresh r v) e = refl
plain-alarm (tops.Done w d) e = refl
plain-alarm (tops.Fault p) e = refl
plain-alarm (tops.Waiting r None m) e = refl
plain-alarm (tops.Waiting r (Some n) m) e = refl
plain-alarm (tops.Hearing r bound hs) e = refl
plain-alarm (tops.Awaiting r a q o) e = refl
plain-alarm (tops.Forked r) e = cc

alarm-node : (b : Branch Stand) → IsGrownAt b → alarm_of (node_of b) ≡ earlier (own_until (node_of b)) (alarm_among (nodes_of b.below))
alarm-node b g = by (is_fork (top_of b.frames)) refl
  where
    ns : Nodes
    ns = nodes_of b.below

    by : (x : Bool) → is_fork (top_of b.frames) ≡ x → alarm_of (node_of b) ≡ earlier (own_until (node_of b)) (alarm_among ns)
    by true e =
        let f = fork-node b.frames ns e in
        ap alarm_of f.1.1 ∙ ap (reduce min) (waits-plug (frames_of b.frames) (Live f.0 (Forked ns)))
        ∙ sym (ap (λ o. earlier o (alarm_among ns)) (ap own_until f.1.1 ∙ own_until-plug (frames_of b.frames) (Live f.0 (Forked ns))))
    by false e =
        let is = plain-node b.frames ns e in
        let top = top_node (top_of b.frames) in
        ap alarm_of is ∙ ap (reduce min) (waits-plug (frames_of b.frames) top) ∙ plain-alarm (top_of b.frames) e
        ∙ sym (own_until-plug (frames_of b.frames) top) ∙ sym (ap own_until is)
        ∙ sym (ap (λ ss. earlier (own_until (node_of b)) (alarm_among (nodes_of ss))) (g.0.1 e) ∙ earlier-none (own_until (node_of b)))

-- the least of those before a branch is known
abbrev pub IsRung : Tree Stand → ℕ → ℕ → Option ℕ → Type 0
IsRung t n i a = (b : Branch Stand) → find t.strands n ≡ Some b → alarm_of (node_of b) ≡ earlier a (alarm_among (nodes_from i (nodes_of b.below)))

pub rung-own : (t : Tree Stand) (n : ℕ) (a : Option ℕ) → IsHeld t n → ((b : Branch Stand) → find t.strands n ≡ Some b → a ≡ own_until (node_of b)) → IsRung t n 0 a
rung-own t n a held is b f = alarm-node b (held-is t n b held f) ∙ ap (λ o. earlier o (alarm_among (nodes_of b.below))) (sym (is b f))

pub rung-more : (t : Tree Stand) (n i c : ℕ) (a x : Option ℕ) → IsChild t n i c → IsRung t n i a → ((h : Branch Stand) → find t.strands c ≡ Some h → x ≡ alarm_of (node_of h)) → IsRung t n (i + 1) (earlier a x)
rung-more t n i c a x child left is b f =
    let h = child b f in
    let same : suc i ≡ i + 1 = omega arith in
    let rest = nodes_from (suc i) (nodes_of b.below) in
    left b f
    ∙ ap (λ ns. earlier a (alarm_among ns)) (from-child b i (record { number = c; held = h.0 }) h.1.0)
    ∙ ap (earlier a) (alarm_among-branch (node_of h.0) rest ∙ ap (λ o. earlier o (alarm_among rest)) (sym (is h.0 h.1.1.0)))
    ∙ sym (earlier-assoc a x (alarm_among rest))
    ∙ ap (λ j. earlier (earlier a x) (alarm_among (nodes_from j (nodes_of b.below)))) same

pub rung-all : (t : Tree Stand) (n i : ℕ) (a : Option ℕ) → ((b : Branch Stand) → find t.strands n ≡ Some b → nth b.below i ≡ None) → IsRung t n i a → (b : Branch Stand) → find t.strands n ≡ Some b → a ≡ alarm_of (node_of b)
rung-all t n i a none left b f = sym (left b f ∙ ap (λ ns. earlier a (alarm_among ns)) (from-end b i (none b f)) ∙ earlier-none a)

-- ---- what a strand itself waits for

own-top : (b : Branch Stand) (t : Top) → t ≡ top_of b.frames → own_until (node_of b) ≡ own_until (forked (top_node t) (nodes_of b.below))
own-top b t s = own_until-plug (frames_of b.frames) (forked (top_node (top_of b.frames)) (nodes_of b.below)) ∙ ap (λ x. own_until (forked (top_node x) (nodes_of b.below))) (sym s)

pub own-is : (b : Branch Stand) (s : Stand) → b.frames ≡ s ∷ [] → until_in_top s.top ≡ own_until (node_of b)
own-is b s e = sym (own-top b s.top (sym (ap top_of e)) ∙ by s.top)
  where
    by : (t : Top) → own_until (forked (top_node t) (nodes_of b.below)) ≡ until_in_top t
    by (tops.Fresh r v) = refl
    by (tops.Done w d) = refl
    by (tops.Fault p) = refl
    by (tops.Waiting r n m) = ap own_until (waiting-forked r n m (nodes_of b.below)) ∙ own_until-waiting r n m
    by (tops.Hearing r bound hs) = refl
    by (tops.Awaiting r a q o) = refl
    by (tops.Forked r) = refl

-- what a strand waits for that is put anew
pub alarm-stand : (s : Stand) → alarm_of (stand_node s) ≡ until_in_top s.top
alarm-stand s = ap (reduce min) (waits-plug (inward s.around) (forked (top_node s.top) no_nodes)) ∙ by s.top
  where
    by : (t : Top) → alarm_of (forked (top_node t) no_nodes) ≡ until_in_top t
    by (tops.Fresh r v) = refl
    by (tops.Done w d) = refl
    by (tops.Fault p) = refl
    by (tops.Waiting r None m) = refl
    by (tops.Waiting r (Some n) m) = refl
    by (tops.Hearing r bound hs) = refl
    by (tops.Awaiting r a q o) = refl
    by (tops.Forked r) = refl

-- ---- one strand is put anew

-- what the strands wait for besides the one that branch numbers lead to, and those below it
abbrev mutual
  beside : List ℕ → Node → List ℕ
  beside [] n = []
  beside (b ∷ bs) (Fresh t v) = []
  beside (b ∷ bs) (Live r k) = beside_inside b bs k
  beside (b ∷ bs) (Done w f) = []
  beside (b ∷ bs) (Fault p) = []

  beside_inside : ℕ → List ℕ → Inside → List ℕ
  beside_inside b bs (At round i n) = beside (b ∷ bs) n
  beside_inside b bs (Later n m) = []
  beside_inside b bs (Sleep m) = []
  beside_inside b bs (Hear bound hs) = []
  beside_inside b bs (Await a q o) = []
  beside_inside b bs (Forked ns) = beside_among b bs ns

  beside_among : ℕ → List ℕ → Nodes → List ℕ
  beside_among b bs no_nodes = []
  beside_among zero bs (branch n ns) = beside bs n ++ waits_among ns
  beside_among (suc b) bs (branch n ns) = waits n ++ beside_among b bs ns

mutual
  alarm-replaced : (bs : List ℕ) (m n x : Node) → at bs n ≡ Some x → alarm_of (replaced bs m n) ≡ earlier (alarm_of m) (reduce min (beside bs n))
  alarm-replaced [] m n x e = sym (earlier-none (alarm_of m))
  alarm-replaced (b ∷ bs) m (Fresh t v) x e = absurd (nothing x e)
  alarm-replaced (b ∷ bs) m (Live r k) x e = alarm-inside b bs m r k x e
  alarm-replaced (b ∷ bs) m (Done w f) x e = absurd (nothing x e)
  alarm-replaced (b ∷ bs) m (Fault p) x e = absurd (nothing x e)

  alarm-inside : (b : ℕ) (bs : List ℕ) (m : Node) (r : Running) (k : Inside) (x : Node) → at_inside b bs k ≡ Some x → alarm_of (Live r (replaced_inside b bs m k)) ≡ earlier (alarm_of m) (reduce min (beside_inside b bs k))
  alarm-inside b bs m r (At round i n) x e = ap (reduce min) (waits-at r round i (replaced (b ∷ bs) m n)) ∙ alarm-replaced (b ∷ bs) m n x e
  alarm-inside b bs m r (Later n l) x e = absurd (nothing x e)
  alarm-inside b bs m r (Sleep l) x e = absurd (nothing x e)
  alarm-inside b bs m r (Hear bound hs) x e = absurd (nothing x e)
  alarm-inside b bs m r (Await a q o) x e = absurd (nothing x e)
  alarm-inside b bs m r (Forked ns) x e = alarm-branches b bs m ns x e

  alarm-branches : (b : ℕ) (bs : List ℕ) (m : Node) (ns : Nodes) (x : Node) → at_among b bs ns ≡ Some x → alarm_among (replaced_among b bs m ns) ≡ earlier (alarm_of m) (reduce min (beside_among b bs ns))
  alarm-branches b bs m no_nodes x e = absurd (nothing x e)
  alarm-branches zero bs m (branch n ns) x e =
      alarm_among-branch (replaced bs m n) ns
      ∙ ap (λ o. earlier o (alarm_among ns)) (alarm-replaced bs m n x e)
      ∙ earlier-assoc (alarm_of m) (reduce min (beside bs n)) (alarm_among ns)
      ∙ ap (earlier (alarm_of m)) (sym (least-append (beside bs n) (waits_among ns)))
  alarm-branches (suc b) bs m (branch n ns) x e =
      let others = reduce min (beside_among b bs ns) in
      alarm_among-branch n (replaced_among b bs m ns)
      ∙ ap (earlier (alarm_of n)) (alarm-branches b bs m ns x e)
      ∙ sym (earlier-assoc (alarm_of n) (alarm_of m) others)
      ∙ ap (λ o. earlier o others) (earlier-swap (alarm_of n) (alarm_of m))
      ∙ earlier-assoc (alarm_of m) (alarm_of n) others
      ∙ ap (earlier (alarm_of m)) (sym (least-append (waits n) (beside_among b bs ns)))

-- what stands there in its own place
mutual
  itself : (bs : List ℕ) (n x : Node) → at bs n ≡ Some x → replaced bs x n ≡ n
  itself [] n x e = sym (same_Some n x e)
  itself (b ∷ bs) (Fresh t v) x e = refl
  itself (b ∷ bs) (Live r k) x e = ap (Live r) (itself-inside b bs k x e)
  itself (b ∷ bs) (Done w f) x e = refl
  itself (b ∷ bs) (Fault p) x e = refl

  itself-inside : (b : ℕ) (bs : List ℕ) (k : Inside) (x : Node) → at_inside b bs k ≡ Some x → replaced_inside b bs x k ≡ k
  itself-inside b bs (At round i n) x e = ap (At round i) (itself (b ∷ bs) n x e)
  itself-inside b bs (Later n l) x e = refl
  itself-inside b bs (Sleep l) x e = refl
  itself-inside b bs (Hear bound hs) x e = refl
  itself-inside b bs (Await a q o) x e = refl
  itself-inside b bs (Forked ns) x e = ap Forked (itself-among b bs ns x e)

  itself-among : (b : ℕ) (bs : List ℕ) (ns : Nodes) (x : Node) → at_among b bs ns ≡ Some x → replaced_among b bs x ns ≡ ns
  itself-among b bs no_nodes x e = refl
  itself-among zero bs (branch n ns) x e = ap (λ y. branch y ns) (itself bs n x e)
  itself-among (suc b) bs (branch n ns) x e = ap (branch n) (itself-among b bs ns x e)

there-is : (o : Option Node) → is_some o ≡ true → (x : Node) × (o ≡ Some x)
there-is None e = absurd (yes-no (sym e))
there-is (Some x) e = (x, refl)

-- the least moment is that of the others, and so it stays beside the new one
pub alarm-left : (n m new : Node) (bs : List ℕ) (a d u : Option ℕ) → has_strand bs n ≡ true → a ≡ alarm_of n → ((x : Node) → at bs n ≡ Some x → d ≡ alarm_of x) → ((others : Option ℕ) → a ≡ earlier d others → a ≡ others) → u ≡ alarm_of m →
    new ≡ replaced bs m n → earlier u a ≡ alarm_of new
alarm-left n m new bs a d u there old dropped left until is =
    let t = there-is (at bs n) there in
    let x = t.0 in
    let others = reduce min (beside bs n) in
    let all : a ≡ earlier d others = old ∙ ap alarm_of (sym (itself bs n x t.1)) ∙ alarm-replaced bs x n x t.1 ∙ ap (λ o. earlier o others) (sym (dropped x t.1)) in
    (λ i. earlier (until i) (left others all i)) ∙ sym (ap alarm_of is ∙ alarm-replaced bs m n x t.1)

-- what the root waits for is that of all
pub alarm-root : (t : Tree Stand) (r : ℕ) (a : Option ℕ) → numbers t.strands ≡ r ∷ [] → IsGrown t.strands → ((b : Branch Stand) → find t.strands r ≡ Some b → a ≡ alarm_of (node_of b)) → a ≡ alarm_of (root_node t.strands)
alarm-root t r a e g is = let h = root-holds t r e g in is h.0 h.1.0 ∙ ap alarm_of (sym h.1.1.1.1)

-- what a way leads to
pub alarm-way : (t : Tree Stand) (r c : ℕ) (bs : List ℕ) (a : Option ℕ) → numbers t.strands ≡ r ∷ [] → IsGrown t.strands → IsAt t r bs c → ((b : Branch Stand) → find t.strands c ≡ Some b → a ≡ alarm_of (node_of b)) →
    (n : Node) → at bs (root_node t.strands) ≡ Some n → a ≡ alarm_of n
alarm-way t r c bs a e g way is n there =
    let h = root-holds t r e g in
    let y = way h.0 h.1.0 in
    let found : at bs (root_node t.strands) ≡ Some (node_of y.0) = ap (at bs) h.1.1.1.1 ∙ at-walk bs (record { number = r; held = h.0 }) (record { number = c; held = y.0 }) h.1.1.0 y.1.0 in
    is y.0 y.1.1.0 ∙ ap alarm_of (same_Some (node_of y.0) n (sym found ∙ there))

pub left-others : (a d : ℕ) (o : Option ℕ) → Some a ≡ earlier (Some d) o → a < d → Some a ≡ o
left-others a d None e l = let same : a ≡ d = same_Some a d e in absurd (omega (arith, l, same))
left-others a d (Some n) e l = let same : a ≡ min d n = same_Some a (min d n) e in let is : a ≡ n = omega (arith, l, same) in ap Some is
