-- Which of a strand and those below it can take a step.
use Rattle.std.proofs.Common.{◌≡◌, ◌∙◌, refl, sym, ap, ℕ, zero, suc, ◌+◌, ◌<◌, ◌≤◌, Bool, true, false, not, List, [], ◌∷◌, length, Option, Some, None, arith}
use Rattle.std.proofs.Math.Bool.{or-false}
use Rattle.std.proofs.Math.Dec.{eqb-suc-zero}
use Rattle.std.proofs.lemmas.Option.{same_Some}
use Rattle.std.specs.Prelude.{◌||◌, ◌==◌, is_some, nat_le}
use Rattle.swf_value.specs.Value.{Value, Members}
use Rattle.swf_calls.specs.Request.{Request}
use Rattle.swf_calls.specs.declared.reply.CallReply.{CallReply}
use Rattle.swf_document.specs.Task.{Task}
use Rattle.swf_document.specs.declared.common.Flow.{Flow}
use Rattle.swf_document.specs.declared.error.Problem.{Problem}
use Rattle.swf_frames.specs.Tree.{Tree, Strands, no_strands, strand, Branch, find, numbers, count}
use Rattle.swf_frames.specs.Paths.{Found, nth}
use Rattle.swf_meaning.specs.Listen.{is_heard}
use Rattle.swf_meaning.specs.Local.{is_enabled}
use Rattle.swf_meaning.specs.Node.{Node, Fresh, Live, Done, Fault, Inside, At, Hear, Await, Forked, Nodes, no_nodes, branch, Round, Running}
use Rattle.swf_meaning.specs.Strands.{can_go, can_top}
use Rattle.swf_meaning.specs.Top.{top_is}
use Rattle.swf_meaning.specs.Wake.{waits}
use Rattle.swf_meaning.specs.declared.heard.Heard.{Heard}
use Rattle.swf_meaning.proofs.TopsLemmas.{enabled_among, enabled_among-branch, waits-at}
use Rattle.swf_stack.specs.Stands.{frames_of, top_of}
use Rattle.swf_stack.specs.Stack.{plug, top_node, forked, waiting}
use Rattle.swf_catalog.specs.Rounds.{round_of}
use Rattle.swf_stack.specs.declared.made.Frame.{Frame}
use Rattle.swf_stack.specs.declared.made.Stand.{Stand}
use Rattle.swf_stack.specs.declared.made.Top.{Top}
use Rattle.swf_stack.specs.declared.made.Top.TheVariants as tops
use Rattle.swf_strands.specs.Strands.{nodes_of, node_of, is_fork, IsGrownAt, IsHeld, most_beside}
use Rattle.swf_strands.specs.Ways.{own_until}
use Rattle.swf_strands.proofs.TopLemmas.{top-live, top-fresh}
use Rattle.swf_strands.proofs.TreeLemmas.{nothing, nth_node, nth_node-of, nth_node-none, fork-node, plain-node, waiting-forked, held-is, IsChild}

-- ---- how many strands stand below another

abbrev below_in : Option (Branch Stand) → ℕ
below_in None = 0
below_in (Some b) = count b.below

abbrev pub below_held : Tree Stand → ℕ → ℕ
below_held t n = below_in (find t.strands n)

count-nth : (ss : Strands Stand) (i : ℕ) (c : Found Stand) → nth ss i ≡ Some c → count c.held.below < count ss
count-nth no_strands i c e = absurd (nothing c e)
count-nth (strand m ls below after) zero c e = let k : count below ≡ count c.held.below = ap (λ (d : Found Stand). count d.held.below) (same_Some _ c e) in omega (arith, k)
count-nth (strand m ls below after) (suc i) c e = let k = count-nth after i c e in omega (arith, k)

-- a child has fewer, also where another tree holds it as it was
pub fewer-by : (t u : Tree Stand) (n i c : ℕ) (b h : Branch Stand) → find t.strands n ≡ Some b → nth b.below i ≡ Some (record { number = c; held = h }) → find u.strands c ≡ Some h → below_held u c < below_held t n
fewer-by t u n i c b h f e g =
    let k = count-nth b.below i (record { number = c; held = h }) e in
    let one : below_held t n ≡ count b.below = ap below_in f in
    let two : below_held u c ≡ count h.below = ap below_in g in
    omega (arith, k, one, two)

pub fewer : (t : Tree Stand) (n i c : ℕ) → IsHeld t n → IsChild t n i c → below_held t c < below_held t n
fewer t n i c held is =
    let b = held.1.0 in
    let f = held.1.1.0 in
    let h = is b f in
    fewer-by t t n i c b h.0 f h.1.0 h.1.1.0

-- the place of a child
pub nth-place : (ss : Strands Stand) (i : ℕ) (c : Found Stand) → nth ss i ≡ Some c → i < length (numbers ss)
nth-place no_strands i c e = absurd (nothing c e)
nth-place (strand m ls below after) zero c e = omega arith
nth-place (strand m ls below after) (suc i) c e = let k = nth-place after i c e in omega (arith, k)

pub child-place : (t : Tree Stand) (n i c : ℕ) → IsHeld t n → IsChild t n i c → i < most_beside
child-place t n i c held is =
    let b = held.1.0 in
    let h = is b held.1.1.0 in
    let k = nth-place b.below i (record { number = c; held = h.0 }) h.1.0 in
    let most : length (numbers b.below) ≤ most_beside = held.1.1.1.0.2 in
    omega (arith, k, most)

-- ---- those from a place on

abbrev pub nodes_from : ℕ → Nodes → Nodes
nodes_from zero ns = ns
nodes_from (suc i) no_nodes = no_nodes
nodes_from (suc i) (branch n ns) = nodes_from i ns

pub nodes_from-some : (ns : Nodes) (i : ℕ) (n : Node) → nth_node ns i ≡ Some n → nodes_from i ns ≡ branch n (nodes_from (suc i) ns)
nodes_from-some no_nodes i n e = absurd (nothing n e)
nodes_from-some (branch m ns) zero n e = ap (λ k. branch k ns) (same_Some m n e)
nodes_from-some (branch m ns) (suc i) n e = nodes_from-some ns i n e

pub nodes_from-none : (ns : Nodes) (i : ℕ) → nth_node ns i ≡ None → nodes_from i ns ≡ no_nodes
nodes_from-none no_nodes zero e = refl
nodes_from-none no_nodes (suc i) e = refl
nodes_from-none (branch m ns) zero e = absurd (nothing m (sym e))
nodes_from-none (branch m ns) (suc i) e = nodes_from-none ns i e

-- the branches of a strand from a child on
pub from-child : (b : Branch Stand) (i : ℕ) (c : Found Stand) → nth b.below i ≡ Some c → nodes_from i (nodes_of b.below) ≡ branch (node_of c.held) (nodes_from (suc i) (nodes_of b.below))
from-child b i c e = nodes_from-some (nodes_of b.below) i (node_of c.held) (nth_node-of b.below i c e)

pub from-end : (b : Branch Stand) (i : ℕ) → nth b.below i ≡ None → nodes_from i (nodes_of b.below) ≡ no_nodes
from-end b i e = nodes_from-none (nodes_of b.below) i (nth_node-none b.below i e)

-- ---- what stands innermost decides for the strand

pub can_go-live : (now : ℕ) (fs : List Frame) (r : Running) (k : Inside) → can_go now [] (plug fs (Live r k)) ≡ can_go now [] (Live r k)
can_go-live now fs r k = ap (top_is (can_top now)) (top-live [] fs r k)

can_go-done : (now : ℕ) (fs : List Frame) (w : Value) (d : Flow) → can_go now [] (plug fs (Done w d)) ≡ not (length fs == 0)
can_go-done now [] w d = refl
can_go-done now (f ∷ []) w d = refl
can_go-done now (f ∷ g ∷ gs) w d = can_go-done now (g ∷ gs) w d ∙ ap not (eqb-suc-zero (length gs)) ∙ sym (ap not (eqb-suc-zero (suc (length gs))))

can_go-fault : (now : ℕ) (fs : List Frame) (p : Problem) → can_go now [] (plug fs (Fault p)) ≡ not (length fs == 0)
can_go-fault now [] p = refl
can_go-fault now (f ∷ []) p = refl
can_go-fault now (f ∷ g ∷ gs) p = can_go-fault now (g ∷ gs) p ∙ ap not (eqb-suc-zero (length gs)) ∙ sym (ap not (eqb-suc-zero (suc (length gs))))

pub can_go-until : (now : ℕ) (r : Running) (n : Option ℕ) (m : ℕ) → can_go now [] (Live r (waiting n m)) ≡ nat_le m now
can_go-until now r None m = refl
can_go-until now r (Some n) m = refl

-- a top with these branches below it
abbrev pub goes : ℕ → List Frame → Top → Nodes → Bool
goes now fs t ns = can_go now [] (plug fs (forked (top_node t) ns))

goes-is : (now : ℕ) (fs : List Frame) (t x : Top) (ns : Nodes) (b : Bool) → t ≡ x → goes now fs x ns ≡ b → b ≡ goes now fs t ns
goes-is now fs t x ns b e h = sym (ap (λ y. goes now fs y ns) e ∙ h)

pub goes-fresh : (now : ℕ) (fs : List Frame) (t : Top) (ns : Nodes) (r : Task) (v : Value) → t ≡ tops.Fresh r v → true ≡ goes now fs t ns
goes-fresh now fs t ns r v e = goes-is now fs t (tops.Fresh r v) ns true e (ap (top_is (can_top now)) (top-fresh [] fs r v))

pub goes-done : (now : ℕ) (fs : List Frame) (t : Top) (ns : Nodes) (w : Value) (d : Flow) (n : ℕ) (b : Bool) → t ≡ tops.Done w d → n ≡ length fs → b ≡ (n == 0) → not b ≡ goes now fs t ns
goes-done now fs t ns w d n b e l h = goes-is now fs t (tops.Done w d) ns (not b) e (can_go-done now fs w d ∙ ap (λ m. not (m == 0)) (sym l) ∙ ap not (sym h))

pub goes-fault : (now : ℕ) (fs : List Frame) (t : Top) (ns : Nodes) (p : Problem) (n : ℕ) (b : Bool) → t ≡ tops.Fault p → n ≡ length fs → b ≡ (n == 0) → not b ≡ goes now fs t ns
goes-fault now fs t ns p n b e l h = goes-is now fs t (tops.Fault p) ns (not b) e (can_go-fault now fs p ∙ ap (λ m. not (m == 0)) (sym l) ∙ ap not (sym h))

pub goes-waiting : (now : ℕ) (fs : List Frame) (t : Top) (ns : Nodes) (r : Running) (n : Option ℕ) (m : ℕ) → t ≡ tops.Waiting r n m → nat_le m now ≡ goes now fs t ns
goes-waiting now fs t ns r n m e =
    goes-is now fs t (tops.Waiting r n m) ns (nat_le m now) e
    (ap (λ x. can_go now [] (plug fs x)) (waiting-forked r n m ns) ∙ can_go-live now fs r (waiting n m) ∙ can_go-until now r n m)

pub goes-hearing : (now : ℕ) (fs : List Frame) (t : Top) (ns : Nodes) (r : Running) (bound : Members) (hs : List Heard) → t ≡ tops.Hearing r bound hs → is_heard r.task hs ≡ goes now fs t ns
goes-hearing now fs t ns r bound hs e = goes-is now fs t (tops.Hearing r bound hs) ns (is_heard r.task hs) e (can_go-live now fs r (Hear bound hs))

pub goes-awaiting : (now : ℕ) (fs : List Frame) (t : Top) (ns : Nodes) (r : Running) (a : List ℕ) (q : Request) (o : Option CallReply) → t ≡ tops.Awaiting r a q o → is_some o ≡ goes now fs t ns
goes-awaiting now fs t ns r a q o e = goes-is now fs t (tops.Awaiting r a q o) ns (is_some o) e (can_go-live now fs r (Await a q o))

pub goes-forked : (now : ℕ) (fs : List Frame) (t : Top) (ns : Nodes) (r : Running) → t ≡ tops.Forked r → false ≡ goes now fs t ns
goes-forked now fs t ns r e = goes-is now fs t (tops.Forked r) ns false e (can_go-live now fs r (Forked ns))

-- ---- until when a strand waits

own_until-at : (r : Running) (round : Round) (i : ℕ) (n : Node) → own_until (Live r (At round i n)) ≡ own_until n
own_until-at r round i (Fresh t v) = refl
own_until-at r round i (Live q k) = refl
own_until-at r round i (Done w f) = refl
own_until-at r round i (Fault p) = refl

pub own_until-plug : (fs : List Frame) (n : Node) → own_until (plug fs n) ≡ own_until n
own_until-plug [] n = refl
own_until-plug (f ∷ fs) n = own_until-at f.running (round_of f.round) f.place (plug fs n) ∙ own_until-plug fs n

pub own_until-waiting : (r : Running) (n : Option ℕ) (m : ℕ) → own_until (Live r (waiting n m)) ≡ Some m
own_until-waiting r None m = refl
own_until-waiting r (Some n) m = refl

pub waits-plug : (fs : List Frame) (n : Node) → waits (plug fs n) ≡ waits n
waits-plug [] n = refl
waits-plug (f ∷ fs) n = waits-at f.running (round_of f.round) f.place (plug fs n) ∙ waits-plug fs n

-- ---- a strand and those below it

is_enabled-live : (now : ℕ) (fs : List Frame) (r : Running) (k : Inside) → is_enabled now (plug fs (Live r k)) ≡ is_enabled now (Live r k)
is_enabled-live now [] r k = refl
is_enabled-live now (f ∷ []) r k = refl
is_enabled-live now (f ∷ g ∷ gs) r k = is_enabled-live now (g ∷ gs) r k

-- what holds no `fork` can take a step where the strand can
plain-enabled : (now : ℕ) (fs : List Frame) (t : Top) → is_fork t ≡ false → is_enabled now (plug fs (top_node t)) ≡ can_go now [] (plug fs (top_node t))
plain-enabled now [] (tops.Fresh r v) e = refl
plain-enabled now [] (tops.Done w d) e = refl
plain-enabled now [] (tops.Fault p) e = refl
plain-enabled now [] (tops.Waiting r None m) e = or-false (nat_le m now)
plain-enabled now [] (tops.Waiting r (Some n) m) e = or-false (nat_le m now)
plain-enabled now [] (tops.Hearing r bound hs) e = or-false (is_heard r.task hs)
plain-enabled now [] (tops.Awaiting r a q o) e = or-false (is_some o)
plain-enabled now [] (tops.Forked r) e = cc
plain-enabled now (f ∷ g ∷ gs) t e = plain-enabled now (g ∷ gs) t e
plain-enabled now (f ∷ []) (tops.Fresh r v) e = refl
plain-enabled now (f ∷ []) (tops.Done w d) e = refl
plain-enabled now (f ∷ []) (tops.Fault p) e = refl
plain-enabled now (f ∷ []) (tops.Waiting r None m) e = or-false (nat_le m now)
plain-enabled now (f ∷ []) (tops.Waiting r (Some n) m) e = or-false (nat_le m now)
plain-enabled now (f ∷ []) (tops.Hearing r bound hs) e = or-false (is_heard r.task hs)
plain-enabled now (f ∷ []) (tops.Awaiting r a q o) e = or-false (is_some o)
plain-enabled now (f ∷ []) (tops.Forked r) e = cc

-- a strand itself can, or one below it
pub enabled-node : (now : ℕ) (b : Branch Stand) → IsGrownAt b → is_enabled now (node_of b) ≡ (can_go now [] (node_of b) || enabled_among now (nodes_of b.below))
enabled-node now b g = by (is_fork (top_of b.frames)) refl
  where
    by : (x : Bool) → is_fork (top_of b.frames) ≡ x → is_enabled now (node_of b) ≡ (can_go now [] (node_of b) || enabled_among now (nodes_of b.below))
    by true e =
        let f = fork-node b.frames (nodes_of b.below) e in
        let is = f.1.1 in
        ap (is_enabled now) is ∙ is_enabled-live now (frames_of b.frames) f.0 (Forked (nodes_of b.below))
        ∙ sym (ap (λ x. x || enabled_among now (nodes_of b.below)) (ap (can_go now []) is ∙ can_go-live now (frames_of b.frames) f.0 (Forked (nodes_of b.below))))
    by false e =
        let is = plain-node b.frames (nodes_of b.below) e in
        let none : enabled_among now (nodes_of b.below) ≡ false = ap (λ ss. enabled_among now (nodes_of ss)) (g.0.1 e) in
        ap (is_enabled now) is ∙ plain-enabled now (frames_of b.frames) (top_of b.frames) e ∙ sym (ap (can_go now []) is)
        ∙ sym (ap (λ x. can_go now [] (node_of b) || x) none ∙ or-false (can_go now [] (node_of b)))

-- ---- one branch after another

-- those before this one can take no step
abbrev pub IsLeft : ℕ → Tree Stand → ℕ → ℕ → Type 0
IsLeft now t n i = (b : Branch Stand) → find t.strands n ≡ Some b → is_enabled now (node_of b) ≡ enabled_among now (nodes_from i (nodes_of b.below))

pub left-all : (now : ℕ) (t : Tree Stand) (n : ℕ) (here : Bool) → IsHeld t n → ((b : Branch Stand) → find t.strands n ≡ Some b → here ≡ can_go now [] (node_of b)) → here ≡ false → IsLeft now t n 0
left-all now t n here held is isnt b f = enabled-node now b (held-is t n b held f) ∙ ap (λ x. x || enabled_among now (nodes_of b.below)) (sym (is b f) ∙ isnt)

pub left-here : (now : ℕ) (t : Tree Stand) (n : ℕ) (here : Bool) → IsHeld t n → ((b : Branch Stand) → find t.strands n ≡ Some b → here ≡ can_go now [] (node_of b)) → here ≡ true → (b : Branch Stand) → find t.strands n ≡ Some b → true ≡ is_enabled now (node_of b)
left-here now t n here held is so b f = sym (enabled-node now b (held-is t n b held f) ∙ ap (λ x. x || enabled_among now (nodes_of b.below)) (sym (is b f) ∙ so))

-- of a child it is known
abbrev pub IsOf : ℕ → Tree Stand → ℕ → Bool → Type 0
IsOf now t c x = (h : Branch Stand) → find t.strands c ≡ Some h → x ≡ is_enabled now (node_of h)

left-child : (now : ℕ) (t : Tree Stand) (n i c : ℕ) (x : Bool) → IsChild t n i c → IsLeft now t n i → IsOf now t c x → (b : Branch Stand) → find t.strands n ≡ Some b → is_enabled now (node_of b) ≡ (x || enabled_among now (nodes_from (suc i) (nodes_of b.below)))
left-child now t n i c x child left of b f =
    let h = child b f in
    left b f ∙ ap (enabled_among now) (from-child b i (record { number = c; held = h.0 }) h.1.0) ∙ enabled_among-branch now (node_of h.0) (nodes_from (suc i) (nodes_of b.below))
    ∙ ap (λ y. y || enabled_among now (nodes_from (suc i) (nodes_of b.below))) (sym (of h.0 h.1.1.0))

pub left-more : (now : ℕ) (t : Tree Stand) (n i c : ℕ) (x : Bool) → IsChild t n i c → IsLeft now t n i → IsOf now t c x → x ≡ false → IsLeft now t n (i + 1)
left-more now t n i c x child left of isnt b f =
    let same : suc i ≡ i + 1 = omega arith in
    left-child now t n i c x child left of b f ∙ ap (λ y. y || enabled_among now (nodes_from (suc i) (nodes_of b.below))) isnt ∙ ap (λ j. enabled_among now (nodes_from j (nodes_of b.below))) same

pub left-found : (now : ℕ) (t : Tree Stand) (n i c : ℕ) (x : Bool) → IsChild t n i c → IsLeft now t n i → IsOf now t c x → x ≡ true → (b : Branch Stand) → find t.strands n ≡ Some b → true ≡ is_enabled now (node_of b)
left-found now t n i c x child left of so b f =
    sym (left-child now t n i c x child left of b f ∙ ap (λ y. y || enabled_among now (nodes_from (suc i) (nodes_of b.below))) so)

pub left-none : (now : ℕ) (t : Tree Stand) (n i : ℕ) → ((b : Branch Stand) → find t.strands n ≡ Some b → nth b.below i ≡ None) → IsLeft now t n i → (b : Branch Stand) → find t.strands n ≡ Some b → false ≡ is_enabled now (node_of b)
left-none now t n i none left b f = sym (left b f ∙ ap (enabled_among now) (from-end b i (none b f)))
