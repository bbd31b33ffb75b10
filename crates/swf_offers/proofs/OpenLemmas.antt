-- Whether the call of an activity stands on a strand or on one below it, and has no answer.
use Rattle.std.proofs.Common.{◌≡◌, ◌∙◌, refl, sym, ap, subst, ℕ, zero, suc, ◌+◌, Bool, true, false, not, List, [], ◌∷◌, Some, None, arith}
use Rattle.std.proofs.Math.Bool.{or-false}
use Rattle.std.proofs.lemmas.Option.{same_Some}
use Rattle.std.specs.List.{list_any}
use Rattle.std.specs.Prelude.{◌&&◌, ◌||◌, is_some}
use Rattle.swf_text.specs.Same.{same}
use Rattle.swf_frames.specs.Tree.{Tree, Strands, no_strands, strand, Branch, find}
use Rattle.swf_frames.specs.Paths.{Found, nth}
use Rattle.swf_meaning.specs.Node.{Node, Fresh, Live, Done, Fault, At, Forked, Nodes, branch, Round, Running}
use Rattle.swf_meaning.specs.Reply.{is_open, is_open_top}
use Rattle.swf_meaning.specs.Strands.{tops_from}
use Rattle.swf_meaning.proofs.TopsLemmas.{any-branch}
use Rattle.swf_catalog.specs.Rounds.{round_of}
use Rattle.swf_stack.specs.Stands.{frames_of, top_of}
use Rattle.swf_stack.specs.Stack.{plug, top_node}
use Rattle.swf_stack.specs.declared.made.Frame.{Frame}
use Rattle.swf_stack.specs.declared.made.Stand.{Stand}
use Rattle.swf_stack.specs.declared.made.Top.{Top}
use Rattle.swf_stack.specs.declared.made.Top.TheVariants as tops
use Rattle.swf_strands.specs.Strands.{strand_node, nodes_of, node_of, is_fork, IsGrownAt, IsHeld}
use Rattle.swf_strands.proofs.TreeLemmas.{nothing, fork-node, plain-node, held-is, IsChild}
use Rattle.swf_offers.specs.Answers.{is_open_in_top}

-- ---- of the nodes of a tree

-- what is inside a running task
open-at : (a : List ℕ) (r : Running) (round : Round) (i : ℕ) (n : Node) → is_open a (Live r (At round i n)) ≡ is_open a n
open-at a r round i (Fresh t v) = refl
open-at a r round i (Live q k) = refl
open-at a r round i (Done w f) = refl
open-at a r round i (Fault p) = refl

open-plug : (a : List ℕ) (fs : List Frame) (n : Node) → is_open a (plug fs n) ≡ is_open a n
open-plug a [] n = refl
open-plug a (f ∷ fs) n = open-at a f.running (round_of f.round) f.place (plug fs n) ∙ open-plug a fs n

-- of the branches of a `fork`
abbrev open_among : List ℕ → Nodes → Bool
open_among a ns = list_any (λ s. is_open_top a s.1) (tops_from zero ns)

open_among-branch : (a : List ℕ) (n : Node) (ns : Nodes) → open_among a (branch n ns) ≡ (is_open a n || open_among a ns)
open_among-branch a n ns = any-branch (is_open_top a) n ns

-- of what stands innermost
own-open : (a : List ℕ) (t : Top) → is_open a (top_node t) ≡ is_open_in_top a t
own-open a (tops.Fresh r v) = refl
own-open a (tops.Done w f) = refl
own-open a (tops.Fault p) = refl
own-open a (tops.Waiting r None m) = refl
own-open a (tops.Waiting r (Some n) m) = refl
own-open a (tops.Hearing r bound hs) = refl
own-open a (tops.Awaiting r b q o) = or-false (same a b && not (is_some o))
own-open a (tops.Forked r) = refl

-- ---- of a strand and of those below it

pub open-node : (a : List ℕ) (b : Branch Stand) → IsGrownAt b → is_open a (node_of b) ≡ (is_open_in_top a (top_of b.frames) || open_among a (nodes_of b.below))
open-node a b g = by (is_fork (top_of b.frames)) refl
  where
    ns : Nodes
    ns = nodes_of b.below

    by : (x : Bool) → is_fork (top_of b.frames) ≡ x → is_open a (node_of b) ≡ (is_open_in_top a (top_of b.frames) || open_among a ns)
    by true e =
        let f = fork-node b.frames ns e in
        ap (is_open a) f.1.1 ∙ open-plug a (frames_of b.frames) (Live f.0 (Forked ns)) ∙ sym (ap (λ t. is_open_in_top a t || open_among a ns) f.1.0)
    by false e =
        let own = is_open_in_top a (top_of b.frames) in
        ap (is_open a) (plain-node b.frames ns e) ∙ open-plug a (frames_of b.frames) (top_node (top_of b.frames)) ∙ own-open a (top_of b.frames)
        ∙ sym (ap (λ ss. own || open_among a (nodes_of ss)) (g.0.1 e) ∙ or-false own)

-- ---- one branch after another

-- in none of the first ones
abbrev pub AreClosed : List ℕ → ℕ → Strands Stand → Type 0
AreClosed a zero ss = Unit {0}
AreClosed a (suc i) no_strands = Unit {0}
AreClosed a (suc i) (strand m ls below after) = (is_open a (strand_node ls (nodes_of below)) ≡ false) × AreClosed a i after

closed-next : (a : List ℕ) (i : ℕ) (ss : Strands Stand) (c : Found Stand) → AreClosed a i ss → nth ss i ≡ Some c → is_open a (node_of c.held) ≡ false → AreClosed a (suc i) ss
closed-next a i no_strands c k e isnt = absurd (nothing c e)
closed-next a zero (strand m ls below after) c k e isnt = (ap (λ (d : Found Stand). is_open a (node_of d.held)) (same_Some _ c e) ∙ isnt, tt)
closed-next a (suc i) (strand m ls below after) c k e isnt = (k.0, closed-next a i after c k.1 e isnt)

or_true : (x : Bool) → (x || true) ≡ true
or_true true = refl
or_true false = refl

-- in one of them
among-open : (a : List ℕ) (ss : Strands Stand) (i : ℕ) (c : Found Stand) → nth ss i ≡ Some c → is_open a (node_of c.held) ≡ true → open_among a (nodes_of ss) ≡ true
among-open a no_strands i c e so = absurd (nothing c e)
among-open a (strand m ls below after) zero c e so =
    open_among-branch a (strand_node ls (nodes_of below)) (nodes_of after)
    ∙ ap (λ x. x || open_among a (nodes_of after)) (ap (λ (d : Found Stand). is_open a (node_of d.held)) (same_Some _ c e) ∙ so)
among-open a (strand m ls below after) (suc i) c e so =
    let first = is_open a (strand_node ls (nodes_of below)) in
    open_among-branch a (strand_node ls (nodes_of below)) (nodes_of after) ∙ ap (λ x. first || x) (among-open a after i c e so) ∙ or_true first

-- in none
among-closed : (a : List ℕ) (i : ℕ) (ss : Strands Stand) → AreClosed a i ss → nth ss i ≡ None → open_among a (nodes_of ss) ≡ false
among-closed a i no_strands k e = refl
among-closed a zero (strand m ls below after) k e = absurd (nothing _ (sym e))
among-closed a (suc i) (strand m ls below after) k e =
    open_among-branch a (strand_node ls (nodes_of below)) (nodes_of after)
    ∙ ap (λ x. x || open_among a (nodes_of after)) k.0 ∙ among-closed a i after k.1 e

-- of a strand itself it is known, and of one with those below it
abbrev pub IsOwn : List ℕ → Tree Stand → ℕ → Bool → Type 0
IsOwn a t n x = (b : Branch Stand) → find t.strands n ≡ Some b → x ≡ is_open_in_top a (top_of b.frames)

abbrev pub IsOf : List ℕ → Tree Stand → ℕ → Bool → Type 0
IsOf a t n x = (b : Branch Stand) → find t.strands n ≡ Some b → x ≡ is_open a (node_of b)

-- neither on the strand nor in the first of its branches
abbrev pub IsClosedTo : List ℕ → Tree Stand → ℕ → ℕ → Type 0
IsClosedTo a t n i = (b : Branch Stand) → find t.strands n ≡ Some b → (is_open_in_top a (top_of b.frames) ≡ false) × AreClosed a i b.below

pub closed-first : (a : List ℕ) (t : Tree Stand) (n : ℕ) (x : Bool) → IsOwn a t n x → x ≡ false → IsClosedTo a t n 0
closed-first a t n x is isnt b f = (sym (is b f) ∙ isnt, tt)

pub closed-more : (a : List ℕ) (t : Tree Stand) (n i c : ℕ) (x : Bool) → IsChild t n i c → IsClosedTo a t n i → IsOf a t c x → x ≡ false → IsClosedTo a t n (i + 1)
closed-more a t n i c x child closed of isnt b f =
    let same : suc i ≡ i + 1 = omega arith in
    let h = child b f in
    let k = closed b f in
    (k.0, subst (λ j. AreClosed a j b.below) same (closed-next a i b.below (record { number = c; held = h.0 }) k.1 h.1.0 (sym (of h.0 h.1.1.0) ∙ isnt)))

pub closed-all : (a : List ℕ) (t : Tree Stand) (n i : ℕ) → IsHeld t n → IsClosedTo a t n i → ((b : Branch Stand) → find t.strands n ≡ Some b → nth b.below i ≡ None) → IsOf a t n false
closed-all a t n i held closed none b f =
    let k = closed b f in
    sym (open-node a b (held-is t n b held f) ∙ ap (λ x. x || open_among a (nodes_of b.below)) k.0 ∙ among-closed a i b.below k.1 (none b f))

pub open-here : (a : List ℕ) (t : Tree Stand) (n : ℕ) (x : Bool) → IsHeld t n → IsOwn a t n x → x ≡ true → IsOf a t n true
open-here a t n x held is so b f = sym (open-node a b (held-is t n b held f) ∙ ap (λ y. y || open_among a (nodes_of b.below)) (sym (is b f) ∙ so))

pub open-child : (a : List ℕ) (t : Tree Stand) (n i c : ℕ) (x : Bool) → IsHeld t n → IsChild t n i c → IsOf a t c x → x ≡ true → IsOf a t n true
open-child a t n i c x held child of so b f =
    let h = child b f in
    let own = is_open_in_top a (top_of b.frames) in
    sym (open-node a b (held-is t n b held f) ∙ ap (λ y. own || y) (among-open a b.below i (record { number = c; held = h.0 }) h.1.0 (sym (of h.0 h.1.1.0) ∙ so)) ∙ or_true own)
