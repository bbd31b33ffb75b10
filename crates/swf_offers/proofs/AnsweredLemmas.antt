-- What an answer makes of all strands is what it makes of their tree.
use Rattle.std.proofs.Common.{◌≡◌, ◌∙◌, ◌≤◌, refl, sym, ap, subst, ℕ, zero, Bool, true, false, List, [], ◌∷◌, length, Option, Some, None}
use Rattle.std.proofs.lemmas.Bool.{eq-eqb}
use Rattle.std.specs.List.{list_any}
use Rattle.std.specs.Prelude.{◌&&◌, ◌||◌, if◌then◌else◌, is_some, not}
use Rattle.swf_text.specs.Same.{same}
use Rattle.swf_calls.specs.Request.{Request}
use Rattle.swf_calls.specs.declared.reply.CallReply.{CallReply}
use Rattle.swf_frames.specs.Tree.{Tree, Branch, Strands, no_strands, strand, find, numbers}
use Rattle.swf_frames.specs.Paths.{edit}
use Rattle.swf_meaning.specs.Node.{Node, Live, Await, Forked, Nodes, no_nodes, branch, Running}
use Rattle.swf_meaning.specs.Reply.{is_open, is_open_top, with_reply, with_reply_among}
use Rattle.swf_meaning.specs.Strands.{tops_from}
use Rattle.swf_stack.specs.Stack.{forked, plug, top_node}
use Rattle.swf_stack.specs.Stands.{frames_of, inward, top_of}
use Rattle.swf_stack.specs.declared.made.Frame.{Frame}
use Rattle.swf_stack.specs.declared.made.Stand.{Stand}
use Rattle.swf_stack.specs.declared.made.Top.{Top}
use Rattle.swf_stack.specs.declared.made.Top.TheVariants as tops
use Rattle.swf_strands.specs.Strands.{IsGrown, IsGrownAt, IsOne, IsStrand, is_fork, most_beside, node_of, nodes_of, root_node, strand_node}
use Rattle.swf_strands.proofs.TreeLemmas.{fork-node, root-holds, yes-no}
use Rattle.swf_offers.proofs.AnswerLemmas.{IsIn}
use Rattle.swf_offers.proofs.OpenLemmas.{open-node}
use Rattle.swf_offers.specs.Answers.{answered_held, answered_here, answered_stand, answered_stands, answered_strands, answered_top, is_open_in_top}

-- ---- of what stands on a strand

with-plug : (a : List ℕ) (p : CallReply) (fs : List Frame) (n : Node) → with_reply a p (plug fs n) ≡ plug fs (with_reply a p n)
with-plug a p [] n = refl
with-plug a p (f ∷ fs) n = ap (λ m. plug (f ∷ []) m) (with-plug a p fs n)

-- an open call has its answer then
own-answered : (a : List ℕ) (p : CallReply) (t : Top) (ns : Nodes) → is_open_in_top a t ≡ true → forked (top_node (answered_top p t)) ns ≡ with_reply a p (forked (top_node t) ns)
own-answered a p (tops.Fresh r v) ns e = absurd (yes-no (sym e))
own-answered a p (tops.Done w f) ns e = absurd (yes-no (sym e))
own-answered a p (tops.Fault q) ns e = absurd (yes-no (sym e))
own-answered a p (tops.Waiting r n m) ns e = absurd (yes-no (sym e))
own-answered a p (tops.Hearing r bound hs) ns e = absurd (yes-no (sym e))
own-answered a p (tops.Awaiting r b q o) ns e = by (same a b) o refl e
  where
    by : (x : Bool) (o : Option CallReply) → same a b ≡ x → (x && not (is_some o)) ≡ true → Live r (Await b q (Some p)) ≡ with_reply a p (Live r (Await b q o))
    by true None s e = ap (λ y. Live r (Await b q (if y then Some p else None))) (sym s)
    by true (Some z) s e = absurd (yes-no (sym e))
    by false None s e = absurd (yes-no (sym e))
    by false (Some z) s e = absurd (yes-no (sym e))
own-answered a p (tops.Forked r) ns e = absurd (yes-no (sym e))

strand-own : (a : List ℕ) (p : CallReply) (ls : List Stand) (ns : Nodes) → IsOne ls → is_open_in_top a (top_of ls) ≡ true → strand_node (answered_stands p ls) ns ≡ with_reply a p (strand_node ls ns)
strand-own a p ls ns one =
    subst (λ (xs : List Stand). is_open_in_top a (top_of xs) ≡ true → strand_node (answered_stands p xs) ns ≡ with_reply a p (strand_node xs ns)) (sym one.1) (λ e.
    ap (plug (inward one.0.around)) (own-answered a p one.0.top ns e) ∙ sym (with-plug a p (inward one.0.around) (forked (top_node one.0.top) ns)))

-- a call below a `fork`
strand-below : (a : List ℕ) (p : CallReply) (ls : List Stand) (ns : Nodes) → is_fork (top_of ls) ≡ true → strand_node ls (with_reply_among a p ns) ≡ with_reply a p (strand_node ls ns)
strand-below a p ls ns is =
    let f = fork-node ls ns is in
    ap (λ t. plug (frames_of ls) (forked (top_node t) (with_reply_among a p ns))) f.1.0
    ∙ sym (with-plug a p (frames_of ls) (Live f.0 (Forked ns))) ∙ ap (with_reply a p) (sym f.1.1)

-- what is open, and not on the strand itself, is below a `fork`
open-fork : (a : List ℕ) (b : Branch Stand) → IsGrownAt b → is_open_in_top a (top_of b.frames) ≡ false → is_open a (node_of b) ≡ true → is_fork (top_of b.frames) ≡ true
open-fork a b g own is = by (is_fork (top_of b.frames)) refl
  where
    none : b.below ≡ no_strands → is_open a (node_of b) ≡ false
    none e = open-node a b g ∙ (λ i. own i || list_any (λ s. is_open_top a s.1) (tops_from zero (nodes_of (e i))))

    by : (x : Bool) → is_fork (top_of b.frames) ≡ x → is_fork (top_of b.frames) ≡ true
    by true e = e
    by false e = absurd (yes-no (sym is ∙ none (g.0.1 e)))

-- ---- of those beside each other

-- where it is so of those below one, and of those behind it
nodes-step : (a : List ℕ) (p : CallReply) (m : ℕ) (ls : List Stand) (below after : Strands Stand) → IsStrand ls below → IsGrown below → nodes_of (answered_strands a p below) ≡ with_reply_among a p (nodes_of below) →
    nodes_of (answered_strands a p after) ≡ with_reply_among a p (nodes_of after) → nodes_of (answered_strands a p (strand m ls below after)) ≡ with_reply_among a p (nodes_of (strand m ls below after))
nodes-step a p m ls below after g inner under rest = by (is_open_in_top a (top_of ls)) (is_open a n) refl refl
  where
    b : Branch Stand
    b = record { frames = ls; below = below }

    n : Node
    n = node_of b

    ns : Nodes
    ns = nodes_of after

    by : (x y : Bool) → is_open_in_top a (top_of ls) ≡ x → is_open a n ≡ y →
        nodes_of (if x then strand m (answered_stands p ls) below after else if y then strand m ls (answered_strands a p below) after else strand m ls below (answered_strands a p after))
        ≡ (if y then branch (with_reply a p n) ns else branch n (with_reply_among a p ns))
    by true true own is = ap (λ k. branch k ns) (strand-own a p ls (nodes_of below) g.0 own)
    by true false own is =
        absurd (yes-no (sym (open-node a b (g, inner) ∙ (λ i. own i || list_any (λ s. is_open_top a s.1) (tops_from zero (nodes_of below)))) ∙ is))
    by false true own is =
        ap (λ k. branch k ns) (ap (strand_node ls) under ∙ strand-below a p ls (nodes_of below) (open-fork a b (g, inner) own is))
    by false false own is = ap (branch n) rest

nodes-answered : (a : List ℕ) (p : CallReply) (ss : Strands Stand) → IsGrown ss → nodes_of (answered_strands a p ss) ≡ with_reply_among a p (nodes_of ss)
nodes-answered a p no_strands g = refl
nodes-answered a p (strand m ls below after) g = nodes-step a p m ls below after g.0 g.1 (nodes-answered a p below g.1) (nodes-answered a p after g.2)

-- ---- that strands are grown

fork-answered : (p : CallReply) (t : Top) → is_fork (answered_top p t) ≡ is_fork t
fork-answered p (tops.Fresh r v) = refl
fork-answered p (tops.Done w f) = refl
fork-answered p (tops.Fault q) = refl
fork-answered p (tops.Waiting r n m) = refl
fork-answered p (tops.Hearing r bound hs) = refl
fork-answered p (tops.Awaiting r a q o) = refl
fork-answered p (tops.Forked r) = refl

numbers-step : (a : List ℕ) (p : CallReply) (m : ℕ) (ls : List Stand) (below after : Strands Stand) → numbers (answered_strands a p after) ≡ numbers after → numbers (answered_strands a p (strand m ls below after)) ≡ m ∷ numbers after
numbers-step a p m ls below after rest = by (is_open_in_top a (top_of ls)) (is_open a (strand_node ls (nodes_of below)))
  where
    by : (x y : Bool) → numbers (if x then strand m (answered_stands p ls) below after else if y then strand m ls (answered_strands a p below) after else strand m ls below (answered_strands a p after)) ≡ m ∷ numbers after
    by true y = refl
    by false true = refl
    by false false = ap (λ ns. m ∷ ns) rest

numbers-answered : (a : List ℕ) (p : CallReply) (ss : Strands Stand) → numbers (answered_strands a p ss) ≡ numbers ss
numbers-answered a p no_strands = refl
numbers-answered a p (strand m ls below after) = numbers-step a p m ls below after (numbers-answered a p after)

-- with an answer on the strand itself
strand-here : (p : CallReply) (ls : List Stand) (below : Strands Stand) → IsStrand ls below → IsStrand (answered_stands p ls) below
strand-here p ls below s = (
  (answered_stand p s.0.0, ap (answered_stands p) s.0.1),
  (λ isnt. s.1 (sym top ∙ isnt)),
  s.2,
)
  where
    top : is_fork (top_of (answered_stands p ls)) ≡ is_fork (top_of ls)
    top =
        ap (λ xs. is_fork (top_of (answered_stands p xs))) s.0.1 ∙ fork-answered p s.0.0.top ∙ ap (λ xs. is_fork (top_of xs)) (sym s.0.1)

-- with an answer below it
strand-under : (a : List ℕ) (p : CallReply) (ls : List Stand) (below : Strands Stand) → IsStrand ls below → IsStrand ls (answered_strands a p below)
strand-under a p ls below s = (s.0, (λ isnt. ap (answered_strands a p) (s.1 isnt)), subst (λ ns. length ns ≤ most_beside) (sym (numbers-answered a p below)) s.2)

grown-step : (a : List ℕ) (p : CallReply) (m : ℕ) (ls : List Stand) (below after : Strands Stand) → IsGrown (strand m ls below after) → IsGrown (answered_strands a p below) → IsGrown (answered_strands a p after) → IsGrown (answered_strands a p (strand m ls below after))
grown-step a p m ls below after g under rest = by (is_open_in_top a (top_of ls)) (is_open a (strand_node ls (nodes_of below)))
  where
    by : (x y : Bool) → IsGrown (if x then strand m (answered_stands p ls) below after else if y then strand m ls (answered_strands a p below) after else strand m ls below (answered_strands a p after))
    by true y = (strand-here p ls below g.0, g.1, g.2)
    by false true = (strand-under a p ls below g.0, under, g.2)
    by false false = (g.0, g.1, rest)

grown-answered : (a : List ℕ) (p : CallReply) (ss : Strands Stand) → IsGrown ss → IsGrown (answered_strands a p ss)
grown-answered a p no_strands g = tt
grown-answered a p (strand m ls below after) g = grown-step a p m ls below after g (grown-answered a p below g.1) (grown-answered a p after g.2)

-- ---- of all strands

held-answered : (a : List ℕ) (p : CallReply) (b : Branch Stand) → IsGrownAt b → is_open a (node_of b) ≡ true → IsGrownAt (answered_held a p b) × (node_of (answered_held a p b) ≡ with_reply a p (node_of b))
held-answered a p b g is = by (is_open_in_top a (top_of b.frames)) refl
  where
    goal : Branch Stand → Type 0
    goal h = IsGrownAt h × (node_of h ≡ with_reply a p (node_of b))

    by : (x : Bool) → is_open_in_top a (top_of b.frames) ≡ x → goal (if is_open_in_top a (top_of b.frames) then answered_here p b else record b { below = answered_strands a p b.below })
    by true own =
        subst (λ x. goal (if x then answered_here p b else record b { below = answered_strands a p b.below })) (sym own)
        ((strand-here p b.frames b.below g.0, g.1), strand-own a p b.frames (nodes_of b.below) g.0.0 own)
    by false own =
        subst (λ x. goal (if x then answered_here p b else record b { below = answered_strands a p b.below })) (sym own) (
          (strand-under a p b.frames b.below g.0, grown-answered a p b.below g.1),
          ap (strand_node b.frames) (nodes-answered a p b.below g.1) ∙ strand-below a p b.frames (nodes_of b.below) (open-fork a b g own is),
        )

answered-root : (a : List ℕ) (p : CallReply) (r : ℕ) (b : Branch Stand) → edit (answered_held a p) (strand r b.frames b.below no_strands) r ≡ strand r (answered_held a p b).frames (answered_held a p b).below no_strands
answered-root a p r b =
    ap (λ x. let h = if x then answered_held a p b else record b { below = edit (answered_held a p) b.below r } in strand r h.frames h.below no_strands) (eq-eqb r r refl)

-- the answer stands in the tree
pub record AreAnswered (a : List ℕ) (p : CallReply) (old new : Strands Stand) : Type 0 where
  pub was : is_open a (root_node old) ≡ true
  pub grown : IsGrown new
  pub node : root_node new ≡ with_reply a p (root_node old)

pub answered-all : (a : List ℕ) (p : CallReply) (old new : Tree Stand) (r : ℕ) → numbers old.strands ≡ r ∷ [] → IsGrown old.strands → IsIn a p r old new None → AreAnswered a p old.strands new.strands
answered-all a p old new r n g is =
    let x = root-holds old r n g in
    let b = x.0 in
    let ans = is b x.1.0 in
    let made : new.strands ≡ strand r (answered_held a p b).frames (answered_held a p b).below no_strands =
    ans.1.0 ∙ ap (λ ss. edit (answered_held a p) ss r) x.1.1.1.0 ∙ answered-root a p r b in
    let held = held-answered a p b x.1.1.0 ans.0 in record {
      was = ap (is_open a) x.1.1.1.1 ∙ ans.0;
      grown = subst IsGrown (sym made) (held.0.0, held.0.1, tt);
      node = ap root_node made ∙ held.1 ∙ sym (ap (with_reply a p) x.1.1.1.1);
    }

-- where it is handed back
pub unanswered-all : (a : List ℕ) (p q : CallReply) (old new : Tree Stand) (r : ℕ) → numbers old.strands ≡ r ∷ [] → IsGrown old.strands → IsIn a p r old new (Some q) → (is_open a (root_node old.strands) ≡ false) × ((q ≡ p) × (new ≡ old))
unanswered-all a p q old new r n g is =
    let x = root-holds old r n g in
    let ans = is x.0 x.1.0 in
    (ap (is_open a) x.1.1.1.1 ∙ ans.0, ans.1)
