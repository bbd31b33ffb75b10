-- An event that is offered to a strand and to those below it.
use Rattle.std.proofs.Common.{◌≡◌, ◌∙◌, refl, sym, ap, subst, ℕ, zero, suc, ◌+◌, ◌<◌, ◌≤◌, Bool, true, false, List, [], ◌∷◌, length, Option, Some, None, arith}
use Rattle.std.specs.Prelude.{◌||◌, nat_lt, if◌then◌else◌, SomeIff}
use Rattle.std.proofs.lemmas.Bool.{eq-eqb}
use Rattle.std.proofs.lemmas.Option.{same_Some}
use Rattle.std.proofs.lemmas.Bool.Decides.{nat_tests}
use Rattle.swf_value.specs.Value.{Members}
use Rattle.swf_cloudevents.specs.declared.event.Event.{Event}
use Rattle.swf_frames.specs.Tree.{Tree, Strands, no_strands, strand, Branch, find, numbers, changed}
use Rattle.swf_frames.specs.Paths.{nth, edit_nth, edit, AreDistinct}
use Rattle.swf_frames.proofs.PathLemmas.{edit-child, edit-edit, edit-same, edit-nothing, find-edit, changed-edit}
use Rattle.swf_meaning.specs.Node.{Node, Live, Forked, Nodes, branch, Running}
use Rattle.swf_meaning.specs.Offer.{offered, offered_among, or_same, takes_by}
use Rattle.swf_meaning.specs.Parts.{kind_of, listen_in}
use Rattle.swf_meaning.specs.declared.heard.Heard.{Heard}
use Rattle.swf_stack.specs.Stands.{frames_of, top_of}
use Rattle.swf_stack.specs.Stack.{plug, top_node, forked}
use Rattle.swf_stack.specs.declared.made.Frame.{Frame}
use Rattle.swf_stack.specs.declared.made.Stand.{Stand}
use Rattle.swf_stack.specs.declared.made.Top.{Top}
use Rattle.swf_stack.specs.declared.made.Top.TheVariants as tops
use Rattle.swf_offers.specs.Offers.{heard_by, offered_top, offered_stand, offered_stands, offered_strands, offered_first, offered_here, offered_to, offered_held, IsOfferHere, IsOfferIn}
use Rattle.swf_strands.specs.Strands.{strand_node, nodes_of, node_of, root_node, is_fork, IsOne, IsStrand, IsGrown, IsGrownAt, IsHeld, most_beside}
use Rattle.swf_offers.specs.Offers.{IsOffered}
use Rattle.swf_strands.proofs.AskLemmas.{below_held, fewer-by, nodes_from, from-child, from-end}
use Rattle.swf_offers.proofs.HearLemmas.{takers-plug, offered-none, offered-some}
use Rattle.swf_strands.proofs.TreeLemmas.{nothing, fork-node, plain-node, root-holds, held-is, IsChild}

-- ---- how many take the event

fork-takers : (e : Event) (t : Top) (r : Running) → t ≡ tops.Forked r → (offered e (top_node t)).1 ≡ 0
fork-takers e t r is = ap (λ x. (offered e (top_node x)).1) is

-- those of a strand, and those below it
pub takers-node : (e : Event) (b : Branch Stand) → IsGrownAt b → (offered e (node_of b)).1 ≡ (offered e (top_node (top_of b.frames))).1 + (offered_among e (nodes_of b.below)).1
takers-node e b g = by (is_fork (top_of b.frames)) refl
  where
    by : (x : Bool) → is_fork (top_of b.frames) ≡ x → (offered e (node_of b)).1 ≡ (offered e (top_node (top_of b.frames))).1 + (offered_among e (nodes_of b.below)).1
    by true is =
        let f = fork-node b.frames (nodes_of b.below) is in
        let all : (offered e (node_of b)).1 ≡ (offered_among e (nodes_of b.below)).1 =
        ap (λ n. (offered e n).1) f.1.1 ∙ takers-plug e (frames_of b.frames) (Live f.0 (Forked (nodes_of b.below))) in
        let none = fork-takers e (top_of b.frames) f.0 f.1.0 in
        omega (arith, all, none)
    by false is =
        let all : (offered e (node_of b)).1 ≡ (offered e (top_node (top_of b.frames))).1 =
        ap (λ n. (offered e n).1) (plain-node b.frames (nodes_of b.below) is) ∙ takers-plug e (frames_of b.frames) (top_node (top_of b.frames)) in
        let none : (offered_among e (nodes_of b.below)).1 ≡ 0 = ap (λ ss. (offered_among e (nodes_of ss)).1) (g.0.1 is) in
        omega (arith, all, none)

-- ---- what an offer leaves of a strand

one-after : (e : Event) (ls : List Stand) → IsOne ls → IsOne (offered_stands e ls)
one-after e ls one = (offered_stand e one.0, ap (offered_stands e) one.1)

-- what one stand after the offer is
frames-after : (e : Event) (ls : List Stand) → frames_of (offered_stands e ls) ≡ frames_of ls
frames-after e [] = refl
frames-after e (h ∷ ls) = refl

top-after : (e : Event) (ls : List Stand) → IsOne ls → top_of (offered_stands e ls) ≡ offered_top e (top_of ls)
top-after e ls one = ap (λ hs. top_of (offered_stands e hs)) one.1 ∙ sym (ap (λ hs. offered_top e (top_of hs)) one.1)

no-fork-heard : (r : Running) (bound : Members) (hs : List Heard) (o : Option (Members × List Heard)) → is_fork (heard_by r bound hs o) ≡ false
no-fork-heard r bound hs None = refl
no-fork-heard r bound hs (Some p) = refl

-- it begins and ends no `fork`
fork-after : (e : Event) (t : Top) → is_fork (offered_top e t) ≡ is_fork t
fork-after e (tops.Fresh r v) = refl
fork-after e (tops.Done w d) = refl
fork-after e (tops.Fault p) = refl
fork-after e (tops.Waiting r n m) = refl
fork-after e (tops.Hearing r bound hs) = no-fork-heard r bound hs _
fork-after e (tops.Awaiting r a q o) = refl
fork-after e (tops.Forked r) = refl

numbers-strands : (e : Event) (ss : Strands Stand) → numbers (offered_strands e ss) ≡ numbers ss
numbers-strands e no_strands = refl
numbers-strands e (strand m ls below after) = ap (λ ns. m ∷ ns) (numbers-strands e after)

numbers-first : (e : Event) (i : ℕ) (ss : Strands Stand) → numbers (offered_first e i ss) ≡ numbers ss
numbers-first e zero ss = refl
numbers-first e (suc i) no_strands = refl
numbers-first e (suc i) (strand m ls below after) = ap (λ ns. m ∷ ns) (numbers-first e i after)

stands-after : (e : Event) (ls : List Stand) (ss xs : Strands Stand) → numbers xs ≡ numbers ss → (ss ≡ no_strands → xs ≡ no_strands) → IsStrand ls ss → IsStrand (offered_stands e ls) xs
stands-after e ls ss xs same none s = (
  one-after e ls s.0,
  (λ isnt. none (s.1 (sym (ap is_fork (top-after e ls s.0) ∙ fork-after e (top_of ls)) ∙ isnt))),
  subst (λ ns. length ns ≤ most_beside) (sym same) s.2,
)

no-strands-after : (e : Event) (ss : Strands Stand) → ss ≡ no_strands → offered_strands e ss ≡ no_strands
no-strands-after e ss isnt = ap (offered_strands e) isnt

no-first-after : (e : Event) (i : ℕ) (ss : Strands Stand) → ss ≡ no_strands → offered_first e i ss ≡ no_strands
no-first-after e zero ss isnt = isnt
no-first-after e (suc i) ss isnt = ap (offered_first e (suc i)) isnt

grown-strands : (e : Event) (ss : Strands Stand) → IsGrown ss → IsGrown (offered_strands e ss)
grown-strands e no_strands g = tt
grown-strands e (strand m ls below after) g = (
  stands-after e ls below (offered_strands e below) (numbers-strands e below) (no-strands-after e below) g.0,
  grown-strands e below g.1,
  grown-strands e after g.2,
)

grown-first : (e : Event) (i : ℕ) (ss : Strands Stand) → IsGrown ss → IsGrown (offered_first e i ss)
grown-first e zero ss g = g
grown-first e (suc i) no_strands g = tt
grown-first e (suc i) (strand m ls below after) g = (
  stands-after e ls below (offered_strands e below) (numbers-strands e below) (no-strands-after e below) g.0,
  grown-strands e below g.1,
  grown-first e i after g.2,
)

grown-to : (e : Event) (i : ℕ) (b : Branch Stand) → IsGrownAt b → IsGrownAt (offered_to e i b)
grown-to e i b g = (
  stands-after e b.frames b.below (offered_first e i b.below) (numbers-first e i b.below) (no-first-after e i b.below) g.0,
  grown-first e i b.below g.1,
)

-- those from there on stand as they did
nth-first : (e : Event) (i : ℕ) (ss : Strands Stand) → nth (offered_first e i ss) i ≡ nth ss i
nth-first e zero ss = refl
nth-first e (suc i) no_strands = refl
nth-first e (suc i) (strand m ls below after) = nth-first e i after

edit-first : (e : Event) (i : ℕ) (ss : Strands Stand) → edit_nth (offered_held e) (offered_first e i ss) i ≡ offered_first e (suc i) ss
edit-first e zero no_strands = refl
edit-first e zero (strand m ls below after) = refl
edit-first e (suc i) no_strands = refl
edit-first e (suc i) (strand m ls below after) = ap (strand m (offered_stands e ls) (offered_strands e below)) (edit-first e i after)

first-all : (e : Event) (i : ℕ) (ss : Strands Stand) → nth ss i ≡ None → offered_first e i ss ≡ offered_strands e ss
first-all e zero no_strands n = refl
first-all e zero (strand m ls below after) n = absurd (nothing _ (sym n))
first-all e (suc i) no_strands n = refl
first-all e (suc i) (strand m ls below after) n = ap (strand m (offered_stands e ls) (offered_strands e below)) (first-all e i after n)

-- ---- to a strand alone

same-stands : (e : Event) (ls : List Stand) → IsOne ls → offered_top e (top_of ls) ≡ top_of ls → offered_stands e ls ≡ ls
same-stands e ls one same =
    let here : offered_top e one.0.top ≡ one.0.top = sym (ap (λ hs. offered_top e (top_of hs)) one.1) ∙ same ∙ ap top_of one.1 in
    ap (offered_stands e) one.1 ∙ (λ i. (record one.0 { top = here i }) ∷ []) ∙ sym one.1

abbrev pub IsHere : Event → ℕ → Tree Stand → Tree Stand → ℕ → Type 0
IsHere e n old new k = (b : Branch Stand) → find old.strands n ≡ Some b → IsOfferHere e n b old new k

pub here-none : (e : Event) (t : Tree Stand) (n : ℕ) (top : Top) → IsHeld t n → ((b : Branch Stand) → find t.strands n ≡ Some b → top ≡ top_of b.frames) → IsOffered top e None → IsHere e n t t 0
here-none e t n top held is off b f =
    let g = held-is t n b held f in
    let same : offered_top e (top_of b.frames) ≡ top_of b.frames = subst (λ x. offered_top e x ≡ x) (is b f) (offered-none e top off) in
    let stays : offered_here e b ≡ b = λ i. record { frames = same-stands e b.frames g.0.0 same i; below = b.below } in (
      sym (edit-nothing (offered_here e) t.strands n b held.0 f stays),
      (sym (ap (λ (o : Node × ℕ). o.1) (subst (λ x. offered e (top_node x) ≡ (top_node x, 0)) (is b f) off)), held.0),
    )

pub here-some : (e : Event) (t new : Tree Stand) (n : ℕ) (h : Stand) (x : Top) (ls : List Stand) → IsHeld t n → ((b : Branch Stand) → find t.strands n ≡ Some b → b.frames ≡ h ∷ []) → IsOffered h.top e (Some x) → ls ≡ (record h { top = x }) ∷ [] →
    new.strands ≡ changed (λ old. ls) t.strands n → AreDistinct new.strands → IsHere e n t new 1
here-some e t new n h x ls held on off is made distinct b f =
    let same : offered_top e h.top ≡ x = offered-some e h.top x off in
    let frames : ls ≡ offered_stands e b.frames = is ∙ ap (λ y. (record h { top = y }) ∷ []) (sym same) ∙ ap (offered_stands e) (sym (on b f)) in
    let put : record { frames = ls; below = b.below } ≡ offered_here e b = λ i. record { frames = frames i; below = b.below } in (
      made ∙ changed-edit (λ old. ls) t.strands n held.0 ∙ edit-same (λ (a : Branch Stand). record a { frames = ls }) (offered_here e) t.strands n b held.0 f put,
      (sym (ap (λ (o : Node × ℕ). o.1) (ap (λ ls. offered e (top_node (top_of ls))) (on b f) ∙ off)), distinct),
    )

-- ---- to those below it, one after another

-- the first of its branches have the event as well
pub record IsSoFar (e : Event) (n : ℕ) (old : Tree Stand) (i : ℕ) (new : Tree Stand) (k : ℕ) : Type 0 where
  pub strands : new.strands ≡ edit (offered_to e i) old.strands n
  pub distinct : AreDistinct new.strands
  pub takers : (b : Branch Stand) → find old.strands n ≡ Some b → k + (offered_among e (nodes_from i (nodes_of b.below))).1 ≡ (offered e (node_of b)).1

pub far-first : (e : Event) (n : ℕ) (old new : Tree Stand) (k : ℕ) → IsHeld old n → IsHere e n old new k → IsSoFar e n old 0 new k
far-first e n old new k held here =
    let b = held.1.0 in
    let f = held.1.1.0 in
    let h = here b f in record {
      strands = h.0;
      distinct = h.1.1;
      takers = λ b f. ap (λ m. m + (offered_among e (nodes_of b.below)).1) (here b f).1.0 ∙ sym (takers-node e b (held-is old n b held f));
    }

-- the strand is held still
pub far-found : (e : Event) (n : ℕ) (old : Tree Stand) (i : ℕ) (new : Tree Stand) (k : ℕ) → IsHeld old n → IsSoFar e n old i new k → (b : Branch Stand) → find old.strands n ≡ Some b → find new.strands n ≡ Some (offered_to e i b)
far-found e n old i new k held far b f = ap (λ ss. find ss n) far.strands ∙ find-edit (offered_to e i) old.strands n b held.0 f

pub far-held : (e : Event) (n : ℕ) (old : Tree Stand) (i : ℕ) (new : Tree Stand) (k : ℕ) → IsHeld old n → IsSoFar e n old i new k → IsHeld new n
far-held e n old i new k held far =
    let b = held.1.0 in
    (far.distinct, (offered_to e i b, (far-found e n old i new k held far b held.1.1.0, grown-to e i b held.1.1.1)))

-- a child stands as it did
far-child : (e : Event) (n : ℕ) (old : Tree Stand) (i : ℕ) (new : Tree Stand) (k c : ℕ) → IsHeld old n → IsSoFar e n old i new k → IsChild new n i c →
    (b : Branch Stand) → find old.strands n ≡ Some b → (h : Branch Stand) × ((nth b.below i ≡ Some (record { number = c; held = h })) × (find new.strands c ≡ Some h))
far-child e n old i new k c held far child b f =
    let h = child (offered_to e i b) (far-found e n old i new k held far b f) in
    (h.0, (sym (nth-first e i b.below) ∙ h.1.0, h.1.1.0))

pub far-fewer : (e : Event) (n : ℕ) (old : Tree Stand) (i : ℕ) (new : Tree Stand) (k c : ℕ) → IsHeld old n → IsSoFar e n old i new k → IsChild new n i c → below_held new c < below_held old n
far-fewer e n old i new k c held far child =
    let b = held.1.0 in
    let f = held.1.1.0 in
    let h = far-child e n old i new k c held far child b f in
    fewer-by old new n i c b h.0 f h.1.0 h.1.1

-- a sum that fits
pub added : (o : Option ℕ) (x v : ℕ) (P : Type 0) → o ≡ Some x → SomeIff o P v → v ≡ x
added None x v P e s = absurd (nothing x e)
added (Some y) x v P e s = sym s.1 ∙ same_Some y x e

abbrev pub IsIn : Event → ℕ → Tree Stand → Tree Stand → ℕ → Type 0
IsIn e n old new k = (b : Branch Stand) → find old.strands n ≡ Some b → IsOfferIn e n b old new k

far-strands : (e : Event) (n : ℕ) (old : Tree Stand) (i : ℕ) (new more : Tree Stand) (k c : ℕ) (b : Branch Stand) → IsHeld old n → IsSoFar e n old i new k → IsChild new n i c → find old.strands n ≡ Some b →
    more.strands ≡ edit (offered_held e) new.strands c → more.strands ≡ edit (offered_to e (suc i)) old.strands n
far-strands e n old i new more k c b held far child f is =
    let a = offered_to e i b in
    let found = far-found e n old i new k held far b f in
    let h = child a found in
    let put : Branch Stand → Branch Stand = λ x. record x { below = edit_nth (offered_held e) x.below i } in
    is
    ∙ edit-child (offered_held e) new.strands n i a (record { number = c; held = h.0 }) far.distinct found h.1.0
    ∙ ap (λ ss. edit put ss n) far.strands
    ∙ edit-edit put (offered_to e i) old.strands n
    ∙ edit-same (λ (x : Branch Stand). put (offered_to e i x)) (offered_to e (suc i)) old.strands n b held.0 f (λ j. record { frames = offered_stands e b.frames; below = edit-first e i b.below j })

pub far-more : (e : Event) (n : ℕ) (old : Tree Stand) (i : ℕ) (new more : Tree Stand) (k c m : ℕ) → IsHeld old n → IsSoFar e n old i new k → IsChild new n i c → IsIn e c new more m → IsSoFar e n old (i + 1) more (k + m)
far-more e n old i new more k c m held far child is =
    let same : suc i ≡ i + 1 = omega arith in
    let b = held.1.0 in
    let f = held.1.1.0 in
    let o = far-child e n old i new k c held far child b f in
    let off = is o.0 o.1.1 in record {
      strands = far-strands e n old i new more k c b held far child f off.0 ∙ ap (λ j. edit (offered_to e j) old.strands n) same;
      distinct = off.1.1;
      takers = λ b f.
          let h = far-child e n old i new k c held far child b f in
          let all = far.takers b f in
          let here = (is h.0 h.1.1).1.0 in
          let from : (offered_among e (nodes_from i (nodes_of b.below))).1 ≡ (offered e (node_of h.0)).1 + (offered_among e (nodes_from (suc i) (nodes_of b.below))).1 = ap (λ ns. (offered_among e ns).1) (from-child b i (record { number = c; held = h.0 }) h.1.0) in
          let next : (offered_among e (nodes_from (suc i) (nodes_of b.below))).1 ≡ (offered_among e (nodes_from (i + 1) (nodes_of b.below))).1 = ap (λ j. (offered_among e (nodes_from j (nodes_of b.below))).1) same in
          omega (arith, all, here, from, next);
    }

pub far-all : (e : Event) (n : ℕ) (old : Tree Stand) (i : ℕ) (new : Tree Stand) (k : ℕ) → IsHeld old n → IsSoFar e n old i new k → ((b : Branch Stand) → find new.strands n ≡ Some b → nth b.below i ≡ None) → IsIn e n old new k
far-all e n old i new k held far none b f =
    let end : nth b.below i ≡ None = sym (nth-first e i b.below) ∙ none (offered_to e i b) (far-found e n old i new k held far b f) in
    let zero-left : (offered_among e (nodes_from i (nodes_of b.below))).1 ≡ 0 = ap (λ ns. (offered_among e ns).1) (from-end b i end) in
    let all = far.takers b f in
    let same : offered_to e i b ≡ offered_held e b = λ j. record { frames = offered_stands e b.frames; below = first-all e i b.below end j } in (
      far.strands ∙ edit-same (offered_to e i) (offered_held e) old.strands n b held.0 f same,
      (omega (arith, all, zero-left), far.distinct),
    )

-- ---- the tree after the offer

offered-plug : (e : Event) (fs : List Frame) (n : Node) → (offered e (plug fs n)).0 ≡ plug fs (offered e n).0
offered-plug e [] n = refl
offered-plug e (f ∷ fs) n = ap (λ m. plug (f ∷ []) m) (offered-plug e fs n)

heard-node-by : (r : Running) (bound : Members) (hs : List Heard) (o : Option (Members × List Heard)) (ns : Nodes) → forked (top_node (heard_by r bound hs o)) ns ≡ Live r (or_same bound hs o).0
heard-node-by r bound hs None ns = refl
heard-node-by r bound hs (Some p) ns = refl

top-offered : (e : Event) (t : Top) (ns : Nodes) → is_fork t ≡ false → forked (top_node (offered_top e t)) ns ≡ (offered e (top_node t)).0
top-offered e (tops.Fresh r v) ns isnt = refl
top-offered e (tops.Done w d) ns isnt = refl
top-offered e (tops.Fault p) ns isnt = refl
top-offered e (tops.Waiting r None m) ns isnt = refl
top-offered e (tops.Waiting r (Some n) m) ns isnt = refl
top-offered e (tops.Hearing r bound hs) ns isnt = heard-node-by r bound hs (takes_by (listen_in (kind_of r.task)) bound hs e) ns
top-offered e (tops.Awaiting r a q o) ns isnt = refl
top-offered e (tops.Forked r) ns isnt = cc

stands-offered : (e : Event) (ls : List Stand) (ns : Nodes) → IsOne ls → strand_node (offered_stands e ls) ns ≡ plug (frames_of ls) (forked (top_node (offered_top e (top_of ls))) ns)
stands-offered e ls ns one =
    ap (λ fs. plug fs (forked (top_node (top_of (offered_stands e ls))) ns)) (frames-after e ls) ∙ ap (λ t. plug (frames_of ls) (forked (top_node t) ns)) (top-after e ls one)

-- of a strand, where those below it have the event
strand-offered : (e : Event) (ls : List Stand) (ns ms : Nodes) → IsOne ls → ms ≡ (offered_among e ns).0 → strand_node (offered_stands e ls) ms ≡ (offered e (strand_node ls ns)).0
strand-offered e ls ns ms one h = by (is_fork (top_of ls)) refl
  where
    by : (x : Bool) → is_fork (top_of ls) ≡ x → strand_node (offered_stands e ls) ms ≡ (offered e (strand_node ls ns)).0
    by true is =
        let f = fork-node ls ns is in
        stands-offered e ls ms one
        ∙ ap (λ t. plug (frames_of ls) (forked (top_node (offered_top e t)) ms)) f.1.0
        ∙ ap (λ xs. plug (frames_of ls) (Live f.0 (Forked xs))) h
        ∙ sym (ap (λ n. (offered e n).0) f.1.1 ∙ offered-plug e (frames_of ls) (Live f.0 (Forked ns)))
    by false is =
        stands-offered e ls ms one
        ∙ ap (plug (frames_of ls)) (top-offered e (top_of ls) ms is)
        ∙ sym (ap (λ n. (offered e n).0) (plain-node ls ns is) ∙ offered-plug e (frames_of ls) (top_node (top_of ls)))

nodes-offered : (e : Event) (ss : Strands Stand) → IsGrown ss → nodes_of (offered_strands e ss) ≡ (offered_among e (nodes_of ss)).0
nodes-offered e no_strands g = refl
nodes-offered e (strand m ls below after) g =
    let here = strand-offered e ls (nodes_of below) (nodes_of (offered_strands e below)) g.0.0 (nodes-offered e below g.1) in
    let rest = nodes-offered e after g.2 in
    λ i. branch (here i) (rest i)

offered-root : (e : Event) (r : ℕ) (b : Branch Stand) → edit (offered_held e) (strand r b.frames b.below no_strands) r ≡ strand r (offered_stands e b.frames) (offered_strands e b.below) no_strands
offered-root e r b = ap (λ x. let h = if x then offered_held e b else record b { below = edit (offered_held e) b.below r } in strand r h.frames h.below no_strands) (eq-eqb r r refl)

-- of all strands
pub record AreOffered (e : Event) (old new : Strands Stand) (k : ℕ) : Type 0 where
  pub grown : IsGrown new
  pub node : root_node new ≡ (offered e (root_node old)).0
  pub takers : k ≡ (offered e (root_node old)).1

pub offered-all : (e : Event) (old new : Tree Stand) (r k : ℕ) → numbers old.strands ≡ r ∷ [] → IsGrown old.strands → IsIn e r old new k → AreOffered e old.strands new.strands k
offered-all e old new r k n g is =
    let x = root-holds old r n g in
    let b = x.0 in
    let off = is b x.1.0 in
    let made : new.strands ≡ strand r (offered_stands e b.frames) (offered_strands e b.below) no_strands = off.0 ∙ ap (λ ss. edit (offered_held e) ss r) x.1.1.1.0 ∙ offered-root e r b in
    let stands = stands-after e b.frames b.below (offered_strands e b.below) (numbers-strands e b.below) (no-strands-after e b.below) x.1.1.0.0 in record {
      grown = subst IsGrown (sym made) (stands, grown-strands e b.below x.1.1.0.1, tt);
      node = ap root_node made ∙ strand-offered e b.frames (nodes_of b.below) (nodes_of (offered_strands e b.below)) x.1.1.0.0.0 (nodes-offered e b.below x.1.1.0.1) ∙ sym (ap (λ n. (offered e n).0) x.1.1.1.1);
      takers = off.1.0 ∙ sym (ap (λ n. (offered e n).1) x.1.1.1.1);
    }

-- ---- whether one of them takes it

pub some-more : (j k : ℕ) → nat_lt 0 (j + k) ≡ (nat_lt 0 j || nat_lt 0 k)
some-more zero k = grind (arith, nat_tests)
some-more (suc j) k = grind (arith, nat_tests)

-- those before this one do not take it
abbrev pub IsUnheard : Event → Tree Stand → ℕ → ℕ → Type 0
IsUnheard e t n i = (b : Branch Stand) → find t.strands n ≡ Some b → nat_lt 0 (offered e (node_of b)).1 ≡ nat_lt 0 (offered_among e (nodes_from i (nodes_of b.below))).1

abbrev pub IsHeardBy : Event → Tree Stand → ℕ → Bool → Type 0
IsHeardBy e t n x = (b : Branch Stand) → find t.strands n ≡ Some b → x ≡ nat_lt 0 (offered e (node_of b)).1

heard-node : (e : Event) (t : Tree Stand) (n : ℕ) (top : Top) (x : Bool) → IsHeld t n → ((b : Branch Stand) → find t.strands n ≡ Some b → top ≡ top_of b.frames) → x ≡ nat_lt 0 (offered e (top_node top)).1 →
    (b : Branch Stand) → find t.strands n ≡ Some b → nat_lt 0 (offered e (node_of b)).1 ≡ (x || nat_lt 0 (offered_among e (nodes_of b.below)).1)
heard-node e t n top x held is here b f =
    ap (nat_lt 0) (takers-node e b (held-is t n b held f)) ∙ some-more (offered e (top_node (top_of b.frames))).1 (offered_among e (nodes_of b.below)).1
    ∙ ap (λ y. y || nat_lt 0 (offered_among e (nodes_of b.below)).1) (sym (here ∙ ap (λ y. nat_lt 0 (offered e (top_node y)).1) (is b f)))

pub heard-here : (e : Event) (t : Tree Stand) (n : ℕ) (top : Top) (x : Bool) → IsHeld t n → ((b : Branch Stand) → find t.strands n ≡ Some b → top ≡ top_of b.frames) → x ≡ nat_lt 0 (offered e (top_node top)).1 → x ≡ true → IsHeardBy e t n true
heard-here e t n top x held is here so b f = sym (heard-node e t n top x held is here b f ∙ ap (λ y. y || nat_lt 0 (offered_among e (nodes_of b.below)).1) so)

pub unheard-here : (e : Event) (t : Tree Stand) (n : ℕ) (top : Top) (x : Bool) → IsHeld t n → ((b : Branch Stand) → find t.strands n ≡ Some b → top ≡ top_of b.frames) → x ≡ nat_lt 0 (offered e (top_node top)).1 → x ≡ false → IsUnheard e t n 0
unheard-here e t n top x held is here isnt b f = heard-node e t n top x held is here b f ∙ ap (λ y. y || nat_lt 0 (offered_among e (nodes_of b.below)).1) isnt

heard-child : (e : Event) (t : Tree Stand) (n i c : ℕ) (x : Bool) → IsChild t n i c → IsUnheard e t n i → IsHeardBy e t c x →
    (b : Branch Stand) → find t.strands n ≡ Some b → nat_lt 0 (offered e (node_of b)).1 ≡ (x || nat_lt 0 (offered_among e (nodes_from (suc i) (nodes_of b.below))).1)
heard-child e t n i c x child un of b f =
    let h = child b f in
    un b f ∙ ap (λ ns. nat_lt 0 (offered_among e ns).1) (from-child b i (record { number = c; held = h.0 }) h.1.0)
    ∙ some-more (offered e (node_of h.0)).1 (offered_among e (nodes_from (suc i) (nodes_of b.below))).1
    ∙ ap (λ y. y || nat_lt 0 (offered_among e (nodes_from (suc i) (nodes_of b.below))).1) (sym (of h.0 h.1.1.0))

pub heard-found : (e : Event) (t : Tree Stand) (n i c : ℕ) (x : Bool) → IsChild t n i c → IsUnheard e t n i → IsHeardBy e t c x → x ≡ true → IsHeardBy e t n true
heard-found e t n i c x child un of so b f = sym (heard-child e t n i c x child un of b f ∙ ap (λ y. y || nat_lt 0 (offered_among e (nodes_from (suc i) (nodes_of b.below))).1) so)

pub unheard-more : (e : Event) (t : Tree Stand) (n i c : ℕ) (x : Bool) → IsChild t n i c → IsUnheard e t n i → IsHeardBy e t c x → x ≡ false → IsUnheard e t n (i + 1)
unheard-more e t n i c x child un of isnt b f =
    let same : suc i ≡ i + 1 = omega arith in
    heard-child e t n i c x child un of b f ∙ ap (λ y. y || nat_lt 0 (offered_among e (nodes_from (suc i) (nodes_of b.below))).1) isnt
    ∙ ap (λ j. nat_lt 0 (offered_among e (nodes_from j (nodes_of b.below))).1) same

pub unheard-none : (e : Event) (t : Tree Stand) (n i : ℕ) → ((b : Branch Stand) → find t.strands n ≡ Some b → nth b.below i ≡ None) → IsUnheard e t n i → IsHeardBy e t n false
unheard-none e t n i none un b f = sym (un b f ∙ ap (λ ns. nat_lt 0 (offered_among e ns).1) (from-end b i (none b f)))
