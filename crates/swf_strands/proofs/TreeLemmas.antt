-- The tree that strands stand for, by the ways to them.
use Rattle.std.proofs.Common.{◌≡◌, ◌∙◌, refl, sym, ap, subst, ℕ, zero, suc, ◌≤◌, Bool, true, false, List, [], ◌∷◌, length, get_or, Option, Some, None}
use Rattle.std.proofs.lemmas.Option.{same_Some}
use Rattle.std.proofs.lemmas.Bool.{eq-eqb, cond-true}
use Rattle.std.specs.Prelude.{option_map, option_and_then, IfSome, IfNone, ◌==◌}
use Rattle.swf_frames.specs.Tree.{Tree, Strands, no_strands, strand, Branch, find, numbers, child}
use Rattle.swf_frames.specs.Paths.{Found, nth, walk, edit_nth, along, AreDistinct}
use Rattle.swf_frames.proofs.PathLemmas.{child-nth, find-child}
use Rattle.swf_meaning.specs.Fork.{put}
use Rattle.swf_meaning.specs.Node.{Node, Live, Forked, Nodes, no_nodes, branch, Running}
use Rattle.swf_stack.specs.Stands.{frames_of, top_of}
use Rattle.swf_stack.specs.Stack.{plug, top_node, forked, waiting}
use Rattle.swf_stack.specs.declared.made.Frame.{Frame}
use Rattle.swf_stack.specs.declared.made.Stand.{Stand}
use Rattle.swf_stack.specs.declared.made.Top.{Top}
use Rattle.swf_stack.specs.declared.made.Top.TheVariants as tops
use Rattle.swf_strands.specs.Strands.{strand_node, nodes_of, node_of, root_node, is_fork, IsGrown, IsGrownAt, IsHeld, most_beside}
use Rattle.swf_strands.specs.Ways.{at, at_among, replaced, replaced_among}

pub nothing : {T : Type 0} (x : T) → None ≡ Some x → ⊥
nothing x e = cc

pub yes-no : true ≡ false → ⊥
yes-no e = cc

-- ---- one of those beside each other

abbrev pub nth_node : Nodes → ℕ → Option Node
nth_node no_nodes i = None
nth_node (branch n ns) zero = Some n
nth_node (branch n ns) (suc i) = nth_node ns i

pub nth_node-of : (ss : Strands Stand) (i : ℕ) (c : Found Stand) → nth ss i ≡ Some c → nth_node (nodes_of ss) i ≡ Some (node_of c.held)
nth_node-of no_strands i c e = absurd (nothing c e)
nth_node-of (strand m ls below after) zero c e = ap (λ (d : Found Stand). Some (node_of d.held)) (same_Some _ c e)
nth_node-of (strand m ls below after) (suc i) c e = nth_node-of after i c e

pub nth_node-none : (ss : Strands Stand) (i : ℕ) → nth ss i ≡ None → nth_node (nodes_of ss) i ≡ None
nth_node-none no_strands i e = refl
nth_node-none (strand m ls below after) zero e = absurd (nothing _ (sym e))
nth_node-none (strand m ls below after) (suc i) e = nth_node-none after i e

pub grown-nth : (ss : Strands Stand) (i : ℕ) (c : Found Stand) → IsGrown ss → nth ss i ≡ Some c → IsGrownAt c.held
grown-nth no_strands i c g e = absurd (nothing c e)
grown-nth (strand m ls below after) zero c g e = subst (λ (d : Found Stand). IsGrownAt d.held) (same_Some _ c e) (g.0, g.1)
grown-nth (strand m ls below after) (suc i) c g e = grown-nth after i c g.2 e

-- ---- what stands innermost, and what stands below it

fork-of : (t : Top) → is_fork t ≡ true → (r : Running) × (t ≡ tops.Forked r)
fork-of (tops.Fresh r v) e = absurd (yes-no (sym e))
fork-of (tops.Done w f) e = absurd (yes-no (sym e))
fork-of (tops.Fault p) e = absurd (yes-no (sym e))
fork-of (tops.Waiting r n m) e = absurd (yes-no (sym e))
fork-of (tops.Hearing r b hs) e = absurd (yes-no (sym e))
fork-of (tops.Awaiting r a q o) e = absurd (yes-no (sym e))
fork-of (tops.Forked r) e = (r, refl)

none-in : (i : ℕ) (c : Found Stand) (ss : Strands Stand) → ss ≡ no_strands → nth ss i ≡ Some c → ⊥
none-in i c ss n e = nothing c (sym (ap (λ xs. nth xs i) n) ∙ e)

fork-by : (b : Bool) (below : Strands Stand) (i : ℕ) (c : Found Stand) → (b ≡ false → below ≡ no_strands) → nth below i ≡ Some c → b ≡ true
fork-by true below i c h e = refl
fork-by false below i c h e = absurd (none-in i c below (h refl) e)

-- a strand with others below it holds a `fork`
pub has-fork : (b : Branch Stand) (i : ℕ) (c : Found Stand) → IsGrownAt b → nth b.below i ≡ Some c → is_fork (top_of b.frames) ≡ true
has-fork b i c g e = fork-by (is_fork (top_of b.frames)) b.below i c g.0.1 e

-- its tree
pub fork-node : (ls : List Stand) (ns : Nodes) → is_fork (top_of ls) ≡ true → (r : Running) × ((top_of ls ≡ tops.Forked r) × (strand_node ls ns ≡ plug (frames_of ls) (Live r (Forked ns))))
fork-node ls ns e =
    let f = fork-of (top_of ls) e in
    (f.0, (f.1, ap (λ t. plug (frames_of ls) (forked (top_node t) ns)) f.1))

pub waiting-forked : (r : Running) (n : Option ℕ) (m : ℕ) (ns : Nodes) → forked (Live r (waiting n m)) ns ≡ Live r (waiting n m)
waiting-forked r None m ns = refl
waiting-forked r (Some k) m ns = refl

no-fork-node : (t : Top) (ns : Nodes) → is_fork t ≡ false → forked (top_node t) ns ≡ top_node t
no-fork-node (tops.Fresh r v) ns e = refl
no-fork-node (tops.Done w f) ns e = refl
no-fork-node (tops.Fault p) ns e = refl
no-fork-node (tops.Waiting r n m) ns e = waiting-forked r n m ns
no-fork-node (tops.Hearing r b hs) ns e = refl
no-fork-node (tops.Awaiting r a q o) ns e = refl
no-fork-node (tops.Forked r) ns e = absurd (yes-no e)

-- what holds no `fork` is what stands on it
pub plain-node : (ls : List Stand) (ns : Nodes) → is_fork (top_of ls) ≡ false → strand_node ls ns ≡ plug (frames_of ls) (top_node (top_of ls))
plain-node ls ns e = ap (plug (frames_of ls)) (no-fork-node (top_of ls) ns e)

-- ---- the way to a strand

pub at-plug : (i : ℕ) (is : List ℕ) (fs : List Frame) (n : Node) → at (i ∷ is) (plug fs n) ≡ at (i ∷ is) n
at-plug i is [] n = refl
at-plug i is (f ∷ fs) n = at-plug i is fs n

pub at_among-nth : (i : ℕ) (is : List ℕ) (ns : Nodes) (n : Node) → nth_node ns i ≡ Some n → at_among i is ns ≡ at is n
at_among-nth i is no_nodes n e = absurd (nothing n e)
at_among-nth zero is (branch m ns) n e = ap (at is) (same_Some m n e)
at_among-nth (suc i) is (branch m ns) n e = at_among-nth i is ns n e

at_among-none : (i : ℕ) (is : List ℕ) (ns : Nodes) → nth_node ns i ≡ None → at_among i is ns ≡ None
at_among-none zero is no_nodes e = refl
at_among-none (suc i) is no_nodes e = refl
at_among-none zero is (branch m ns) e = absurd (nothing m (sym e))
at_among-none (suc i) is (branch m ns) e = at_among-none i is ns e

-- a branch
pub at-child : (b : Branch Stand) (i : ℕ) (is : List ℕ) (c : Found Stand) → IsGrownAt b → nth b.below i ≡ Some c → at (i ∷ is) (node_of b) ≡ at is (node_of c.held)
at-child b i is c g e =
    let f = fork-node b.frames (nodes_of b.below) (has-fork b i c g e) in
    ap (at (i ∷ is)) f.1.1 ∙ at-plug i is (frames_of b.frames) (Live f.0 (Forked (nodes_of b.below))) ∙ at_among-nth i is (nodes_of b.below) (node_of c.held) (nth_node-of b.below i c e)

at-waiting : (i : ℕ) (is : List ℕ) (r : Running) (n : Option ℕ) (m : ℕ) → at (i ∷ is) (Live r (waiting n m)) ≡ None
at-waiting i is r None m = refl
at-waiting i is r (Some k) m = refl

at-top : (i : ℕ) (is : List ℕ) (t : Top) (ns : Nodes) → nth_node ns i ≡ None → at (i ∷ is) (forked (top_node t) ns) ≡ None
at-top i is (tops.Fresh r v) ns e = refl
at-top i is (tops.Done w f) ns e = refl
at-top i is (tops.Fault p) ns e = refl
at-top i is (tops.Waiting r n m) ns e = ap (at (i ∷ is)) (waiting-forked r n m ns) ∙ at-waiting i is r n m
at-top i is (tops.Hearing r b hs) ns e = refl
at-top i is (tops.Awaiting r a q o) ns e = refl
at-top i is (tops.Forked r) ns e = at_among-none i is ns e

pub at-no-child : (b : Branch Stand) (i : ℕ) (is : List ℕ) → nth b.below i ≡ None → at (i ∷ is) (node_of b) ≡ None
at-no-child b i is e = at-plug i is (frames_of b.frames) (forked (top_node (top_of b.frames)) (nodes_of b.below)) ∙ at-top i is (top_of b.frames) (nodes_of b.below) (nth_node-none b.below i e)

-- the first place of a way
pub step-in : (o : Option (Found Stand)) (is : List ℕ) (c : Found Stand) → option_and_then (λ d. walk d is) o ≡ Some c → (d : Found Stand) × ((o ≡ Some d) × (walk d is ≡ Some c))
step-in None is c e = absurd (nothing c e)
step-in (Some d) is c e = (d, (refl, e))

pub at-walk : (is : List ℕ) (r c : Found Stand) → IsGrownAt r.held → walk r is ≡ Some c → at is (node_of r.held) ≡ Some (node_of c.held)
at-walk [] r c g e = ap (λ (d : Found Stand). Some (node_of d.held)) (same_Some r c e)
at-walk (i ∷ is) r c g e =
    let d = step-in (nth r.held.below i) is c e in
    at-child r.held i is d.0 g d.1.0 ∙ at-walk is d.0 c (grown-nth r.held.below i d.0 g.1 d.1.0) d.1.1

pub grown-walk : (is : List ℕ) (r c : Found Stand) → IsGrownAt r.held → walk r is ≡ Some c → IsGrownAt c.held
grown-walk [] r c g e = subst (λ (d : Found Stand). IsGrownAt d.held) (same_Some r c e) g
grown-walk (i ∷ is) r c g e =
    let d = step-in (nth r.held.below i) is c e in
    grown-walk is d.0 c (grown-nth r.held.below i d.0 g.1 d.1.0) d.1.1

pub at-nowhere : (is : List ℕ) (r : Found Stand) → IsGrownAt r.held → walk r is ≡ None → at is (node_of r.held) ≡ None
at-nowhere [] r g e = absurd (nothing r (sym e))
at-nowhere (i ∷ is) r g e = by (nth r.held.below i) refl e (λ d h. at-nowhere is d (grown-nth r.held.below i d g.1 h))
  where
    by : (o : Option (Found Stand)) → nth r.held.below i ≡ o → option_and_then (λ d. walk d is) o ≡ None → ((d : Found Stand) → nth r.held.below i ≡ Some d → walk d is ≡ None → at is (node_of d.held) ≡ None) → at (i ∷ is) (node_of r.held) ≡ None
    by None h w rest = at-no-child r.held i is h
    by (Some d) h w rest = at-child r.held i is d g h ∙ rest d h w

-- ---- a strand put anew

pub nodes_of-edit : (h : Branch Stand → Branch Stand) (ss : Strands Stand) (i : ℕ) (c : Found Stand) → nth ss i ≡ Some c → nodes_of (edit_nth h ss i) ≡ put (nodes_of ss) i (node_of (h c.held))
nodes_of-edit h no_strands i c e = absurd (nothing c e)
nodes_of-edit h (strand m ls below after) zero c e = ap (λ (d : Found Stand). branch (node_of (h d.held)) (nodes_of after)) (same_Some _ c e)
nodes_of-edit h (strand m ls below after) (suc i) c e = ap (branch (strand_node ls (nodes_of below))) (nodes_of-edit h after i c e)

numbers-edit : (h : Branch Stand → Branch Stand) (ss : Strands Stand) (i : ℕ) → numbers (edit_nth h ss i) ≡ numbers ss
numbers-edit h no_strands i = refl
numbers-edit h (strand m ls below after) zero = refl
numbers-edit h (strand m ls below after) (suc i) = ap (λ ns. m ∷ ns) (numbers-edit h after i)

grown-edit : (h : Branch Stand → Branch Stand) (ss : Strands Stand) (i : ℕ) (c : Found Stand) → nth ss i ≡ Some c → IsGrown ss → IsGrownAt (h c.held) → IsGrown (edit_nth h ss i)
grown-edit h no_strands i c e g n = absurd (nothing c e)
grown-edit h (strand m ls below after) zero c e g n =
    let here = subst (λ (d : Found Stand). IsGrownAt (h d.held)) (sym (same_Some _ c e)) n in (here.0, here.1, g.2)
grown-edit h (strand m ls below after) (suc i) c e g n = (g.0, g.1, grown-edit h after i c e g.2 n)

pub grown-along : (is : List ℕ) (h : Branch Stand → Branch Stand) (r c : Found Stand) → IsGrownAt r.held → walk r is ≡ Some c → IsGrownAt (h c.held) → IsGrownAt (along is h r.held)
grown-along [] h r c g e n = subst (λ (d : Found Stand). IsGrownAt (h d.held)) (sym (same_Some r c e)) n
grown-along (i ∷ is) h r c g e n =
    let d = step-in (nth r.held.below i) is c e in
    let fork = has-fork r.held i d.0 g d.1.0 in
    let inner = grown-along is h d.0 c (grown-nth r.held.below i d.0 g.1 d.1.0) d.1.1 n in (
      (g.0.0, (λ no. absurd (yes-no (sym fork ∙ no))), subst (λ ns. length ns ≤ most_beside) (sym (numbers-edit (along is h) r.held.below i)) g.0.2),
      grown-edit (along is h) r.held.below i d.0 d.1.0 g.1 inner,
    )

replaced-plug : (i : ℕ) (is : List ℕ) (m : Node) (fs : List Frame) (n : Node) → replaced (i ∷ is) m (plug fs n) ≡ plug fs (replaced (i ∷ is) m n)
replaced-plug i is m [] n = refl
replaced-plug i is m (f ∷ fs) n = ap (λ x. plug (f ∷ []) x) (replaced-plug i is m fs n)

pub replaced_among-nth : (i : ℕ) (is : List ℕ) (m : Node) (ns : Nodes) (n : Node) → nth_node ns i ≡ Some n → replaced_among i is m ns ≡ put ns i (replaced is m n)
replaced_among-nth i is m no_nodes n e = absurd (nothing n e)
replaced_among-nth zero is m (branch k ns) n e = ap (λ x. branch (replaced is m x) ns) (same_Some k n e)
replaced_among-nth (suc i) is m (branch k ns) n e = ap (branch k) (replaced_among-nth i is m ns n e)

-- of a `fork` inside running tasks a branch is put anew
pub replaced-fork : (i : ℕ) (is : List ℕ) (m : Node) (fs : List Frame) (r : Running) (ns : Nodes) (n : Node) → nth_node ns i ≡ Some n → replaced (i ∷ is) m (plug fs (Live r (Forked ns))) ≡ plug fs (Live r (Forked (put ns i (replaced is m n))))
replaced-fork i is m fs r ns n e = replaced-plug i is m fs (Live r (Forked ns)) ∙ ap (λ x. plug fs (Live r (Forked x))) (replaced_among-nth i is m ns n e)

pub along-replaced : (is : List ℕ) (h : Branch Stand → Branch Stand) (r c : Found Stand) → IsGrownAt r.held → walk r is ≡ Some c → node_of (along is h r.held) ≡ replaced is (node_of (h c.held)) (node_of r.held)
along-replaced [] h r c g e = ap (λ (d : Found Stand). node_of (h d.held)) (same_Some r c e)
along-replaced (i ∷ is) h r c g e =
    let d = step-in (nth r.held.below i) is c e in
    let ns = nodes_of r.held.below in
    let fork = has-fork r.held i d.0 g d.1.0 in
    let old = fork-node r.held.frames ns fork in
    let new = fork-node r.held.frames (nodes_of (edit_nth (along is h) r.held.below i)) fork in
    let top : tops.Forked new.0 ≡ tops.Forked old.0 = sym new.1.0 ∙ old.1.0 in
    let n = nth_node-of r.held.below i d.0 d.1.0 in
    let inner = along-replaced is h d.0 c (grown-nth r.held.below i d.0 g.1 d.1.0) d.1.1 in
    new.1.1
    ∙ ap (λ t. plug (frames_of r.held.frames) (forked (top_node t) (nodes_of (edit_nth (along is h) r.held.below i)))) top
    ∙ ap (λ x. plug (frames_of r.held.frames) (Live old.0 (Forked x))) (nodes_of-edit (along is h) r.held.below i d.0 d.1.0 ∙ ap (put ns i) inner)
    ∙ sym (ap (replaced (i ∷ is) (node_of (h c.held))) old.1.1 ∙ replaced-fork i is (node_of (h c.held)) (frames_of r.held.frames) old.0 ns (node_of d.0.held) n)

-- ---- the first of all strands

abbrev tail : List ℕ → List ℕ
tail [] = []
tail (n ∷ ns) = ns

no-more : (ss : Strands Stand) → numbers ss ≡ [] → ss ≡ no_strands
no-more no_strands e = refl
no-more (strand m ls below after) e = cc

-- the root holds all others
pub root-holds : (t : Tree Stand) (r : ℕ) → numbers t.strands ≡ r ∷ [] → IsGrown t.strands →
    (b : Branch Stand) × ((find t.strands r ≡ Some b) × (IsGrownAt b × ((t.strands ≡ strand r b.frames b.below no_strands) × (root_node t.strands ≡ node_of b))))
root-holds t r e g = by t.strands e g
  where
    by : (ss : Strands Stand) → numbers ss ≡ r ∷ [] → IsGrown ss → (b : Branch Stand) × ((find ss r ≡ Some b) × (IsGrownAt b × ((ss ≡ strand r b.frames b.below no_strands) × (root_node ss ≡ node_of b))))
    by no_strands e g = cc
    by (strand m ls below after) e g =
        let b : Branch Stand = record { frames = ls; below = below } in
        let same : m ≡ r = ap (λ ns. get_or ns 0 m) e in
        let rest : after ≡ no_strands = no-more after (ap tail e) in
        (b, (cond-true (m == r) _ _ (eq-eqb m r same), ((g.0, g.1), ((λ i. strand (same i) ls below (rest i)), refl))))

pub root-held : (t : Tree Stand) (r : ℕ) → numbers t.strands ≡ r ∷ [] → AreDistinct t.strands → IsGrown t.strands → IsHeld t r
root-held t r e d g = let h = root-holds t r e g in (d, (h.0, (h.1.0, h.1.1.0)))

-- ---- the children of a strand

numbered : (o : Option (Found Stand)) (n : ℕ) → option_map (λ (d : Found Stand). d.number) o ≡ Some n → (h : Branch Stand) × (o ≡ Some (record { number = n; held = h }))
numbered None n e = absurd (nothing n e)
numbered (Some d) n e = (d.held, λ i. Some (record { number = same_Some d.number n e i; held = d.held }))

unnumbered : (o : Option (Found Stand)) → option_map (λ (d : Found Stand). d.number) o ≡ None → o ≡ None
unnumbered None e = refl
unnumbered (Some d) e = absurd (nothing d.number (sym e))

pub held-is : (t : Tree Stand) (n : ℕ) (b : Branch Stand) → IsHeld t n → find t.strands n ≡ Some b → IsGrownAt b
held-is t n b h e = subst IsGrownAt (same_Some h.1.0 b (sym h.1.1.0 ∙ e)) h.1.1.1

-- the strand of a number stands below another
abbrev pub IsChild : Tree Stand → ℕ → ℕ → ℕ → Type 0
IsChild t n i c = (b : Branch Stand) → find t.strands n ≡ Some b → (h : Branch Stand) × ((nth b.below i ≡ Some (record { number = c; held = h })) × ((find t.strands c ≡ Some h) × IsGrownAt h))

pub child-found : (t : Tree Stand) (n i c : ℕ) → IsHeld t n → child t n i ≡ Some c → IsChild t n i c
child-found t n i c held e b f =
    let h = numbered (nth b.below i) c (sym (child-nth t n i b f) ∙ e) in
    let g = held-is t n b held f in
    (h.0, (h.1, (find-child t.strands n i b (record { number = c; held = h.0 }) held.0 f h.1, grown-nth b.below i (record { number = c; held = h.0 }) g.1 h.1)))

pub some-child : (t : Tree Stand) (n i : ℕ) (o : Option ℕ) → IsHeld t n → o ≡ child t n i → IfSome o (λ c. IsChild t n i c)
some-child t n i None held e = tt
some-child t n i (Some c) held e = child-found t n i c held (sym e)

pub no-child : (t : Tree Stand) (n i : ℕ) (o : Option ℕ) → o ≡ child t n i → IfNone o ((b : Branch Stand) → find t.strands n ≡ Some b → nth b.below i ≡ None)
no-child t n i None e = λ b f. unnumbered (nth b.below i) (sym (child-nth t n i b f) ∙ sym e)
no-child t n i (Some c) e = tt

-- a child is held as well
pub child-held : (t : Tree Stand) (n i c : ℕ) → IsHeld t n → IsChild t n i c → IsHeld t c
child-held t n i c held is = let h = is held.1.0 held.1.1.0 in (held.0, (h.0, h.1.1))

-- ---- a way of several

abbrev pub IsAt : Tree Stand → ℕ → List ℕ → ℕ → Type 0
IsAt t n is c = (b : Branch Stand) → find t.strands n ≡ Some b → (h : Branch Stand) × ((walk (record { number = n; held = b }) is ≡ Some (record { number = c; held = h })) × ((find t.strands c ≡ Some h) × IsGrownAt h))

pub at-itself : (t : Tree Stand) (n : ℕ) → IsHeld t n → IsAt t n [] n
at-itself t n held b f = (b, (refl, (f, held-is t n b held f)))

pub at-inner : (t : Tree Stand) (n m i c : ℕ) (is : List ℕ) → IsChild t n i m → IsAt t m is c → IsAt t n (i ∷ is) c
at-inner t n m i c is child inner b f =
    let h = child b f in
    let r = inner h.0 h.1.1.0 in
    (r.0, (ap (option_and_then (λ d. walk d is)) h.1.0 ∙ r.1.0, r.1.1))

abbrev pub IsNowhere : Tree Stand → ℕ → List ℕ → Type 0
IsNowhere t n is = (b : Branch Stand) → find t.strands n ≡ Some b → walk (record { number = n; held = b }) is ≡ None

pub nowhere-child : (t : Tree Stand) (n i : ℕ) (is : List ℕ) → ((b : Branch Stand) → find t.strands n ≡ Some b → nth b.below i ≡ None) → IsNowhere t n (i ∷ is)
nowhere-child t n i is none b f = ap (option_and_then (λ d. walk d is)) (none b f)

pub nowhere-inner : (t : Tree Stand) (n m i : ℕ) (is : List ℕ) → IsChild t n i m → IsNowhere t m is → IsNowhere t n (i ∷ is)
nowhere-inner t n m i is child inner b f =
    let h = child b f in
    ap (option_and_then (λ d. walk d is)) h.1.0 ∙ inner h.0 h.1.1.0
