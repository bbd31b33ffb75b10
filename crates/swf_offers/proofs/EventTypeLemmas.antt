-- What the strands of a node listen for, one branch after another.
use Rattle.std.proofs.Common.{◌≡◌, ◌∙◌, refl, sym, ap, ℕ, zero, suc, ◌+◌, Bool, true, false, List, [], ◌∷◌, ◌++◌, map, Option, Some, None, append_assoc, append-nil, arith}
use Rattle.std.proofs.lemmas.Grind.{flat_map-append}
use Rattle.std.proofs.lemmas.List.Folds.{flat_map-map}
use Rattle.std.specs.Prelude.{flat_map}
use Rattle.swf_value.specs.Value.{Members}
use Rattle.swf_frames.specs.Tree.{Tree, Branch, find}
use Rattle.swf_frames.specs.Paths.{nth}
use Rattle.swf_meaning.specs.Node.{Node, Fresh, Live, Done, Fault, Inside, At, Later, Sleep, Hear, Await, Forked, Nodes, no_nodes, branch, Round, Running}
use Rattle.swf_meaning.specs.Strands.{in_branch, tops, tops_from}
use Rattle.swf_meaning.specs.declared.heard.Heard.{Heard}
use Rattle.swf_catalog.specs.Rounds.{round_of}
use Rattle.swf_stack.specs.Stands.{frames_of, top_of}
use Rattle.swf_stack.specs.Stack.{plug, top_node}
use Rattle.swf_stack.specs.declared.made.Frame.{Frame}
use Rattle.swf_stack.specs.declared.made.Stand.{Stand}
use Rattle.swf_stack.specs.declared.made.Top.{Top}
use Rattle.swf_strands.specs.Strands.{nodes_of, node_of, is_fork, IsGrownAt, IsHeld}
use Rattle.swf_strands.specs.Ways.{replaced, replaced_inside, replaced_among}
use Rattle.swf_strands.proofs.AskLemmas.{nodes_from, from-child, from-end}
use Rattle.swf_strands.proofs.TreeLemmas.{fork-node, plain-node, held-is, IsChild}
use Rattle.swf_offers.specs.EventTypes.{event_types, types_left, types_top}

-- ---- of the nodes of a tree

-- what is inside a running task
pub types-at : (r : Running) (round : Round) (i : ℕ) (n : Node) → event_types (Live r (At round i n)) ≡ event_types n
types-at r round i (Fresh t v) = refl
types-at r round i (Live q k) = refl
types-at r round i (Done w f) = refl
types-at r round i (Fault p) = refl

pub types-plug : (fs : List Frame) (n : Node) → event_types (plug fs n) ≡ event_types n
types-plug [] n = refl
types-plug (f ∷ fs) n = types-at f.running (round_of f.round) f.place (plug fs n) ∙ types-plug fs n

-- of branches that are numbered from b on
abbrev types_from : ℕ → Nodes → List (Option (List ℕ))
types_from b ns = flat_map (λ s. types_top s.1) (tops_from b ns)

types_from-branch : (b : ℕ) (n : Node) (ns : Nodes) → types_from b (branch n ns) ≡ event_types n ++ types_from (b + 1) ns
types_from-branch b n ns =
    flat_map-append (λ s. types_top s.1) (map (in_branch b) (tops n)) (tops_from (b + 1) ns)
    ∙ ap (λ xs. xs ++ types_from (b + 1) ns) (flat_map-map (λ s. types_top s.1) (in_branch b) (tops n))

-- numbers change nothing
types_from-any : (b c : ℕ) (ns : Nodes) → types_from b ns ≡ types_from c ns
types_from-any b c no_nodes = refl
types_from-any b c (branch n ns) = types_from-branch b n ns ∙ ap (λ xs. event_types n ++ xs) (types_from-any (b + 1) (c + 1) ns) ∙ sym (types_from-branch c n ns)

-- of the branches of a `fork`
abbrev pub event_types_among : Nodes → List (Option (List ℕ))
event_types_among ns = types_from zero ns

pub event_types_among-branch : (n : Node) (ns : Nodes) → event_types_among (branch n ns) ≡ event_types n ++ event_types_among ns
event_types_among-branch n ns = types_from-branch zero n ns ∙ ap (λ xs. event_types n ++ xs) (types_from-any (zero + 1) zero ns)

-- of one task that listens
pub types-hear : (r : Running) (bound : Members) (hs : List Heard) → event_types (Live r (Hear bound hs)) ≡ types_left r.task hs
types-hear r bound hs = append-nil (types_left r.task hs)

-- ---- of a strand and of those below it

pub types-node : (b : Branch Stand) → IsGrownAt b → event_types (node_of b) ≡ event_types (top_node (top_of b.frames)) ++ event_types_among (nodes_of b.below)
types-node b g = by (is_fork (top_of b.frames)) refl
  where
    ns : Nodes
    ns = nodes_of b.below

    by : (x : Bool) → is_fork (top_of b.frames) ≡ x → event_types (node_of b) ≡ event_types (top_node (top_of b.frames)) ++ event_types_among ns
    by true e =
        let f = fork-node b.frames ns e in
        ap event_types f.1.1 ∙ types-plug (frames_of b.frames) (Live f.0 (Forked ns)) ∙ sym (ap (λ t. event_types (top_node t) ++ event_types_among ns) f.1.0)
    by false e =
        let own = event_types (top_node (top_of b.frames)) in
        ap event_types (plain-node b.frames ns e) ∙ types-plug (frames_of b.frames) (top_node (top_of b.frames))
        ∙ sym (append-nil own) ∙ sym (ap (λ ss. own ++ event_types_among (nodes_of ss)) (g.0.1 e))

-- those in a list, with those from a branch on, are all
abbrev pub AreTyped : Tree Stand → ℕ → List (Option (List ℕ)) → ℕ → List (Option (List ℕ)) → Type 0
AreTyped t n old i new = (b : Branch Stand) → find t.strands n ≡ Some b → new ++ event_types_among (nodes_from i (nodes_of b.below)) ≡ old ++ event_types (node_of b)

pub typed-first : (t : Tree Stand) (n : ℕ) (top : Top) (old new : List (Option (List ℕ))) → IsHeld t n → ((b : Branch Stand) → find t.strands n ≡ Some b → top ≡ top_of b.frames) → new ≡ old ++ event_types (top_node top) → AreTyped t n old 0 new
typed-first t n top old new held is e b f =
    let rest = event_types_among (nodes_of b.below) in
    ap (λ xs. xs ++ rest) e ∙ append_assoc old (event_types (top_node top)) rest
    ∙ ap (λ x. old ++ (event_types (top_node x) ++ rest)) (is b f)
    ∙ sym (ap (λ xs. old ++ xs) (types-node b (held-is t n b held f)))

pub typed-more : (t : Tree Stand) (n i c : ℕ) (old new more : List (Option (List ℕ))) → IsChild t n i c → AreTyped t n old i new → ((h : Branch Stand) → find t.strands c ≡ Some h → more ≡ new ++ event_types (node_of h)) → AreTyped t n old (i + 1) more
typed-more t n i c old new more child are of b f =
    let h = child b f in
    let same : suc i ≡ i + 1 = omega arith in
    let rest = event_types_among (nodes_from (suc i) (nodes_of b.below)) in
    ap (λ j. more ++ event_types_among (nodes_from j (nodes_of b.below))) (sym same)
    ∙ ap (λ xs. xs ++ rest) (of h.0 h.1.1.0)
    ∙ append_assoc new (event_types (node_of h.0)) rest
    ∙ ap (λ xs. new ++ xs) (sym (event_types_among-branch (node_of h.0) (nodes_from (suc i) (nodes_of b.below))))
    ∙ ap (λ ns. new ++ event_types_among ns) (sym (from-child b i (record { number = c; held = h.0 }) h.1.0))
    ∙ are b f

pub typed-all : (t : Tree Stand) (n i : ℕ) (old new : List (Option (List ℕ))) → ((b : Branch Stand) → find t.strands n ≡ Some b → nth b.below i ≡ None) → AreTyped t n old i new → (b : Branch Stand) → find t.strands n ≡ Some b → new ≡ old ++ event_types (node_of b)
typed-all t n i old new none are b f =
    sym (append-nil new) ∙ ap (λ ns. new ++ event_types_among ns) (sym (from-end b i (none b f))) ∙ are b f

-- ---- where no strand listens for anything

none-both : (xs ys : List (Option (List ℕ))) → xs ++ ys ≡ [] → (xs ≡ []) × (ys ≡ [])
none-both [] ys e = (refl, e)
none-both (x ∷ xs) ys e = cc

-- a strand that is put anew and does not listen brings nothing
mutual
  pub none-replaced : (bs : List ℕ) (m n : Node) → event_types m ≡ [] → event_types n ≡ [] → event_types (replaced bs m n) ≡ []
  none-replaced [] m n own all = own
  none-replaced (b ∷ bs) m (Fresh t v) own all = all
  none-replaced (b ∷ bs) m (Live r k) own all = none-inside b bs m r k own all
  none-replaced (b ∷ bs) m (Done w f) own all = all
  none-replaced (b ∷ bs) m (Fault p) own all = all

  none-inside : (b : ℕ) (bs : List ℕ) (m : Node) (r : Running) (k : Inside) → event_types m ≡ [] → event_types (Live r k) ≡ [] → event_types (Live r (replaced_inside b bs m k)) ≡ []
  none-inside b bs m r (At round i n) own all = types-at r round i (replaced (b ∷ bs) m n) ∙ none-replaced (b ∷ bs) m n own (sym (types-at r round i n) ∙ all)
  none-inside b bs m r (Later n until) own all = all
  none-inside b bs m r (Sleep until) own all = all
  none-inside b bs m r (Hear bound hs) own all = all
  none-inside b bs m r (Await a q o) own all = all
  none-inside b bs m r (Forked ns) own all = none-among b bs m ns own all

  none-among : (b : ℕ) (bs : List ℕ) (m : Node) (ns : Nodes) → event_types m ≡ [] → event_types_among ns ≡ [] → event_types_among (replaced_among b bs m ns) ≡ []
  none-among b bs m no_nodes own all = all
  none-among zero bs m (branch n ns) own all =
      let both = none-both (event_types n) (event_types_among ns) (sym (event_types_among-branch n ns) ∙ all) in
      event_types_among-branch (replaced bs m n) ns ∙ ap (λ xs. xs ++ event_types_among ns) (none-replaced bs m n own both.0) ∙ both.1
  none-among (suc b) bs m (branch n ns) own all =
      let both = none-both (event_types n) (event_types_among ns) (sym (event_types_among-branch n ns) ∙ all) in
      event_types_among-branch n (replaced_among b bs m ns) ∙ ap (λ xs. xs ++ event_types_among (replaced_among b bs m ns)) both.0 ∙ none-among b bs m ns own both.1
