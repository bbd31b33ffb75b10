-- The calls of a strand, and of those below it, that await an answer.
use Rattle.std.proofs.Common.{◌≡◌, ◌∙◌, refl, sym, ap, ℕ, zero, suc, ◌+◌, Bool, true, false, List, [], ◌∷◌, ◌++◌, Some, None, append_assoc, append-nil, arith}
use Rattle.std.specs.Prelude.{filter_map}
use Rattle.swf_calls.specs.Request.{Request}
use Rattle.swf_frames.specs.Tree.{Tree, Branch, find}
use Rattle.swf_frames.specs.Paths.{nth}
use Rattle.swf_meaning.specs.Node.{Node, Fresh, Live, Done, Fault, At, Forked, Nodes, branch, Round, Running}
use Rattle.swf_meaning.specs.Pending.{open_call, open_calls}
use Rattle.swf_meaning.specs.Strands.{tops_from}
use Rattle.swf_meaning.proofs.TopsLemmas.{given-branch}
use Rattle.swf_catalog.specs.Rounds.{round_of}
use Rattle.swf_stack.specs.Stands.{frames_of, top_of}
use Rattle.swf_stack.specs.Stack.{plug, top_node}
use Rattle.swf_stack.specs.declared.made.Frame.{Frame}
use Rattle.swf_stack.specs.declared.made.Stand.{Stand}
use Rattle.swf_stack.specs.declared.made.Top.{Top}
use Rattle.swf_stack.specs.declared.made.Top.TheVariants as tops
use Rattle.swf_strands.specs.Strands.{nodes_of, node_of, is_fork, IsGrownAt, IsHeld}
use Rattle.swf_strands.proofs.AskLemmas.{nodes_from, from-child, from-end}
use Rattle.swf_strands.proofs.TreeLemmas.{fork-node, plain-node, held-is, IsChild}
use Rattle.swf_offers.specs.Answers.{own_call}

-- ---- of the nodes of a tree

-- what is inside a running task
calls-at : (r : Running) (round : Round) (i : ℕ) (n : Node) → open_calls (Live r (At round i n)) ≡ open_calls n
calls-at r round i (Fresh t v) = refl
calls-at r round i (Live q k) = refl
calls-at r round i (Done w f) = refl
calls-at r round i (Fault p) = refl

calls-plug : (fs : List Frame) (n : Node) → open_calls (plug fs n) ≡ open_calls n
calls-plug [] n = refl
calls-plug (f ∷ fs) n = calls-at f.running (round_of f.round) f.place (plug fs n) ∙ calls-plug fs n

-- of the branches of a `fork`
abbrev pub calls_among : Nodes → List (List ℕ × Request)
calls_among ns = filter_map (λ s. open_call s.1) (tops_from zero ns)

calls_among-branch : (n : Node) (ns : Nodes) → calls_among (branch n ns) ≡ open_calls n ++ calls_among ns
calls_among-branch n ns = given-branch open_call n ns

-- of what stands innermost
own-calls : (t : Top) → open_calls (top_node t) ≡ own_call t
own-calls (tops.Fresh r v) = refl
own-calls (tops.Done w f) = refl
own-calls (tops.Fault p) = refl
own-calls (tops.Waiting r None m) = refl
own-calls (tops.Waiting r (Some n) m) = refl
own-calls (tops.Hearing r bound hs) = refl
own-calls (tops.Awaiting r a q None) = refl
own-calls (tops.Awaiting r a q (Some p)) = refl
own-calls (tops.Forked r) = refl

-- ---- of a strand and of those below it

calls-node : (b : Branch Stand) → IsGrownAt b → open_calls (node_of b) ≡ own_call (top_of b.frames) ++ calls_among (nodes_of b.below)
calls-node b g = by (is_fork (top_of b.frames)) refl
  where
    ns : Nodes
    ns = nodes_of b.below

    by : (x : Bool) → is_fork (top_of b.frames) ≡ x → open_calls (node_of b) ≡ own_call (top_of b.frames) ++ calls_among ns
    by true e =
        let f = fork-node b.frames ns e in
        ap open_calls f.1.1 ∙ calls-plug (frames_of b.frames) (Live f.0 (Forked ns)) ∙ sym (ap (λ t. own_call t ++ calls_among ns) f.1.0)
    by false e =
        let own = own_call (top_of b.frames) in
        ap open_calls (plain-node b.frames ns e) ∙ calls-plug (frames_of b.frames) (top_node (top_of b.frames)) ∙ own-calls (top_of b.frames)
        ∙ sym (append-nil own) ∙ sym (ap (λ ss. own ++ calls_among (nodes_of ss)) (g.0.1 e))

-- those in a list, with those from a branch on, are all
abbrev pub AreCalled : Tree Stand → ℕ → List (List ℕ × Request) → ℕ → List (List ℕ × Request) → Type 0
AreCalled t n old i new = (b : Branch Stand) → find t.strands n ≡ Some b → new ++ calls_among (nodes_from i (nodes_of b.below)) ≡ old ++ open_calls (node_of b)

pub called-first : (t : Tree Stand) (n : ℕ) (top : Top) (old new : List (List ℕ × Request)) → IsHeld t n → ((b : Branch Stand) → find t.strands n ≡ Some b → top ≡ top_of b.frames) → new ≡ old ++ own_call top → AreCalled t n old 0 new
called-first t n top old new held is e b f =
    let rest = calls_among (nodes_of b.below) in
    ap (λ xs. xs ++ rest) e ∙ append_assoc old (own_call top) rest
    ∙ ap (λ x. old ++ (own_call x ++ rest)) (is b f)
    ∙ sym (ap (λ xs. old ++ xs) (calls-node b (held-is t n b held f)))

pub called-more : (t : Tree Stand) (n i c : ℕ) (old new more : List (List ℕ × Request)) → IsChild t n i c → AreCalled t n old i new → ((h : Branch Stand) → find t.strands c ≡ Some h → more ≡ new ++ open_calls (node_of h)) → AreCalled t n old (i + 1) more
called-more t n i c old new more child are of b f =
    let h = child b f in
    let same : suc i ≡ i + 1 = omega arith in
    let rest = calls_among (nodes_from (suc i) (nodes_of b.below)) in
    ap (λ j. more ++ calls_among (nodes_from j (nodes_of b.below))) (sym same)
    ∙ ap (λ xs. xs ++ rest) (of h.0 h.1.1.0)
    ∙ append_assoc new (open_calls (node_of h.0)) rest
    ∙ ap (λ xs. new ++ xs) (sym (calls_among-branch (node_of h.0) (nodes_from (suc i) (nodes_of b.below))))
    ∙ ap (λ ns. new ++ calls_among ns) (sym (from-child b i (record { number = c; held = h.0 }) h.1.0))
    ∙ are b f

pub called-all : (t : Tree Stand) (n i : ℕ) (old new : List (List ℕ × Request)) → ((b : Branch Stand) → find t.strands n ≡ Some b → nth b.below i ≡ None) → AreCalled t n old i new → (b : Branch Stand) → find t.strands n ≡ Some b → new ≡ old ++ open_calls (node_of b)
called-all t n i old new none are b f =
    sym (append-nil new) ∙ ap (λ ns. new ++ calls_among ns) (sym (from-end b i (none b f))) ∙ are b f
