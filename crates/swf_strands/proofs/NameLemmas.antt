-- The names of strands, one branch after another.
use Rattle.std.proofs.Common.{◌≡◌, ◌∙◌, refl, sym, ap, ℕ, suc, ◌+◌, ◌-◌, Bool, true, false, List, [], ◌∷◌, ◌++◌, map, length, take, Some, None, append_assoc, append-nil, length-append, arith}
use Rattle.std.proofs.Math.Seq.{take-append_seam}
use Rattle.swf_frames.specs.Tree.{Tree, Branch, find}
use Rattle.swf_frames.specs.Paths.{nth}
use Rattle.swf_meaning.specs.Node.{Node, Live, Forked}
use Rattle.swf_meaning.specs.Strands.{strands}
use Rattle.swf_meaning.proofs.TopsLemmas.{strands_from, strands_from-branch, strands-at}
use Rattle.swf_stack.specs.Stands.{frames_of, top_of}
use Rattle.swf_stack.specs.Stack.{plug, top_node}
use Rattle.swf_catalog.specs.Rounds.{round_of}
use Rattle.swf_stack.specs.declared.made.Frame.{Frame}
use Rattle.swf_stack.specs.declared.made.Stand.{Stand}
use Rattle.swf_stack.specs.declared.made.Top.{Top}
use Rattle.swf_stack.specs.declared.made.Top.TheVariants as tops
use Rattle.swf_strands.specs.Strands.{nodes_of, node_of, is_fork, IsGrownAt, IsHeld}
use Rattle.swf_strands.proofs.AskLemmas.{nodes_from, from-child, from-end}
use Rattle.swf_strands.proofs.TreeLemmas.{fork-node, plain-node, held-is, IsChild}

strands-plug : (fs : List Frame) (n : Node) → strands (plug fs n) ≡ strands n
strands-plug [] n = refl
strands-plug (f ∷ fs) n = strands-at f.running (round_of f.round) f.place (plug fs n) ∙ strands-plug fs n

plain-strands : (t : Top) → is_fork t ≡ false → strands (top_node t) ≡ [] ∷ []
plain-strands (tops.Fresh r v) e = refl
plain-strands (tops.Done w f) e = refl
plain-strands (tops.Fault p) e = refl
plain-strands (tops.Waiting r None m) e = refl
plain-strands (tops.Waiting r (Some n) m) e = refl
plain-strands (tops.Hearing r bound hs) e = refl
plain-strands (tops.Awaiting r a q o) e = refl
plain-strands (tops.Forked r) e = cc

pub strands-node : (b : Branch Stand) → IsGrownAt b → strands (node_of b) ≡ [] ∷ strands_from 0 (nodes_of b.below)
strands-node b g = by (is_fork (top_of b.frames)) refl
  where
    by : (x : Bool) → is_fork (top_of b.frames) ≡ x → strands (node_of b) ≡ [] ∷ strands_from 0 (nodes_of b.below)
    by true e =
        let f = fork-node b.frames (nodes_of b.below) e in
        ap strands f.1.1 ∙ strands-plug (frames_of b.frames) (Live f.0 (Forked (nodes_of b.below)))
    by false e =
        ap strands (plain-node b.frames (nodes_of b.below) e)
        ∙ strands-plug (frames_of b.frames) (top_node (top_of b.frames)) ∙ plain-strands (top_of b.frames) e
        ∙ sym (ap (λ ss. [] ∷ strands_from 0 (nodes_of ss)) (g.0.1 e))

-- ---- a list that grows by one branch after another

-- these numbers before each name
abbrev pub behind : List ℕ → List (List ℕ) → List (List ℕ)
behind path names = map (λ bs. path ++ bs) names

behind-append : (path : List ℕ) (xs ys : List (List ℕ)) → behind path (xs ++ ys) ≡ behind path xs ++ behind path ys
behind-append path [] ys = refl
behind-append path (x ∷ xs) ys = ap (λ zs. (path ++ x) ∷ zs) (behind-append path xs ys)

behind-one : (path : List ℕ) (i : ℕ) (xs : List (List ℕ)) → behind (path ++ i ∷ []) xs ≡ behind path (map (λ bs. i ∷ bs) xs)
behind-one path i [] = refl
behind-one path i (x ∷ xs) = (λ j. append_assoc path (i ∷ []) x j ∷ behind-one path i xs j)

-- the names in a list, with those from a branch on, are all
abbrev pub IsListed : Tree Stand → ℕ → List ℕ → List (List ℕ) → ℕ → List (List ℕ) → Type 0
IsListed t n path old i new = (b : Branch Stand) → find t.strands n ≡ Some b → new ++ behind path (strands_from i (nodes_from i (nodes_of b.below))) ≡ old ++ behind path (strands (node_of b))

pub listed-first : (t : Tree Stand) (n : ℕ) (name given path : List ℕ) (old new : List (List ℕ)) → IsHeld t n → name ≡ given → given ≡ path → new ≡ old ++ name ∷ [] → IsListed t n path old 0 new
listed-first t n name given path old new held same is e b f =
    let rest = behind path (strands_from 0 (nodes_of b.below)) in
    let one : name ≡ path = same ∙ is in
    ap (λ xs. xs ++ rest) (e ∙ ap (λ x. old ++ x ∷ []) one) ∙ append_assoc old (path ∷ []) rest
    ∙ ap (λ p. old ++ p ∷ rest) (sym (append-nil path))
    ∙ sym (ap (λ ss. old ++ behind path ss) (strands-node b (held-is t n b held f)))

pub listed-more : (t : Tree Stand) (n i c : ℕ) (path inner : List ℕ) (old new more : List (List ℕ)) → IsChild t n i c → inner ≡ path ++ i ∷ [] → IsListed t n path old i new →
    ((h : Branch Stand) → find t.strands c ≡ Some h → more ≡ new ++ behind inner (strands (node_of h))) → IsListed t n path old (i + 1) more
listed-more t n i c path inner old new more child way is of b f =
    let h = child b f in
    let same : suc i ≡ i + 1 = omega arith in
    let rest = strands_from (i + 1) (nodes_from (suc i) (nodes_of b.below)) in
    let names = map (λ bs. i ∷ bs) (strands (node_of h.0)) in
    let from : strands_from i (nodes_from i (nodes_of b.below)) ≡ names ++ rest =
    ap (strands_from i) (from-child b i (record { number = c; held = h.0 }) h.1.0) ∙ strands_from-branch i (node_of h.0) (nodes_from (suc i) (nodes_of b.below)) in
    ap (λ j. more ++ behind path (strands_from (i + 1) (nodes_from j (nodes_of b.below)))) (sym same)
    ∙ ap (λ xs. xs ++ behind path rest) (of h.0 h.1.1.0 ∙ ap (λ p. new ++ behind p (strands (node_of h.0))) way ∙ ap (λ xs. new ++ xs) (behind-one path i (strands (node_of h.0))))
    ∙ append_assoc new (behind path names) (behind path rest)
    ∙ ap (λ xs. new ++ xs) (sym (behind-append path names rest) ∙ ap (behind path) (sym from))
    ∙ is b f

pub listed-all : (t : Tree Stand) (n i : ℕ) (path : List ℕ) (old new : List (List ℕ)) → ((b : Branch Stand) → find t.strands n ≡ Some b → nth b.below i ≡ None) → IsListed t n path old i new →
    (b : Branch Stand) → find t.strands n ≡ Some b → new ≡ old ++ behind path (strands (node_of b))
listed-all t n i path old new none is b f =
    sym (append-nil new) ∙ ap (λ ns. new ++ behind path (strands_from i ns)) (sym (from-end b i (none b f))) ∙ is b f

-- a number is put behind these, and taken away again
pub put-behind : (path from inner : List ℕ) (i : ℕ) → inner ≡ from ++ i ∷ [] → from ≡ path → inner ≡ path ++ i ∷ []
put-behind path from inner i e is = e ∙ ap (λ xs. xs ++ i ∷ []) is

pub last-taken : (path inner after new : List ℕ) (i n : ℕ) → after ≡ inner → inner ≡ path ++ i ∷ [] → n ≡ length after → new ≡ take (n - 1) after → new ≡ path
last-taken path inner after new i n same e l t =
    let is : after ≡ path ++ i ∷ [] = same ∙ e in
    let all : length after ≡ length path + 1 = ap length is ∙ length-append path (i ∷ []) in
    let m : n - 1 ≡ length path = omega (arith, l, all) in
    t ∙ ap (λ k. take k after) m ∙ ap (take (length path)) is ∙ take-append_seam path (i ∷ [])

-- behind nothing stand the names alone
behind-nothing : (names : List (List ℕ)) → behind [] names ≡ names
behind-nothing [] = refl
behind-nothing (bs ∷ names) = ap (λ ns. bs ∷ ns) (behind-nothing names)

pub listed-alone : (path : List ℕ) (old new names : List (List ℕ)) → path ≡ [] → old ≡ [] → new ≡ old ++ behind path names → new ≡ names
listed-alone path old new names way none e = e ∙ ap (λ xs. xs ++ behind path names) none ∙ ap (λ p. behind p names) way ∙ behind-nothing names
