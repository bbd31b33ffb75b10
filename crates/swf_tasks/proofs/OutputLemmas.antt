-- The outputs of the branches of a `fork`, one after another.
use Rattle.std.proofs.Common.{◌≡◌, ◌∙◌, refl, sym, ap, subst, ℕ, zero, suc, ◌<◌, List, [], ◌∷◌, ◌++◌, length, Option, Some, None, append_assoc, append-nil, arith}
use Rattle.std.specs.Prelude.{option_map}
use Rattle.std.proofs.lemmas.Option.{same_Some}
use Rattle.swf_value.specs.Value.{Value}
use Rattle.swf_frames.specs.Tree.{Branch, numbers}
use Rattle.swf_frames.specs.Paths.{Found, nth}
use Rattle.swf_meaning.specs.Fork.{outputs, put}
use Rattle.swf_meaning.specs.Node.{Node, Fresh, Live, Done, Fault, Nodes, no_nodes, branch}
use Rattle.swf_stack.specs.Stands.{inward}
use Rattle.swf_stack.specs.Stack.{plug, top_node, forked}
use Rattle.swf_stack.specs.declared.made.Frame.{Frame}
use Rattle.swf_stack.specs.declared.made.Stand.{Stand}
use Rattle.swf_stack.specs.declared.made.Top.{Top}
use Rattle.swf_stack.specs.declared.made.Top.TheVariants as tops
use Rattle.swf_tasks.specs.Installed.{output_in}
use Rattle.swf_tasks.specs.Stepped.{listed, output_on}
use Rattle.swf_strands.specs.Strands.{node_of, nodes_of, strand_node, IsGrownAt}
use Rattle.swf_strands.proofs.TreeLemmas.{nth_node, nth_node-of, nth_node-none, nothing}
use Rattle.swf_strands.proofs.AskLemmas.{nodes_from, nodes_from-some, nodes_from-none, nth-place}

-- how many strands stand below
abbrev pub beside : Option (Branch Stand) → ℕ
beside None = 0
beside (Some b) = length (numbers b.below)

pub below-beside : (o : Option (Branch Stand)) (b : Branch Stand) (i : ℕ) (c : Found Stand) → o ≡ Some b → nth b.below i ≡ Some c → i < beside o
below-beside o b i c f e = subst (λ x. i < beside x) (sym f) (nth-place b.below i c e)

pub few-below : (b : Branch Stand) (i : ℕ) (c : Found Stand) → IsGrownAt b → nth b.below i ≡ Some c → i < 65536
few-below b i c g e = let h = nth-place b.below i c e in let few = g.0.2 in omega (arith, h, few)

put-here : (ns : Nodes) (i : ℕ) (m n : Node) → nth_node ns i ≡ Some n → nth_node (put ns i m) i ≡ Some m
put-here no_nodes i m n e = absurd (nothing n e)
put-here (branch k ns) zero m n e = refl
put-here (branch k ns) (suc i) m n e = put-here ns i m n e

put-past : (ns : Nodes) (i j : ℕ) (m : Node) → (i ≡ j → ⊥) → nth_node (put ns i m) j ≡ nth_node ns j
put-past no_nodes i j m d = refl
put-past (branch k ns) zero zero m d = absurd (d refl)
put-past (branch k ns) zero (suc j) m d = refl
put-past (branch k ns) (suc i) zero m d = refl
put-past (branch k ns) (suc i) (suc j) m d = put-past ns i j m (λ e. d (ap suc e))

put-none : (ns : Nodes) (i j : ℕ) (m : Node) → nth_node ns j ≡ None → nth_node (put ns i m) j ≡ None
put-none no_nodes i j m e = refl
put-none (branch k ns) zero zero m e = absurd (nothing k (sym e))
put-none (branch k ns) zero (suc j) m e = e
put-none (branch k ns) (suc i) zero m e = absurd (nothing k (sym e))
put-none (branch k ns) (suc i) (suc j) m e = put-none ns i j m e

output-top : (t : Top) (ns : Nodes) → output_on [] t ≡ output_in (forked (top_node t) ns)
output-top (tops.Fresh r v) ns = refl
output-top (tops.Done w f) ns = refl
output-top (tops.Fault p) ns = refl
output-top (tops.Waiting r n m) ns = refl
output-top (tops.Hearing r b hs) ns = refl
output-top (tops.Awaiting r a q o) ns = refl
output-top (tops.Forked r) ns = refl

pub output-plug : (fs : List Frame) (t : Top) (ns : Nodes) → output_on fs t ≡ output_in (plug (inward fs) (forked (top_node t) ns))
output-plug [] t ns = output-top t ns
output-plug (f ∷ fs) t ns = by (inward fs)
  where
    by : (gs : List Frame) → None ≡ output_in (plug (gs ++ f ∷ []) (forked (top_node t) ns))
    by [] = refl
    by (g ∷ gs) = refl

output-ended : (t : Top) → output_on [] t ≡ output_in (top_node t)
output-ended (tops.Fresh r v) = refl
output-ended (tops.Done w f) = refl
output-ended (tops.Fault p) = refl
output-ended (tops.Waiting r n m) = refl
output-ended (tops.Hearing r b hs) = refl
output-ended (tops.Awaiting r a q o) = refl
output-ended (tops.Forked r) = refl

-- the outputs up to a number are these
abbrev pub AreUpTo : Nodes → ℕ → List Value → Type 0
AreUpTo ms k ws = outputs ms ≡ option_map (λ (rest : List Value). ws ++ rest) (outputs (nodes_from k ms))

pub up-to-none : (ms : Nodes) → AreUpTo ms 0 []
up-to-none ms = same (outputs ms)
  where
    same : (o : Option (List Value)) → o ≡ option_map (λ (rest : List Value). [] ++ rest) o
    same None = refl
    same (Some x) = refl

with-first : (n : Node) (w : Value) (ns : Nodes) → output_in n ≡ Some w → outputs (branch n ns) ≡ option_map (λ (rest : List Value). w ∷ rest) (outputs ns)
with-first (Fresh t v) w ns e = absurd (nothing w e)
with-first (Live r k) w ns e = absurd (nothing w e)
with-first (Done x f) w ns e = ap (λ y. option_map (λ (rest : List Value). y ∷ rest) (outputs ns)) (same_Some x w e)
with-first (Fault p) w ns e = absurd (nothing w e)

without-first : (n : Node) (ns : Nodes) → output_in n ≡ None → outputs (branch n ns) ≡ None
without-first (Fresh t v) ns e = refl
without-first (Live r k) ns e = refl
without-first (Done x f) ns e = absurd (nothing x (sym e))
without-first (Fault p) ns e = refl

joins : (ws : List Value) (w : Value) (o : Option (List Value)) → option_map (λ (rest : List Value). ws ++ rest) (option_map (λ (rest : List Value). w ∷ rest) o) ≡ option_map (λ (rest : List Value). (ws ++ w ∷ []) ++ rest) o
joins ws w None = refl
joins ws w (Some x) = ap Some (sym (append_assoc ws (w ∷ []) x))

pub one-more : (ms : Nodes) (k : ℕ) (ws : List Value) (n : Node) (w : Value) → AreUpTo ms k ws → nth_node ms k ≡ Some n → output_in n ≡ Some w → AreUpTo ms (suc k) (ws ++ w ∷ [])
one-more ms k ws n w up e o =
    up ∙ ap (λ x. option_map (λ (rest : List Value). ws ++ rest) (outputs x)) (nodes_from-some ms k n e) ∙ ap (option_map (λ (rest : List Value). ws ++ rest)) (with-first n w (nodes_from (suc k) ms) o) ∙ joins ws w (outputs (nodes_from (suc k) ms))

pub not-all : (ms : Nodes) (k : ℕ) (ws : List Value) (n : Node) → AreUpTo ms k ws → nth_node ms k ≡ Some n → output_in n ≡ None → None ≡ option_map listed (outputs ms)
not-all ms k ws n up e o =
    sym (ap (option_map listed) (up ∙ ap (λ x. option_map (λ (rest : List Value). ws ++ rest) (outputs x)) (nodes_from-some ms k n e) ∙ ap (option_map (λ (rest : List Value). ws ++ rest)) (without-first n (nodes_from (suc k) ms) o)))

pub all-done : (ms : Nodes) (k : ℕ) (ws : List Value) → AreUpTo ms k ws → nth_node ms k ≡ None → Some (listed ws) ≡ option_map listed (outputs ms)
all-done ms k ws up e =
    sym (ap (option_map listed) (up ∙ ap (λ x. option_map (λ (rest : List Value). ws ++ rest) (outputs x)) (nodes_from-none ms k e)) ∙ ap (λ xs. Some (listed xs)) (append-nil ws))

-- of the branch that has just ended
pub output-of-ended : (b : Branch Stand) (number k : ℕ) (c : Found Stand) (t : Top) → nth b.below k ≡ Some c → k ≡ number → (n : Node) × ((nth_node (put (nodes_of b.below) number (top_node t)) k ≡ Some n) × (output_in n ≡ output_on [] t))
output-of-ended b number k c t g same =
    (top_node t, (ap (λ i. nth_node (put (nodes_of b.below) i (top_node t)) k) (sym same) ∙ put-here (nodes_of b.below) k (top_node t) (node_of c.held) (nth_node-of b.below k c g), sym (output-ended t)))

-- of another one, which holds this
pub output-of-other : (b : Branch Stand) (number k : ℕ) (c : Found Stand) (h : Stand) (t : Top) → nth b.below k ≡ Some c → c.held.frames ≡ h ∷ [] → (number ≡ k → ⊥) →
    (n : Node) × ((nth_node (put (nodes_of b.below) number (top_node t)) k ≡ Some n) × (output_in n ≡ output_on h.around h.top))
output-of-other b number k c h t g on apart = (
  node_of c.held,
  (
    put-past (nodes_of b.below) number k (top_node t) apart ∙ nth_node-of b.below k c g,
    ap (λ ls. output_in (strand_node ls (nodes_of c.held.below))) on ∙ sym (output-plug h.around h.top (nodes_of c.held.below)),
  ),
)

pub none-left : (b : Branch Stand) (number k : ℕ) (m : Node) → nth b.below k ≡ None → nth_node (put (nodes_of b.below) number m) k ≡ None
none-left b number k m e = put-none (nodes_of b.below) number k m (nth_node-none b.below k e)
