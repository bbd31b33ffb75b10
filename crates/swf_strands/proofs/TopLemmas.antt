-- What stands on top of the strands of a node.
use Rattle.std.proofs.Common.{◌≡◌, ◌∙◌, refl, ap, sym, ℕ, zero, suc, Bool, false, List, [], ◌∷◌, Option, Some, None}
use Rattle.std.specs.Prelude.{option_and_then}
use Rattle.swf_value.specs.Value.{Value}
use Rattle.swf_document.specs.Task.{Task}
use Rattle.swf_frames.specs.Tree.{Branch}
use Rattle.swf_frames.specs.Paths.{Found, nth}
use Rattle.swf_meaning.specs.Node.{Node, Fresh, Live, Done, Fault, Inside, At, Later, Sleep, Hear, Await, Forked, Nodes, no_nodes, branch, Running}
use Rattle.swf_meaning.specs.Top.{Top, top_at, top_inside, top_branch, top_is}
use Rattle.swf_meaning.specs.Wake.{until_top}
use Rattle.swf_stack.specs.Stack.{plug}
use Rattle.swf_stack.specs.declared.made.Frame.{Frame}
use Rattle.swf_stack.specs.declared.made.Stand.{Stand}
use Rattle.swf_strands.specs.Strands.{node_of, IsGrownAt}
use Rattle.swf_strands.specs.Ways.{at, at_inside, at_among, until_at, own_until}
use Rattle.swf_strands.proofs.TreeLemmas.{at-child, at-no-child}

-- tasks that run around what has not ended leave its top
pub top-live : (bs : List ℕ) (fs : List Frame) (r : Running) (k : Inside) → top_at bs (plug fs (Live r k)) ≡ top_inside bs r k
top-live bs [] r k = refl
top-live bs (f ∷ []) r k = refl
top-live bs (f ∷ g ∷ gs) r k = top-live bs (g ∷ gs) r k

pub top-fresh : (bs : List ℕ) (fs : List Frame) (t : Task) (v : Value) → top_at bs (plug fs (Fresh t v)) ≡ top_at bs (Fresh t v)
top-fresh bs [] t v = refl
top-fresh bs (f ∷ []) t v = refl
top-fresh bs (f ∷ g ∷ gs) t v = top-fresh bs (g ∷ gs) t v

-- the top of a strand is that of what stands on it
mutual
  pub top-at : (bs : List ℕ) (n : Node) → top_at bs n ≡ option_and_then (top_at []) (at bs n)
  top-at [] n = refl
  top-at (b ∷ bs) (Fresh t v) = refl
  top-at (b ∷ bs) (Live r k) = top-inside b bs r k
  top-at (b ∷ bs) (Done w f) = refl
  top-at (b ∷ bs) (Fault p) = refl

  top-inside : (b : ℕ) (bs : List ℕ) (r : Running) (k : Inside) → top_inside (b ∷ bs) r k ≡ option_and_then (top_at []) (at_inside b bs k)
  top-inside b bs r (At round i (Fresh t v)) = refl
  top-inside b bs r (At round i (Live q k)) = top-inside b bs q k
  top-inside b bs r (At round i (Done w f)) = refl
  top-inside b bs r (At round i (Fault p)) = refl
  top-inside b bs r (Later n m) = refl
  top-inside b bs r (Sleep m) = refl
  top-inside b bs r (Hear bound hs) = refl
  top-inside b bs r (Await a q o) = refl
  top-inside b bs r (Forked ns) = top-among b bs ns

  top-among : (b : ℕ) (bs : List ℕ) (ns : Nodes) → top_branch b bs ns ≡ option_and_then (top_at []) (at_among b bs ns)
  top-among zero bs no_nodes = refl
  top-among (suc b) bs no_nodes = refl
  top-among zero bs (branch n ns) = top-at bs n
  top-among (suc b) bs (branch n ns) = top-among b bs ns

-- of a branch
pub top-child : (b : Branch Stand) (i : ℕ) (is : List ℕ) (c : Found Stand) → IsGrownAt b → nth b.below i ≡ Some c → top_at (i ∷ is) (node_of b) ≡ top_at is (node_of c.held)
top-child b i is c g e = top-at (i ∷ is) (node_of b) ∙ ap (option_and_then (top_at [])) (at-child b i is c g e) ∙ sym (top-at is (node_of c.held))

pub top-no-child : (b : Branch Stand) (i : ℕ) (is : List ℕ) → nth b.below i ≡ None → top_at (i ∷ is) (node_of b) ≡ None
top-no-child b i is e = top-at (i ∷ is) (node_of b) ∙ ap (option_and_then (top_at [])) (at-no-child b i is e)

-- what holds of it
abbrev pub top_there : (Top → Bool) → Option Node → Bool
top_there p None = false
top_there p (Some n) = top_is p (top_at [] n)

pub top_is-at : (p : Top → Bool) (bs : List ℕ) (n : Node) → top_is p (top_at bs n) ≡ top_there p (at bs n)
top_is-at p bs n = ap (top_is p) (top-at bs n) ∙ by (at bs n)
  where
    by : (o : Option Node) → top_is p (option_and_then (top_at []) o) ≡ top_there p o
    by None = refl
    by (Some m) = refl

-- the moment that a strand waits for is that of what stands on it
pub until-at : (bs : List ℕ) (n : Node) → until_at bs n ≡ option_and_then own_until (at bs n)
until-at bs n = ap (option_and_then until_top) (top-at bs n) ∙ by (at bs n)
  where
    by : (o : Option Node) → option_and_then until_top (option_and_then (top_at []) o) ≡ option_and_then own_until o
    by None = refl
    by (Some m) = refl
