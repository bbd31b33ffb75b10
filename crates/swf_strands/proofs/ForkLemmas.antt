-- A strand that is put anew, and the branches of a `fork` that begins on it.
use Rattle.std.proofs.Common.{◌≡◌, ◌∙◌, refl, sym, ap, subst, ℕ, zero, suc, ◌+◌, ◌-◌, ◌≤◌, Bool, true, false, List, [], ◌∷◌, ◌++◌, length, get_or, Option, Some, None, append_assoc, append-nil, length-append, arith}
use Rattle.std.proofs.lemmas.Option.{same_Some}
use Rattle.std.proofs.lemmas.Bool.{eq-eqb, cond-true}
use Rattle.std.specs.Prelude.{◌==◌, is_some, slice_set, Result, Ok, Err, OnOk, IfErr}
use Rattle.swf_value.specs.Value.{Value}
use Rattle.swf_document.specs.Task.{Task, Tasks, no_tasks, named}
use Rattle.swf_frames.specs.Tree.{Tree, Strands, no_strands, strand, Branch, find, numbers, child, closed, fresh, split, top, with_top}
use Rattle.swf_frames.specs.Paths.{Found, nth, along, edit, AreDistinct}
use Rattle.swf_frames.proofs.PathLemmas.{edit-edit, edit-same, edit-walk, find-edit, changed-edit, with_below-edit}
use Rattle.swf_meaning.specs.Fork.{branches_of, fresh as fresh_nodes}
use Rattle.swf_meaning.specs.Next.{task_at}
use Rattle.swf_meaning.specs.Node.{Node, Live, Fresh, Forked, branch, Running}
use Rattle.swf_stack.specs.Stands.{inward}
use Rattle.swf_stack.specs.Stack.{plug, top_node, forked, made_node}
use Rattle.swf_stack.specs.declared.made.Stand.{Stand}
use Rattle.swf_stack.specs.declared.made.Top.{Top}
use Rattle.swf_stack.specs.declared.made.Top.TheVariants as tops
use Rattle.swf_strands.specs.Forks.{branches_in, fresh_stands, stand_node, IsPutAnew}
use Rattle.swf_strands.specs.Strands.{node_of, nodes_of, root_node, is_fork, made_stand, most_beside, IsGrown, IsGrownAt, IsHeld}
use Rattle.swf_strands.specs.Ways.{has_strand, replaced}
use Rattle.swf_strands.proofs.StrandLemmas.{held-some}
use Rattle.swf_strands.proofs.TreeLemmas.{nothing, yes-no, no-child, root-holds, at-nowhere, along-replaced, grown-along, IsAt, IsNowhere}

-- ---- a strand is put anew

no-first : (ss : Strands Stand) → nth ss 0 ≡ None → ss ≡ no_strands
no-first no_strands e = refl
no-first (strand m ls below after) e = absurd (nothing _ (sym e))

-- there is a top to put it in place of
pub put-top : (t new : Tree Stand) (n : ℕ) (s : Stand) (r : Result Stand Stand) → IsHeld t n → OnOk r (new ≡ with_top t n s) → IfErr r (λ given. (given ≡ s) × (top t n ≡ None)) → new ≡ with_top t n s
put-top t new n s (Ok x) held is none = is
put-top t new n s (Err x) held is none = let h = held-some t n held in absurd (nothing h.0 (sym none.1 ∙ h.1))

put-stand : (t new : Tree Stand) (n : ℕ) (s : Stand) → IsHeld t n → new ≡ with_top t n s → new.strands ≡ edit (λ b. record b { frames = s ∷ [] }) t.strands n
put-stand t new n s held e =
    let b = held.1.0 in
    let put : Branch Stand → Branch Stand = λ b. record b { frames = slice_set b.frames (length b.frames - 1) s } in
    let one = held.1.1.1.0.0 in
    ap (λ (x : Tree Stand). x.strands) e ∙ changed-edit (λ fs. slice_set fs (length fs - 1) s) t.strands n held.0
    ∙ edit-same put (λ b. record b { frames = s ∷ [] }) t.strands n b held.0 held.1.1.0 (ap (λ fs. record b { frames = slice_set fs (length fs - 1) s }) one.1)

-- those below it are closed
pub put-closed : (t mid new : Tree Stand) (n : ℕ) (s : Stand) → IsHeld t n → mid ≡ with_top t n s → new ≡ closed mid n → IsPutAnew n s t new
put-closed t mid new n s held e c =
    ap (λ (x : Tree Stand). x.strands) c
    ∙ with_below-edit no_strands mid.strands n
    ∙ ap (λ ss. edit (λ (b : Branch Stand). record b { below = no_strands }) ss n) (put-stand t mid n s held e)
    ∙ edit-edit (λ (b : Branch Stand). record b { below = no_strands }) (λ (b : Branch Stand). record b { frames = s ∷ [] }) t.strands n

no-one : (o : Option ℕ) (b : Bool) → b ≡ is_some o → b ≡ false → o ≡ None
no-one None b e f = refl
no-one (Some c) b e f = absurd (yes-no (sym e ∙ f))

-- there are none below it
pub put-open : (t new : Tree Stand) (n : ℕ) (s : Stand) → IsHeld t n → new ≡ with_top t n s → (o : Option ℕ) (some : Bool) → o ≡ child new n 0 → some ≡ is_some o → some ≡ false → IsPutAnew n s t new
put-open t new n s held e o some first told none =
    let b = held.1.0 in
    let f = held.1.1.0 in
    let put : Branch Stand → Branch Stand = λ x. record x { frames = s ∷ [] } in
    let is = put-stand t new n s held e in
    let found : find new.strands n ≡ Some (put b) = ap (λ ss. find ss n) is ∙ find-edit put t.strands n b held.0 f in
    let left : b.below ≡ no_strands = no-first b.below (no-child new n 0 None (sym (no-one o some told none) ∙ first) (put b) found) in
    is ∙ edit-same put (λ (x : Branch Stand). record { frames = s ∷ []; below = no_strands }) t.strands n b held.0 f (λ i. record { frames = s ∷ []; below = left i })

-- ---- the way from the root

pub at-held : (t : Tree Stand) (r c : ℕ) (is : List ℕ) → numbers t.strands ≡ r ∷ [] → AreDistinct t.strands → IsGrown t.strands → IsAt t r is c → IsHeld t c
at-held t r c is e d g way =
    let b = root-holds t r e g in
    let h = way b.0 b.1.0 in
    (d, (h.0, h.1.1))

pub no-way : (t : Tree Stand) (r : ℕ) (is : List ℕ) → numbers t.strands ≡ r ∷ [] → IsGrown t.strands → IsNowhere t r is → has_strand is (root_node t.strands) ≡ true → ⊥
no-way t r is e g none h =
    let b = root-holds t r e g in
    let nowhere = at-nowhere is (record { number = r; held = b.0 }) b.1.1.0 (none b.0 b.1.0) in
    yes-no (sym h ∙ ap (has_strand is) b.1.1.1.1 ∙ ap is_some nowhere)

edit-root : (g : Branch Stand → Branch Stand) (r : ℕ) (b : Branch Stand) → edit g (strand r b.frames b.below no_strands) r ≡ strand r (g b).frames (g b).below no_strands
edit-root g r b = ap (λ (x : Branch Stand). strand r x.frames x.below no_strands) (cond-true (r == r) _ _ (eq-eqb r r refl))

-- a strand holds something else
abbrev pub IsWith : Strands Stand → List ℕ → Node → Strands Stand → Type 0
IsWith old is m new = IsGrown new × (root_node new ≡ replaced is m (root_node old))

pub put-there : (t : Tree Stand) (new : Strands Stand) (r c : ℕ) (is : List ℕ) (x : Branch Stand) → numbers t.strands ≡ r ∷ [] → AreDistinct t.strands → IsGrown t.strands → IsAt t r is c → IsGrownAt x → new ≡ edit (λ b. x) t.strands c → IsWith t.strands is (node_of x) new
put-there t new r c is x e d g way gx made =
    let b = root-holds t r e g in
    let h = way b.0 b.1.0 in
    let put : Branch Stand → Branch Stand = λ b. x in
    let from : Found Stand = record { number = r; held = b.0 } in
    let to : Found Stand = record { number = c; held = h.0 } in
    let y = along is put b.0 in
    let all : new ≡ strand r y.frames y.below no_strands = made ∙ edit-walk put t.strands is from to d b.1.0 h.1.0 ∙ ap (λ ss. edit (along is put) ss r) b.1.1.1.0 ∙ edit-root (along is put) r b.0 in
    let gy = grown-along is put from to b.1.1.0 h.1.0 gx in (
      subst IsGrown (sym all) (gy.0, gy.1, tt),
      ap root_node all ∙ along-replaced is put from to b.1.1.0 h.1.0 ∙ ap (replaced is (node_of x)) (sym b.1.1.1.1),
    )

-- with none below it
pub put-alone : (t new : Tree Stand) (r c : ℕ) (is : List ℕ) (s : Stand) → numbers t.strands ≡ r ∷ [] → AreDistinct t.strands → IsGrown t.strands → IsAt t r is c → IsPutAnew c s t new → IsWith t.strands is (stand_node s) new.strands
put-alone t new r c is s e d g way made =
    put-there t new.strands r c is (record { frames = s ∷ []; below = no_strands }) e d g way (((s, refl), (λ isnt. refl), omega arith), tt) made

-- ---- the branches of a `fork` that begins

-- a branch that has not begun
abbrev pub fresh-stand : Task → Value → Stand
fresh-stand t u = record { around = []; top = tops.Fresh t u }

-- those from a number on
abbrev pub tasks_from : ℕ → Tasks → Tasks
tasks_from zero ts = ts
tasks_from (suc i) no_tasks = no_tasks
tasks_from (suc i) (named k t ts) = tasks_from i ts

from-task : (ts : Tasks) (i : ℕ) (t : Task) (u : Value) → task_at ts i ≡ Some t → fresh_stands (tasks_from i ts) u ≡ fresh-stand t u ∷ fresh_stands (tasks_from (suc i) ts) u
from-task no_tasks i t u e = absurd (nothing t e)
from-task (named k r ts) zero t u e = ap (λ x. fresh-stand x u ∷ fresh_stands ts u) (same_Some r t e)
from-task (named k r ts) (suc i) t u e = from-task ts i t u e

from-none : (ts : Tasks) (i : ℕ) → task_at ts i ≡ None → tasks_from i ts ≡ no_tasks
from-none no_tasks zero e = refl
from-none no_tasks (suc i) e = refl
from-none (named k r ts) zero e = absurd (nothing r (sym e))
from-none (named k r ts) (suc i) e = from-none ts i e

-- these are the first branches
abbrev pub AreFirst : Running → List Stand → Type 0
AreFirst r ls = fresh_stands (branches_of r.task) r.input ≡ ls ++ fresh_stands (tasks_from (length ls) (branches_of r.task)) r.input

pub first-more : (r : Running) (t : Task) (ls : List Stand) (n : ℕ) (l : Stand) → AreFirst r ls → n ≡ length ls → task_at (branches_of r.task) n ≡ Some t → l ≡ fresh-stand t r.input → AreFirst r (ls ++ l ∷ [])
first-more r t ls n l first len e is =
    let ts = branches_of r.task in
    let u = r.input in
    let more : length (ls ++ l ∷ []) ≡ suc (length ls) = omega (arith, length-append ls (l ∷ [])) in
    first
    ∙ ap (λ xs. ls ++ xs) (from-task ts (length ls) t u (ap (task_at ts) (sym len) ∙ e) ∙ ap (λ x. x ∷ fresh_stands (tasks_from (suc (length ls)) ts) u) (sym is))
    ∙ sym (append_assoc ls (l ∷ []) (fresh_stands (tasks_from (suc (length ls)) ts) u))
    ∙ ap (λ k. (ls ++ l ∷ []) ++ fresh_stands (tasks_from k ts) u) (sym more)

pub first-all : (r : Running) (ls : List Stand) (n : ℕ) → AreFirst r ls → n ≡ length ls → task_at (branches_of r.task) n ≡ None → ls ≡ fresh_stands (branches_of r.task) r.input
first-all r ls n first len e =
    let ts = branches_of r.task in
    sym (first ∙ ap (λ xs. ls ++ fresh_stands xs r.input) (from-none ts (length ls) (ap (task_at ts) (sym len) ∙ e)) ∙ append-nil ls)

-- a `fork` alone has branches
abbrev IsForkWith : Top → List Stand → Type 0
IsForkWith t bs = (r : Running) × ((t ≡ tops.Forked r) × (bs ≡ fresh_stands (branches_of r.task) r.input))

fork-with : (t : Top) (bs : List Stand) → branches_in t ≡ Some bs → IsForkWith t bs
fork-with (tops.Fresh r v) bs e = absurd (nothing bs e)
fork-with (tops.Done w f) bs e = absurd (nothing bs e)
fork-with (tops.Fault p) bs e = absurd (nothing bs e)
fork-with (tops.Waiting r n m) bs e = absurd (nothing bs e)
fork-with (tops.Hearing r b hs) bs e = absurd (nothing bs e)
fork-with (tops.Awaiting r a q o) bs e = absurd (nothing bs e)
fork-with (tops.Forked r) bs e = (r, (refl, sym (same_Some _ bs e)))

numbers-fresh : (n : ℕ) (ls : List Stand) → length (numbers (fresh n ls)) ≡ length ls
numbers-fresh n [] = refl
numbers-fresh n (l ∷ ls) = ap (λ k. suc k) (numbers-fresh (suc n) ls)

grown-fresh : (n : ℕ) (ts : Tasks) (u : Value) → IsGrown (fresh n (fresh_stands ts u))
grown-fresh n no_tasks u = tt
grown-fresh n (named k t ts) u = (((fresh-stand t u, refl), (λ isnt. refl), omega arith), tt, grown-fresh (suc n) ts u)

nodes-fresh : (n : ℕ) (ts : Tasks) (u : Value) → nodes_of (fresh n (fresh_stands ts u)) ≡ fresh_nodes ts u
nodes-fresh n no_tasks u = refl
nodes-fresh n (named k t ts) u = ap (branch (Fresh t u)) (nodes-fresh (suc n) ts u)

-- the strand on which it begins
pub put-fork : (t mid new : Tree Stand) (r c : ℕ) (is : List ℕ) (s : Stand) (bs : List Stand) → numbers t.strands ≡ r ∷ [] → AreDistinct t.strands → IsGrown t.strands → IsAt t r is c → branches_in s.top ≡ Some bs → length bs ≤ most_beside →
    IsPutAnew c s t mid → new ≡ split mid c bs → IsWith t.strands is (made_stand s) new.strands
put-fork t mid new r c is s bs e d g way b few made is-split =
    let f = fork-with s.top bs b in
    let below = fresh mid.next bs in
    let x : Branch Stand = record { frames = s ∷ []; below = below } in
    let fork : is_fork s.top ≡ true = ap is_fork f.1.0 in
    let grown : IsGrown below = subst (λ xs. IsGrown (fresh mid.next xs)) (sym f.1.1) (grown-fresh mid.next (branches_of f.0.task) f.0.input) in
    let gx : IsGrownAt x = (((s, refl), (λ isnt. absurd (yes-no (sym fork ∙ isnt))), subst (λ k. k ≤ most_beside) (sym (numbers-fresh mid.next bs)) few), grown) in
    let all : new.strands ≡ edit (λ b. x) t.strands c =
    ap (λ (y : Tree Stand). y.strands) is-split
    ∙ with_below-edit below mid.strands c
    ∙ ap (λ ss. edit (λ (b : Branch Stand). record b { below = below }) ss c) made
    ∙ edit-edit (λ (b : Branch Stand). record b { below = below }) (λ (b : Branch Stand). record { frames = s ∷ []; below = no_strands }) t.strands c in
    let node : node_of x ≡ made_stand s =
    ap (λ y. plug (inward s.around) (forked (top_node y) (nodes_of below))) f.1.0
    ∙ ap (λ xs. plug (inward s.around) (Live f.0 (Forked (nodes_of (fresh mid.next xs))))) f.1.1
    ∙ ap (λ ns. plug (inward s.around) (Live f.0 (Forked ns))) (nodes-fresh mid.next (branches_of f.0.task) f.0.input)
    ∙ sym (ap (λ y. plug (inward s.around) (made_node y)) f.1.0) in
    let put = put-there t new.strands r c is x e d g way gx all in
    (put.0, put.1 ∙ ap (λ m. replaced is m (root_node t.strands)) node)
