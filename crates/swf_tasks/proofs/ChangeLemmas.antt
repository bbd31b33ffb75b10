-- A step changes one strand of a node.
use Rattle.std.proofs.Common.{◌≡◌, ◌∙◌, refl, sym, ap, subst, ℕ, zero, suc, ◌+◌, ◌≤◌, ◌<◌, Bool, true, false, List, [], ◌∷◌, ◌++◌, length, take, drop, Option, Some, None, Ok, Err, is_some, add-one, arith}
use Rattle.std.specs.Prelude.{get_or, nat_eq, option_map, option_and_then, option_to_list, slice_get, if◌then◌else◌, Result, IfOk}
use Rattle.std.proofs.lemmas.Bool.{eq-eqb, eqb-true}
use Rattle.std.proofs.lemmas.List.{drop_all}
use Rattle.std.proofs.lemmas.Option.{same_Some, slice_get-get_or}
use Rattle.swf_value.specs.Value.{Value}
use Rattle.swf_document.specs.declared.common.Flow.TheVariants as flows
use Rattle.swf_document.specs.declared.error.Problem.{Problem}
use Rattle.swf_frames.specs.Tree.{Tree, Branch, find}
use Rattle.swf_frames.specs.Paths.{Found, nth}
use Rattle.swf_meaning.specs.Complete.{Stepped, becomes, complete, step_of}
use Rattle.swf_meaning.specs.Fork.{after_branch, competes, joined, outputs, put, settled}
use Rattle.swf_meaning.specs.Line.{Line, Site}
use Rattle.swf_meaning.specs.Local.{local, rule}
use Rattle.swf_meaning.specs.Put.{put_branch}
use Rattle.swf_meaning.specs.Strands.{can_go, can_top}
use Rattle.swf_meaning.specs.Top.{top_branch, top_is, line_branch}
use Rattle.swf_meaning.specs.Node.{Node, Fresh, Live, Done, Fault, Forked, Nodes, no_nodes, branch, Running}
use Rattle.swf_rules.specs.Settles.{ending, MakesSome}
use Rattle.swf_stack.specs.Stands.{frames_of, inward, top_of}
use Rattle.swf_stack.specs.Kept.{context_kept, kept}
use Rattle.swf_stack.specs.Stack.{context_or, plug, top_node, made_node, stepped_of, seen_in}
use Rattle.swf_stack.proofs.StandLemmas.{inward-more}
use Rattle.swf_scene.specs.Halts.{Makes}
use Rattle.swf_scene.specs.declared.halt.Halt.{Halt}
use Rattle.swf_scene.specs.declared.halt.Halt.TheVariants as halts
use Rattle.swf_stack.specs.declared.made.Frame.{Frame}
use Rattle.swf_stack.specs.declared.made.Stand.{Stand}
use Rattle.swf_stack.specs.declared.made.Made.{Made}
use Rattle.swf_stack.specs.declared.made.Top.{Top}
use Rattle.swf_stack.specs.declared.made.Top.TheVariants as tops
use Rattle.swf_tasks.specs.Installed.{put_in, IsStep, outer, own_node}
use Rattle.swf_tasks.specs.Stepped.{IsChange, IsChangeOf, IsForkOf, change_at, ended_at, ended_in, if_ended, has_ended, listed}
use Rattle.swf_strands.specs.Strands.{made_stand, node_of, nodes_of, is_fork, IsGrownAt, IsHeld}
use Rattle.swf_strands.specs.Ways.{has_strand, replaced}
use Rattle.swf_tasks.specs.declared.prepared.Prepared.{Prepared}
use Rattle.swf_tasks.specs.declared.prepared.Strands.TheVariants as strands
use Rattle.swf_tasks.proofs.KeptLemmas.{plug-append, put_in-made, put_in-same}
use Rattle.swf_tasks.proofs.StepLemmas.{is_open, open-plug, local-put, local-plug}
use Rattle.swf_strands.proofs.AskLemmas.{can_go-live}
use Rattle.swf_strands.proofs.TopLemmas.{top-no-child}
use Rattle.swf_strands.proofs.TreeLemmas.{nth_node, nth_node-of, nothing, yes-no, has-fork, fork-node, at-child, replaced-fork, plain-node, held-is, IsChild}
use Rattle.swf_strands.proofs.OrderLemmas.{can_go-child}

-- ---- what stands innermost takes its step

-- what a rule makes, with these tasks around it
pub made-around : (fs : List Frame) (m : Made) (h : Stand) → h.around ≡ option_to_list m.frame ++ fs → h.top ≡ m.top → made_stand h ≡ plug (inward fs) (plug (option_to_list m.frame) (made_node m.top))
made-around fs m h a t =
    (λ i. plug (inward (a i)) (made_node (t i))) ∙ ap (λ gs. plug gs (made_node m.top)) (inward-more fs m.frame) ∙ plug-append (inward fs) (option_to_list m.frame) (made_node m.top)

pub own-change : (s : Site) (l : Line) (h : Stand) (m : Made) (x : Stand) (way : List ℕ) (above : ℕ) (p : Prepared) → IsStep s l h m → p.strands ≡ strands.One above x → x.around ≡ option_to_list m.frame ++ kept (outer h.top h.around) m.context → x.top ≡ m.top →
    p.context ≡ context_kept (outer h.top h.around) m.context → p.emitted ≡ m.emitted → p.strand ≡ way → p.number ≡ s.number + m.used → IsChange s l way above [] (own_node h) p
own-change s l h m x way above p step puts a t c e named number = record {
  depth = 0;
  stand = x;
  used = m.used;
  puts = puts ∙ ap (λ n. strands.One n x) (omega arith);
  deep = omega arith;
  there = refl;
  step = step ∙ ap Some (put_in-made l (outer h.top h.around) (stepped_of (seen_in l (inward (outer h.top h.around))) m) m.context refl)
      ∙ ap Some (λ i. record { node = sym (made-around (kept (outer h.top h.around) m.context) m x a t) i; context = context_or l.context (sym c i); used = m.used; emitted = sym e i });
  named = named;
  number = number;
}

-- ---- a branch takes its step

local-among : (s : Site) (l : Line) (i : ℕ) (bs : List ℕ) (ns : Nodes) (n : Node) (f : Stepped → Stepped) → nth_node ns i ≡ Some n →
    option_map (λ x. f (put_branch l i bs ns (step_of (line_branch l i bs ns) x))) (option_and_then (rule s (line_branch l i bs ns)) (top_branch i bs ns)) ≡ option_map f (local s l bs n)
local-among s l i bs no_nodes n f e = absurd (nothing n e)
local-among s l zero bs (branch m ns) n f e = local-put s l bs m f ∙ ap (λ k. option_map f (local s l bs k)) (same_Some m n e)
local-among s l (suc i) bs (branch m ns) n f e = local-among s l i bs ns n f e

-- inside running tasks a branch of a `fork` takes its step
local-fork : (s : Site) (l : Line) (fs : List Frame) (r : Running) (ns : Nodes) (i : ℕ) (bs : List ℕ) (n : Node) (m : Stepped) → nth_node ns i ≡ Some n → local s (seen_in l fs) bs n ≡ Some m →
    local s l (i ∷ bs) (plug fs (Live r (Forked ns))) ≡ Some (put_in l fs (after_branch (seen_in l fs) r ns i m))
local-fork s l fs r ns i bs n m e h =
    let z = seen_in l fs in
    local-plug s l (i ∷ bs) fs (Live r (Forked ns)) (after_branch z r ns i m) refl (local-among s z i bs ns n (after_branch z r ns i) e ∙ ap (option_map (after_branch z r ns i)) h)

-- the `fork` goes on with what the branch became, and the context as it was
abbrev pub goes_with : Line → Running → Nodes → ℕ → Stepped → Stepped
goes_with l r ns i m = record m { node = Live r (Forked (put ns i m.node)); context = l.context }

-- it does so while the branch has not ended
open-after : (l : Line) (r : Running) (ns : Nodes) (i : ℕ) (m : Stepped) → is_open m.node ≡ true → after_branch l r ns i m ≡ goes_with l r ns i m
open-after l r ns i m e = by m.node refl
  where
    same : (n : Node) → n ≡ m.node → settled l r (competes r.task) (put ns i m.node) n ≡ Ok (becomes l (Live r (Forked (put ns i m.node)))) → after_branch l r ns i m ≡ goes_with l r ns i m
    same n h is = ap (λ x. record (step_of l x) { used = m.used; emitted = m.emitted }) (ap (settled l r (competes r.task) (put ns i m.node)) (sym h) ∙ is)

    by : (n : Node) → n ≡ m.node → after_branch l r ns i m ≡ goes_with l r ns i m
    by (Fresh t v) h = same (Fresh t v) h refl
    by (Live q x) h = same (Live q x) h refl
    by (Done w f) h = absurd (yes-no (sym e ∙ ap is_open (sym h)))
    by (Fault p) h = absurd (yes-no (sym e ∙ ap is_open (sym h)))

-- what a strand that is put anew ended in, where that is the outermost
abbrev pub ended_of : ℕ → Stand → Option Top
ended_of zero h = ended_in h.around h.top
ended_of (suc n) h = None

ended-of : (n d : ℕ) (h : Stand) → ended_at n (strands.One (n + d) h) ≡ ended_of d h
ended-of n zero h = ap (λ b. if b then ended_in h.around h.top else None) (eq-eqb (n + 0) n (omega arith))
ended-of n (suc d) h = by (nat_eq (n + suc d) n) refl
  where
    by : (b : Bool) → nat_eq (n + suc d) n ≡ b → (if nat_eq (n + suc d) n then ended_in h.around h.top else None) ≡ None
    by true e = let same = eqb-true (n + suc d) n e in absurd (omega (arith, same))
    by false e = ap (λ b. if b then ended_in h.around h.top else None) e

-- what the outermost strand is after the step: what it ended in, or a task that has not ended
pub open-or-ended : (d : ℕ) (bs : List ℕ) (h : Stand) (n : Node) → d ≤ length bs → has_strand (take d bs) n ≡ true → ended_of d h ≡ None → is_open (replaced (take d bs) (made_stand h) n) ≡ true
open-or-ended zero bs h n l there none = open-in h.around h.top none
  where
    open-top : (t : Top) → if_ended t ≡ None → is_open (made_node t) ≡ true
    open-top (tops.Fresh r v) e = refl
    open-top (tops.Done w f) e = absurd (nothing _ (sym e))
    open-top (tops.Fault p) e = absurd (nothing _ (sym e))
    open-top (tops.Waiting r k m) e = refl
    open-top (tops.Hearing r b hs) e = refl
    open-top (tops.Awaiting r a q o) e = refl
    open-top (tops.Forked r) e = refl

    open-in : (fs : List Frame) (t : Top) → ended_in fs t ≡ None → is_open (plug (inward fs) (made_node t)) ≡ true
    open-in [] t e = open-top t e
    open-in (f ∷ fs) t e = ap is_open (plug-append (inward fs) (f ∷ []) (made_node t)) ∙ open-plug (inward fs) (plug (f ∷ []) (made_node t)) refl
open-or-ended (suc d) [] h n l there none = absurd (omega (arith, l))
open-or-ended (suc d) (b ∷ bs) h (Fresh t v) l there none = absurd (yes-no (sym there))
open-or-ended (suc d) (b ∷ bs) h (Live t k) l there none = refl
open-or-ended (suc d) (b ∷ bs) h (Done w f) l there none = absurd (yes-no (sym there))
open-or-ended (suc d) (b ∷ bs) h (Fault p) l there none = absurd (yes-no (sym there))

-- ---- the change of a branch is one of the strand

-- the line of what stands on the strand
abbrev pub line_on : Line → Branch Stand → Line
line_on l b = seen_in l (frames_of b.frames)

-- what the branch of that number, which holds this, comes to
abbrev pub branch_at : {s : Site} {z : Line} {way : List ℕ} {above : ℕ} (h : Found Stand) (inner : List ℕ) (p : Prepared) → IsChange s z way above inner (node_of h.held) p → Stepped
branch_at {z = z} h inner p change = change_at change.depth change.stand z.context change.used p inner (node_of h.held)

-- the strand with the branch anew
goes-on : (s : Site) (l : Line) (way : List ℕ) (above : ℕ) (b : Branch Stand) (i : ℕ) (h : Found Stand) (inner : List ℕ) (p r : Prepared) → IsGrownAt b → nth b.below i ≡ Some h → (change : IsChange s (line_on l b) way (above + 1) inner (node_of h.held) p) →
    ((q : Running) → top_of b.frames ≡ tops.Forked q → after_branch (line_on l b) q (nodes_of b.below) i (branch_at h inner p change) ≡ goes_with (line_on l b) q (nodes_of b.below) i (branch_at h inner p change)) →
    r ≡ record p { context = None } → IsChange s l way above (i ∷ inner) (node_of b) r
goes-on s l way above b i h inner p r g e change after is = subst (IsChange s l way above (i ∷ inner) (node_of b)) (sym is) (record {
  depth = suc d;
  stand = change.stand;
  used = change.used;
  puts = change.puts ∙ ap (λ n. strands.One n change.stand) (omega arith);
  deep = omega (arith, change.deep);
  there = ap is_some (at-child b i (take d inner) h g e) ∙ change.there;
  step = ap (local s l (i ∷ inner)) f.1.1
      ∙ local-fork s l fs f.0 ns i inner (node_of h.held) x n change.step
      ∙ ap (λ y. Some (put_in l fs y)) (after f.0 f.1.0)
      ∙ ap Some (put_in-same l fs (goes_with (line_on l b) f.0 ns i x) refl)
      ∙ ap (λ m. Some (record x { node = m; context = l.context })) (sym node);
  named = change.named;
  number = change.number;
})
  where
    d : ℕ
    d = change.depth

    fs : List Frame
    fs = frames_of b.frames

    ns : Nodes
    ns = nodes_of b.below

    x : Stepped
    x = branch_at h inner p change

    n : nth_node ns i ≡ Some (node_of h.held)
    n = nth_node-of b.below i h e

    f : (q : Running) × ((top_of b.frames ≡ tops.Forked q) × (node_of b ≡ plug fs (Live q (Forked ns))))
    f = fork-node b.frames ns (has-fork b i h g e)

    node : replaced (i ∷ take d inner) (made_stand change.stand) (node_of b) ≡ plug fs (Live f.0 (Forked (put ns i x.node)))
    node = ap (replaced (i ∷ take d inner) (made_stand change.stand)) f.1.1 ∙ replaced-fork i (take d inner) (made_stand change.stand) fs f.0 ns (node_of h.held) n

-- what the branch ended in
ended-branch : (s : Site) (z : Line) (way : List ℕ) (above : ℕ) (inner : List ℕ) (n : Node) (p : Prepared) (o : Option Top) → (change : IsChange s z way above inner n p) → ended_at above p.strands ≡ o → ended_of change.depth change.stand ≡ o
ended-branch s z way above inner n p o change e = sym (ended-of above change.depth change.stand) ∙ sym (ap (ended_at above) change.puts) ∙ e

-- where the branch has not ended
pub goes-deeper : (s : Site) (l : Line) (way : List ℕ) (above : ℕ) (b : Branch Stand) (i : ℕ) (h : Found Stand) (inner : List ℕ) (p r : Prepared) → IsGrownAt b → nth b.below i ≡ Some h → IsChange s (line_on l b) way (above + 1) inner (node_of h.held) p →
    ended_at (above + 1) p.strands ≡ None → r ≡ record p { context = None } → IsChange s l way above (i ∷ inner) (node_of b) r
goes-deeper s l way above b i h inner p r g e change none =
    goes-on s l way above b i h inner p r g e change
    (λ q top. open-after (line_on l b) q (nodes_of b.below) i (branch_at h inner p change)
    (open-or-ended change.depth inner change.stand (node_of h.held) change.deep change.there (ended-branch s (line_on l b) way (above + 1) inner (node_of h.held) p None change none)))

-- ---- a branch ends

abbrev pub or_on : Line → Running → Nodes → Option Stepped → Stepped
or_on l r ns None = becomes l (Live r (Forked ns))
or_on l r ns (Some m) = m

or-joined : (l : Line) (r : Running) (ns : Nodes) (compete : Bool) (w : Value) (ws : Option (List Value)) →
    step_of l (if compete then complete l r w else joined l r ns ws) ≡ or_on l r ns (option_map (step_of l) (if compete then Some (complete l r w) else option_map (complete l r) (option_map listed ws)))
or-joined l r ns true w ws = refl
or-joined l r ns false w None = refl
or-joined l r ns false w (Some ws) = refl

-- what becomes of the `fork`
settled-ending : (l : Line) (r : Running) (compete : Bool) (ns : Nodes) (x : Top) → has_ended x ≡ true → step_of l (settled l r compete ns (top_node x)) ≡ or_on l r ns (option_map (step_of l) (ending l r compete (option_map listed (outputs ns)) x))
settled-ending l r compete ns (tops.Fresh t w) e = absurd (yes-no (sym e))
settled-ending l r compete ns (tops.Waiting q n m) e = absurd (yes-no (sym e))
settled-ending l r compete ns (tops.Hearing q b hs) e = absurd (yes-no (sym e))
settled-ending l r compete ns (tops.Awaiting q a u o) e = absurd (yes-no (sym e))
settled-ending l r compete ns (tops.Forked q) e = absurd (yes-no (sym e))
settled-ending l r compete ns (tops.Done w flows.End) e = refl
settled-ending l r compete ns (tops.Done w flows.Continue) e = or-joined l r ns compete w (outputs ns)
settled-ending l r compete ns (tops.Done w flows.Exit) e = or-joined l r ns compete w (outputs ns)
settled-ending l r compete ns (tops.Done w (flows.Task k)) e = or-joined l r ns compete w (outputs ns)
settled-ending l r compete ns (tops.Fault p) e = refl

ended-top : (t x : Top) → if_ended t ≡ Some x → (t ≡ x) × (has_ended x ≡ true)
ended-top (tops.Fresh r v) x e = absurd (nothing x e)
ended-top (tops.Waiting r n m) x e = absurd (nothing x e)
ended-top (tops.Hearing r b hs) x e = absurd (nothing x e)
ended-top (tops.Awaiting r a q o) x e = absurd (nothing x e)
ended-top (tops.Forked r) x e = absurd (nothing x e)
ended-top (tops.Done w f) x e = (same_Some _ x e, ap has_ended (sym (same_Some (tops.Done w f) x e)))
ended-top (tops.Fault p) x e = (same_Some _ x e, ap has_ended (sym (same_Some (tops.Fault p) x e)))

made-ended : (x : Top) → has_ended x ≡ true → made_node x ≡ top_node x
made-ended (tops.Fresh r v) e = refl
made-ended (tops.Waiting r n m) e = refl
made-ended (tops.Hearing r b hs) e = refl
made-ended (tops.Awaiting r a q o) e = refl
made-ended (tops.Forked r) e = absurd (yes-no (sym e))
made-ended (tops.Done w f) e = refl
made-ended (tops.Fault p) e = refl

-- the node of a branch that ended, where that is put anew
ended-alone : (fs : List Frame) (t x : Top) → ended_in fs t ≡ Some x → (has_ended x ≡ true) × (plug (inward fs) (made_node t) ≡ top_node x)
ended-alone [] t x e = let h = ended-top t x e in (h.1, ap made_node h.0 ∙ made-ended x h.1)
ended-alone (f ∷ fs) t x e = absurd (nothing x e)

pub ended-node : (d : ℕ) (bs : List ℕ) (h : Stand) (n : Node) (x : Top) → ended_of d h ≡ Some x → (has_ended x ≡ true) × (replaced (take d bs) (made_stand h) n ≡ top_node x)
ended-node zero bs h n x e = ended-alone h.around h.top x e
ended-node (suc d) bs h n x e = absurd (nothing x e)

-- what the `fork` ends in whose branch ended
abbrev ends : Line → Branch Stand → ℕ → Top → Running → Option Stepped
ends l b i x r = option_map (step_of l) (ending l r (competes r.task) (option_map listed (outputs (put (nodes_of b.below) i (top_node x)))) x)

after-ended : (s : Site) (l z : Line) (way : List ℕ) (above : ℕ) (b : Branch Stand) (i : ℕ) (h : Found Stand) (inner : List ℕ) (p : Prepared) (x : Top) (r : Running) → (change : IsChange s z way above inner (node_of h.held) p) → ended_of change.depth change.stand ≡ Some x →
    after_branch l r (nodes_of b.below) i (branch_at h inner p change) ≡ record (or_on l r (put (nodes_of b.below) i (top_node x)) (ends l b i x r)) { used = change.used; emitted = p.emitted }
after-ended s l z way above b i h inner p x r change e =
    let n = ended-node change.depth inner change.stand (node_of h.held) x e in
    ap (λ y. record (step_of l (settled l r (competes r.task) (put (nodes_of b.below) i y) y)) { used = change.used; emitted = p.emitted }) n.1
    ∙ ap (λ (y : Stepped). record y { used = change.used; emitted = p.emitted }) (settled-ending l r (competes r.task) (put (nodes_of b.below) i (top_node x)) x n.0)

-- it goes on
pub settle-on : (s : Site) (l : Line) (way : List ℕ) (above : ℕ) (b : Branch Stand) (i : ℕ) (h : Found Stand) (inner : List ℕ) (p r : Prepared) (x : Top) → IsGrownAt b → nth b.below i ≡ Some h → IsChange s (line_on l b) way (above + 1) inner (node_of h.held) p →
    ended_at (above + 1) p.strands ≡ Some x → ((q : Running) → top_of b.frames ≡ tops.Forked q → ends (line_on l b) b i x q ≡ None) → r ≡ record p { context = None } → IsChange s l way above (i ∷ inner) (node_of b) r
settle-on s l way above b i h inner p r x g e change ended none =
    let z = line_on l b in
    let done = ended-branch s z way (above + 1) inner (node_of h.held) p (Some x) change ended in
    goes-on s l way above b i h inner p r g e change (λ q top.
    after-ended s z z way (above + 1) b i h inner p x q change done
    ∙ ap (λ o. record (or_on z q (put (nodes_of b.below) i (top_node x)) o) { used = change.used; emitted = p.emitted }) (none q top)
    ∙ ap (λ y. record (branch_at h inner p change) { node = Live q (Forked (put (nodes_of b.below) i y)); context = z.context }) (sym (ended-node change.depth inner change.stand (node_of h.held) x done).1))

-- it ends
pub settle-off : (s : Site) (l : Line) (way : List ℕ) (above : ℕ) (b : Branch Stand) (i : ℕ) (h : Found Stand) (inner : List ℕ) (p r : Prepared) (x : Top) (m : Made) (top y : Stand) → IsGrownAt b → nth b.below i ≡ Some h → IsChange s (line_on l b) way (above + 1) inner (node_of h.held) p →
    ended_at (above + 1) p.strands ≡ Some x → ((q : Running) → top_of b.frames ≡ tops.Forked q → ends (line_on l b) b i x q ≡ Some (stepped_of (line_on l b) m)) → b.frames ≡ top ∷ [] →
    y.around ≡ option_to_list m.frame ++ kept top.around m.context → y.top ≡ m.top → r ≡ record p { strands = strands.One above y; context = context_kept top.around m.context } → IsChange s l way above (i ∷ inner) (node_of b) r
settle-off s l way above b i h inner p r x m top y g e change ended some one a t is = subst (IsChange s l way above (i ∷ inner) (node_of b)) (sym is) (record {
  depth = 0;
  stand = y;
  used = change.used;
  puts = ap (λ n. strands.One n y) (omega arith);
  deep = omega arith;
  there = refl;
  step = ap (local s l (i ∷ inner)) f.1.1
      ∙ local-fork s l fs f.0 (nodes_of b.below) i inner (node_of h.held) (branch_at h inner p change) (nth_node-of b.below i h e) change.step
      ∙ ap (λ k. Some (put_in l fs k)) (after-ended s z z way (above + 1) b i h inner p x f.0 change (ended-branch s z way (above + 1) inner (node_of h.held) p (Some x) change ended))
      ∙ ap (λ o. Some (put_in l fs (record (or_on z f.0 (put (nodes_of b.below) i (top_node x)) o) { used = change.used; emitted = p.emitted }))) (some f.0 f.1.0)
      ∙ ap Some (placed z refl)
      ∙ ap (λ n. Some (record { node = n; context = context_or l.context (context_kept top.around m.context); used = change.used; emitted = p.emitted })) (sym (made-around (kept top.around m.context) m y a t));
  named = change.named;
  number = change.number;
})
  where
    fs : List Frame
    fs = frames_of b.frames

    z : Line
    z = line_on l b

    f : (q : Running) × ((top_of b.frames ≡ tops.Forked q) × (node_of b ≡ plug fs (Live q (Forked (nodes_of b.below)))))
    f = fork-node b.frames (nodes_of b.below) (has-fork b i h g e)

    same : fs ≡ inward top.around
    same = ap frames_of one

    placed : (k : Line) → k ≡ z → put_in l fs (record (stepped_of k m) { used = change.used; emitted = p.emitted }) ≡
        record { node = plug (inward (kept top.around m.context)) (plug (option_to_list m.frame) (made_node m.top)); context = context_or l.context (context_kept top.around m.context); used = change.used; emitted = p.emitted }
    placed k is =
        ap (λ gs. put_in l gs (record (stepped_of k m) { used = change.used; emitted = p.emitted })) same
        ∙ put_in-made l top.around (record (stepped_of k m) { used = change.used; emitted = p.emitted }) m.context
        (ap (λ (w : Line). context_or w.context m.context) (is ∙ ap (seen_in l) same))

-- ---- what the rule of a `fork` gives

abbrev on_fork : (Running → Type 0) → Top → Type 0
on_fork P (tops.Forked r) = P r
on_fork P t = Unit {0}

-- what it makes of the branch that ended is what the definition does
pub settles-to : (z l : Line) (b : Branch Stand) (i : ℕ) (x : Top) (a : Running) (compete : Bool) (o : Option Value) (e : Option Stepped) → z ≡ l → compete ≡ competes a.task →
    o ≡ option_map listed (outputs (put (nodes_of b.below) i (top_node x))) → option_map (step_of z) (ending z a compete o x) ≡ e → top_of b.frames ≡ tops.Forked a → (r : Running) → top_of b.frames ≡ tops.Forked r → ends l b i x r ≡ e
settles-to z l b i x a compete o e hz hc ho he ha r hr = subst (on_fork (λ q. ends l b i x q ≡ e)) (sym ha ∙ hr) here
  where
    here : ends l b i x a ≡ e
    here = sym (λ j. option_map (step_of (hz j)) (ending (hz j) a (hc j) (ho j) x)) ∙ he

-- where it ends in an error
pub halted : (z : Line) (r : Running) (e : Option (Result Stepped Problem)) (h : Halt) (m : Made) → MakesSome z e (Err h) → ((y : Line) (g : Result Stepped Problem) → Makes y g (Err h) → stepped_of y m ≡ step_of y g) → option_map (step_of z) e ≡ Some (stepped_of z m)
halted z r e (halts.Fault p) m h k = ap (option_map (step_of z)) h ∙ ap Some (sym (k z (Err p) refl))
halted z r e halts.OutOfMemory m h k =
    absurd (yes-no (sym (ap (λ (x : Stepped). is_open x.node) (k z (Ok (becomes z (Fresh r.task r.raw))) tt)) ∙ ap (λ (x : Stepped). is_open x.node) (k z (Ok (becomes z (Done r.raw flows.Continue))) tt)))

-- ---- options

pub none-of : {A B : Type 0} (f : A → B) (o : Option A) (p : Option B) → option_map f o ≡ p → ((x : A) → o ≡ Some x → ⊥) → p ≡ None
none-of f None p e q = sym e
none-of f (Some x) p e q = absurd (q x refl)

pub some-of : {A B : Type 0} (f : A → B) (o : Option A) (p : Option B) (x : A) → option_map f o ≡ p → o ≡ Some x → p ≡ Some (f x)
some-of f o p x e is = sym e ∙ ap (option_map f) is

-- ---- the branch that a way begins with

pub own-fork : (now : ℕ) (b : Branch Stand) → can_go now [] (node_of b) ≡ true → is_fork (top_of b.frames) ≡ false
own-fork now b can = by (is_fork (top_of b.frames)) refl
  where
    by : (x : Bool) → is_fork (top_of b.frames) ≡ x → is_fork (top_of b.frames) ≡ false
    by false e = e
    by true e =
        let f = fork-node b.frames (nodes_of b.below) e in
        absurd (yes-no (sym can ∙ ap (can_go now []) f.1.1 ∙ can_go-live now (frames_of b.frames) f.0 (Forked (nodes_of b.below))))

pub nowhere-goes : (now : ℕ) (is : List ℕ) (i : ℕ) (b : Branch Stand) → nth b.below i ≡ None → can_go now (i ∷ is) (node_of b) ≡ true → ⊥
nowhere-goes now is i b none can = yes-no (sym can ∙ ap (top_is (can_top now)) (top-no-child b i is none))

-- the numbers of a way behind the first ones
pub way-end : (ws xs : List ℕ) (k : ℕ) → ws ≡ xs → length ws ≤ k → drop k xs ≡ []
way-end ws xs k same past = let all = ap length same in drop_all k xs (omega (arith, all, past))

way-next : (xs : List ℕ) (k x : ℕ) → slice_get xs k ≡ Some x → drop k xs ≡ x ∷ drop (suc k) xs
way-next [] k x e = absurd (nothing x (sym (get-nothing k) ∙ e))
  where
    get-nothing : (k : ℕ) → slice_get {X = ℕ} [] k ≡ None
    get-nothing zero = refl
    get-nothing (suc k) = refl
way-next (y ∷ ys) zero x e = ap (λ z. z ∷ ys) (same_Some y x e)
way-next (y ∷ ys) (suc k) x e = way-next ys k x e

pub way-more : (ws xs : List ℕ) (k : ℕ) → ws ≡ xs → k < length ws → drop k xs ≡ get_or ws k 0 ∷ drop (k + 1) xs
way-more ws xs k same less =
    let all = ap length same in
    way-next xs k (get_or xs k 0) (slice_get-get_or xs k 0 (omega (arith, all, less)))
    ∙ ap (λ w. get_or w k 0 ∷ drop (suc k) xs) (sym same)
    ∙ ap (λ m. get_or ws k 0 ∷ drop m xs) (sym (add-one k))

-- ---- the step of a strand itself, told of the strand

-- what stands on the strand of a number
abbrev pub OnStrand : Tree Stand → ℕ → Stand → Type 0
OnStrand t n h = (b : Branch Stand) → find t.strands n ≡ Some b → b.frames ≡ h ∷ []

abbrev pub Goes : ℕ → Tree Stand → ℕ → List ℕ → Type 0
Goes now t n bs = (b : Branch Stand) → find t.strands n ≡ Some b → can_go now bs (node_of b) ≡ true

own-is : (now : ℕ) (b : Branch Stand) (h : Stand) → b.frames ≡ h ∷ [] → can_go now [] (node_of b) ≡ true → node_of b ≡ own_node h
own-is now b h one can = plain-node b.frames (nodes_of b.below) (own-fork now b can) ∙ ap (λ ls. plug (frames_of ls) (top_node (top_of ls))) one

pub own-goes : (now : ℕ) (t : Tree Stand) (n : ℕ) (bs : List ℕ) (h : Stand) → IsHeld t n → bs ≡ [] → Goes now t n bs → OnStrand t n h → can_go now [] (own_node h) ≡ true
own-goes now t n bs h held empty goes on =
    let b = held.1.0 in
    let f = held.1.1.0 in
    let can = subst (λ is. can_go now is (node_of b) ≡ true) empty (goes b f) in
    ap (can_go now []) (sym (own-is now b h (on b f) can)) ∙ can

pub own-told : {E : Type 0} (s : Site) (l : Line) (way : List ℕ) (above : ℕ) (t : Tree Stand) (n : ℕ) (bs : List ℕ) (h : Stand) (r : Result Prepared E) → bs ≡ [] → Goes s.now t n bs → OnStrand t n h →
    IfOk r (λ p. IsChange s l way above [] (own_node h) p) → IfOk r (λ p. (b : Branch Stand) → find t.strands n ≡ Some b → IsChange s l way above bs (node_of b) p)
own-told s l way above t n bs h (Err e) empty goes on is = tt
own-told s l way above t n bs h (Ok p) empty goes on is = λ b f.
    let can = subst (λ is. can_go s.now is (node_of b) ≡ true) empty (goes b f) in
    subst (λ is. IsChange s l way above is (node_of b) p) (sym empty) (subst (λ m. IsChange s l way above [] m p) (sym (own-is s.now b h (on b f) can)) is)

-- ---- the step of a branch, told of the strand

pub child-goes : (now : ℕ) (t : Tree Stand) (n i c : ℕ) (bs is : List ℕ) → IsHeld t n → IsChild t n i c → bs ≡ i ∷ is → Goes now t n bs → Goes now t c is
child-goes now t n i c bs is held child e goes h g =
    let b = held.1.0 in
    let f = held.1.1.0 in
    let k = child b f in
    let same : k.0 ≡ h = same_Some k.0 h (sym k.1.1.0 ∙ g) in
    subst (λ (x : Branch Stand). can_go now is (node_of x) ≡ true) same
    (sym (can_go-child now i is b (record { number = c; held = k.0 }) held.1.1.1 k.1.0) ∙ subst (λ xs. can_go now xs (node_of b) ≡ true) e (goes b f))

pub fork-there : (t : Tree Stand) (n i c : ℕ) → IsHeld t n → IsChild t n i c → (b : Branch Stand) → find t.strands n ≡ Some b → IsForkOf b i
fork-there t n i c held child b f =
    let h = child b f in
    let d : Found Stand = record { number = c; held = h.0 } in
    (has-fork b i d (held-is t n b held f) h.1.0, (d, h.1.0))

pub branch-told : {E : Type 0} (s p q : Site) (l z y : Line) (way : List ℕ) (above : ℕ) (t : Tree Stand) (n i c : ℕ) (bs is : List ℕ) (top : Stand) (x : Prepared) (r : Result Prepared E) → IsHeld t n → IsChild t n i c → bs ≡ i ∷ is → OnStrand t n top → p ≡ s → q ≡ p → z ≡ seen_in l (inward top.around) → y ≡ z →
    ((h : Branch Stand) → find t.strands c ≡ Some h → IsChange q y way (above + 1) is (node_of h) x) →
    IfOk r (λ k. (b : Branch Stand) (l : Line) (way inner : List ℕ) → find t.strands n ≡ Some b → z ≡ seen_in l (frames_of b.frames) → IsChangeOf p z way (above + 1) inner b i x → IsChange p l way above (i ∷ inner) (node_of b) k) →
    IfOk r (λ k. (b : Branch Stand) → find t.strands n ≡ Some b → IsChange s l way above bs (node_of b) k)
branch-told s p q l z y way above t n i c bs is top x (Err e) held child eq on place same seen copied inner h = tt
branch-told s p q l z y way above t n i c bs is top x (Ok k) held child eq on place same seen copied inner h = λ b f.
    let d = child b f in
    let fs : inward top.around ≡ frames_of b.frames = sym (ap frames_of (on b f)) in
    let change : IsChange p z way (above + 1) is (node_of d.0) x = subst (λ w. IsChange p w way (above + 1) is (node_of d.0) x) copied (subst (λ w. IsChange w y way (above + 1) is (node_of d.0) x) same (inner d.0 d.1.1.0)) in
    subst (λ js. IsChange s l way above js (node_of b) k) (sym eq)
    (subst (λ w. IsChange w l way above (i ∷ is) (node_of b) k) place (h b l way is f (seen ∙ ap (seen_in l) fs) (record { number = c; held = d.0 }, (d.1.0, change))))
