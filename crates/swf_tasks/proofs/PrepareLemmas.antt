-- What the step of a strand makes of an instance.
use Rattle.std.proofs.Common.{◌≡◌, ◌∙◌, refl, sym, ap, subst, ℕ, ◌+◌, ◌-◌, ◌≤◌, Bool, true, false, List, [], ◌∷◌, length, take, Some, None, arith}
use Rattle.std.proofs.lemmas.Option.{same_Some}
use Rattle.std.specs.Prelude.{option_map}
use Rattle.swf_cloudevents.specs.declared.event.Event.{Event}
use Rattle.swf_frames.specs.Tree.{Tree, Strands as Below, no_strands, strand, Branch, find, numbers, count}
use Rattle.swf_meaning.specs.Node.{Node, Live, Forked}
use Rattle.swf_meaning.specs.Documents.{Loaded}
use Rattle.swf_meaning.specs.Line.{Line, Site}
use Rattle.swf_meaning.specs.Offer.{offered}
use Rattle.swf_meaning.specs.Strands.{branches_in, can_go}
use Rattle.swf_meaning.specs.World.{Instance, line_of, site_of}
use Rattle.swf_meaning.proofs.TopsLemmas.{strands_among, strands_among-branch, branches_in-at, branches_in-fork}
use Rattle.swf_stack.specs.Stands.{frames_of, top_of}
use Rattle.swf_stack.specs.Stack.{context_or, plug, top_node}
use Rattle.swf_catalog.specs.Rounds.{round_of}
use Rattle.swf_scene.specs.Setting.{setting_line, instance_of}
use Rattle.swf_stack.specs.declared.made.Frame.{Frame}
use Rattle.swf_stack.specs.declared.made.Stand.{Stand}
use Rattle.swf_stack.specs.declared.made.Top.{Top}
use Rattle.swf_stack.specs.declared.made.Top.TheVariants as tops
use Rattle.swf_scene.specs.declared.setting.Setting.{Setting}
use Rattle.swf_tasks.specs.Prepares.{applied, begun_after, fits, Fits, IsBegun, IsPrepared, node_after}
use Rattle.swf_tasks.specs.Stepped.{IsChange}
use Rattle.swf_strands.specs.Strands.{strand_node, nodes_of, node_of, root_node, is_fork, made_stand, IsStrand, IsGrown}
use Rattle.swf_tasks.specs.Taken.{offered_own, taken}
use Rattle.swf_strands.specs.Ways.{has_strand, replaced}
use Rattle.swf_tasks.specs.declared.prepared.Prepared.{Prepared}
use Rattle.swf_tasks.specs.declared.prepared.Strands.{Strands}
use Rattle.swf_tasks.specs.declared.prepared.Strands.TheVariants as strands
use Rattle.swf_offers.proofs.OfferLemmas.{AreOffered}
use Rattle.swf_strands.proofs.TreeLemmas.{fork-node, plain-node, root-holds}

-- ---- how many branches run

branches-plug : (fs : List Frame) (n : Node) → branches_in (plug fs n) ≡ branches_in n
branches-plug [] n = refl
branches-plug (f ∷ fs) n = branches_in-at f.running (round_of f.round) f.place (plug fs n) ∙ branches-plug fs n

plain-branches : (t : Top) → is_fork t ≡ false → branches_in (top_node t) ≡ 0
plain-branches (tops.Fresh r v) e = refl
plain-branches (tops.Done w d) e = refl
plain-branches (tops.Fault p) e = refl
plain-branches (tops.Waiting r None m) e = refl
plain-branches (tops.Waiting r (Some n) m) e = refl
plain-branches (tops.Hearing r bound hs) e = refl
plain-branches (tops.Awaiting r a q o) e = refl
plain-branches (tops.Forked r) e = cc

branches-node : (ls : List Stand) (below : Below Stand) → IsStrand ls below → branches_in (strand_node ls (nodes_of below)) ≡ strands_among (nodes_of below)
branches-node ls below s = by (is_fork (top_of ls)) refl
  where
    by : (x : Bool) → is_fork (top_of ls) ≡ x → branches_in (strand_node ls (nodes_of below)) ≡ strands_among (nodes_of below)
    by true e =
        let f = fork-node ls (nodes_of below) e in
        ap branches_in f.1.1 ∙ branches-plug (frames_of ls) (Live f.0 (Forked (nodes_of below))) ∙ branches_in-fork f.0 (nodes_of below)
    by false e =
        ap branches_in (plain-node ls (nodes_of below) e) ∙ branches-plug (frames_of ls) (top_node (top_of ls)) ∙ plain-branches (top_of ls) e
        ∙ sym (ap (λ ss. strands_among (nodes_of ss)) (s.1 e))

count-strands : (ss : Below Stand) → IsGrown ss → count ss ≡ strands_among (nodes_of ss)
count-strands no_strands g = refl
count-strands (strand m ls below after) g =
    let here = branches-node ls below g.0 in
    let inner = count-strands below g.1 in
    let others = count-strands after g.2 in
    let all = strands_among-branch (strand_node ls (nodes_of below)) (nodes_of after) in
    omega (arith, here, inner, others, all)

-- all strands but the root
pub count-branches : (t : Tree Stand) (r : ℕ) → numbers t.strands ≡ r ∷ [] → IsGrown t.strands → count t.strands ≡ branches_in (root_node t.strands) + 1
count-branches t r e g =
    let b = root-holds t r e g in
    let all : count t.strands ≡ count (strand r b.0.frames b.0.below no_strands) = ap count b.1.1.1.0 in
    let inner = count-strands b.0.below b.1.1.0.1 in
    let here = branches-node b.0.frames b.0.below b.1.1.0.0 in
    let root : branches_in (root_node t.strands) ≡ branches_in (node_of b.0) = ap branches_in b.1.1.1.1 in
    omega (arith, all, inner, here, root)

-- the change that the root tells is that of the instance
pub root-change : (t : Tree Stand) (r k now : ℕ) (ds : List Loaded) (s : Setting) (i : Instance) (at : Site) (l : Line) (bs ws : List ℕ) (p : Prepared) → instance_of s (root_node t.strands) ≡ i → numbers t.strands ≡ r ∷ [] → IsGrown t.strands → k ≡ count t.strands →
    at ≡ record { number = s.number; branches = k - 1; now = now; documents = ds } → l ≡ setting_line s → ws ≡ bs → ((b : Branch Stand) → find t.strands r ≡ Some b → IsChange at l bs 0 ws (node_of b) p) → IsChange (site_of now ds i) (line_of i) bs 0 bs i.node p
root-change t r k now ds s i at l bs ws p view e g many place line same change =
    let b = root-holds t r e g in
    let n = root_node t.strands in
    let all = count-branches t r e g in
    let few : k - 1 ≡ branches_in n = omega (arith, many, all) in
    let here : at ≡ site_of now ds (instance_of s n) = place ∙ (λ j. record { number = s.number; branches = few j; now = now; documents = ds }) in
    let root : IsChange at l bs 0 bs n p = subst (λ m. IsChange at l bs 0 bs m p) (sym b.1.1.1.1) (subst (λ w. IsChange at l bs 0 w (node_of b.0) p) same (change b.0 b.1.0)) in
    let seen : IsChange (site_of now ds (instance_of s n)) (setting_line s) bs 0 bs n p = subst (λ x. IsChange x (setting_line s) bs 0 bs n p) here (subst (λ x. IsChange at x bs 0 bs n p) line root) in
    subst (λ (j : Instance). IsChange (site_of now ds j) (line_of j) bs 0 bs j.node p) view seen

-- what the root is told: the strand of the instance can take a step
pub root-can : (t : Tree Stand) (r now then : ℕ) (s : Setting) (i : Instance) (bs ws : List ℕ) → instance_of s (root_node t.strands) ≡ i → numbers t.strands ≡ r ∷ [] → IsGrown t.strands → then ≡ now → ws ≡ bs → can_go now bs i.node ≡ true →
    (b : Branch Stand) → find t.strands r ≡ Some b → can_go then ws (node_of b) ≡ true
root-can t r now then s i bs ws view e g moment same can b f =
    let x = root-holds t r e g in
    ap (λ k. can_go k ws (node_of b)) moment
    ∙ ap (λ w. can_go now w (node_of b)) same
    ∙ ap (λ (y : Branch Stand). can_go now bs (node_of y)) (sym (same_Some x.0 b (sym x.1.0 ∙ f)))
    ∙ ap (can_go now bs) (sym x.1.1.1.1)
    ∙ ap (λ (j : Instance). can_go now bs j.node) view
    ∙ can

-- ---- the step that was prepared

-- the strand that the change puts anew
puts-at : (s : Site) (l : Line) (bs : List ℕ) (n : Node) (p : Prepared) → (change : IsChange s l bs 0 bs n p) → p.strands ≡ strands.One change.depth change.stand
puts-at s l bs n p change = change.puts ∙ ap (λ k. strands.One k change.stand) (omega arith)

-- the tree has the strand that the change puts anew
pub change-fits : (s : Site) (l : Line) (bs ws : List ℕ) (i : Instance) (p : Prepared) → ws ≡ p.strand → IsChange s l bs 0 bs i.node p → fits p.strands ws i.node
change-fits s l bs ws i p same change =
    subst (λ x. fits x ws i.node) (sym (puts-at s l bs i.node p change))
    (subst (λ (w : List ℕ). (change.depth ≤ length w) × (has_strand (take change.depth w) i.node ≡ true)) (sym (same ∙ change.named)) (change.deep, change.there))

-- the instance after a change, with the branches of a `fork` that begins
pub prepared-by : (now : ℕ) (ds : List Loaded) (bs ws : List ℕ) (i : Instance) (c p : Prepared) (new : Strands) → ws ≡ c.strand → IsChange (site_of now ds i) (line_of i) bs 0 bs i.node c → IsBegun c.strands ws i.node new → p ≡ record c { strands = new } → IsPrepared now ds bs i p
prepared-by now ds bs ws i c p new same change begun is = subst (IsPrepared now ds bs i) (sym is) (record {
  fits = subst (λ w. fits new w i.node) same begun.fits;
  step = ap (option_map (taken i)) change.step ∙ λ j. Some (record i { node = node j; context = context_or i.context c.context; number = sym change.number j }, c.emitted);
})
  where
    d : ℕ
    d = change.depth

    node : replaced (take d bs) (made_stand change.stand) i.node ≡ node_after new c.strand i.node
    node =
        ap (λ w. replaced (take d w) (made_stand change.stand) i.node) (sym change.named)
        ∙ sym (ap (λ x. begun_after x c.strand i.node) (puts-at (site_of now ds i) (line_of i) bs i.node c change))
        ∙ sym (subst (λ w. node_after new w i.node ≡ begun_after c.strands w i.node) same begun.node)

-- ---- the branches of a `fork` that begins

-- where the strands are all told, none begins
pub begun-all : (s : Strands) (bs : List ℕ) (n : Node) → ((d : ℕ) (h : Stand) → s ≡ strands.One d h → ⊥) → fits s bs n → IsBegun s bs n s
begun-all (strands.One d h) bs n isnt f = absurd (isnt d h refl)
begun-all (strands.All t) bs n isnt f = record { fits = f; node = refl }

-- ---- the event that goes out is offered to the instance as well

abbrev pub IsOffered : Prepared → Prepared → Instance → Type 0
IsOffered p q i = Fits q i × (applied q i ≡ offered_own p.emitted (applied p i)) × (q.emitted ≡ p.emitted)

pub offered-some : (p q : Prepared) (i : Instance) (e : Event) (all : Below Stand) (new : Tree Stand) (k : ℕ) → p.emitted ≡ Some e → root_node all ≡ node_after p.strands p.strand i.node → AreOffered e all new.strands k → q ≡ record p { strands = strands.All new } → IsOffered p q i
offered-some p q i e all new k sent node off is = subst (λ (x : Prepared). IsOffered p x i) (sym is) (
  off.grown,
  ap (λ n. record (applied p i) { node = n }) (off.node ∙ ap (λ n. (offered e n).0) node) ∙ sym (ap (λ o. offered_own o (applied p i)) sent),
  refl,
)

-- ---- the strands after a step

-- the tree of the strands of an instance has it
pub fits-root : (s : Strands) (ws bs : List ℕ) (t : Setting) (old : Below Stand) (i : Instance) → instance_of t (root_node old) ≡ i → ws ≡ bs → fits s bs i.node → fits s ws (root_node old)
fits-root s ws bs t old i view same f = subst (λ w. fits s w (root_node old)) (sym same) (subst (λ (j : Instance). fits s bs j.node) (sym view) f)

-- the instance after a step
pub applied-by : (s : Setting) (old new : Below Stand) (p : Prepared) (i : Instance) (ws : List ℕ) → instance_of s (root_node old) ≡ i → ws ≡ p.strand → root_node new ≡ node_after p.strands ws (root_node old) → record (instance_of s (root_node new)) { context = context_or s.context p.context; number = p.number } ≡ applied p i
applied-by s old new p i ws view same node =
    ap (λ n. record (instance_of s n) { context = context_or s.context p.context; number = p.number }) (node ∙ ap (λ w. node_after p.strands w (root_node old)) same) ∙ ap (applied p) view
