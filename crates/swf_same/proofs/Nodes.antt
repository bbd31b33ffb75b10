-- What a strand holds is known by the tree that it stands for.
use Rattle.std.proofs.Common.{◌≡◌, ◌∙◌, ◌<◌, ◌-◌, ◌^◌, ℕ, List, [], ◌∷◌, reverse, refl, sym, ap, subst, Some, None}
use Rattle.std.proofs.Math.Bridge.{le_prop}
use Rattle.std.proofs.lemmas.List.{reverse-append}
use Rattle.swf_meaning.specs.Node.{Node, Live, At, Round as NodeRound, Running}
use Rattle.swf_catalog.specs.Rounds.{round_of}
use Rattle.swf_catalog.specs.declared.round.Iteration.{Iteration}
use Rattle.swf_catalog.specs.declared.round.Round.{Round}
use Rattle.swf_catalog.specs.declared.round.Round.TheVariants as rounds
use Rattle.swf_stack.specs.Stack.{plug, top_node}
use Rattle.swf_stack.specs.Stands.{inward}
use Rattle.swf_stack.specs.declared.made.Frame.{Frame}
use Rattle.swf_stack.specs.declared.made.Stand.{Stand}
use Rattle.swf_stack.specs.declared.made.Top.{Top}
use Rattle.swf_stack.specs.declared.made.Top.TheVariants as tops

iteration_one : (s t : Iteration) → s.items ≡ t.items → s.number ≡ t.number → s ≡ t
iteration_one s t p q =
    subst (λ n. (e : n < 2 ^ 53) → ◌≡◌ {A = Iteration} s (record { items = t.items; number = n; few = e })) q
    (λ e. λ i. record { items = p i; number = s.number; few = le_prop s.few e i }) t.few

round_one : (a b : Round) → round_of a ≡ round_of b → a ≡ b
round_one rounds.Seq rounds.Seq p = refl
round_one (rounds.Each s) (rounds.Each t) p =
    let v : s.items ≡ t.items = cc in
    let n : s.number ≡ t.number = cc in ap rounds.Each (iteration_one s t v n)
round_one (rounds.Try n) (rounds.Try m) p = cc
round_one (rounds.Catch p) (rounds.Catch q) e = cc
round_one rounds.Function rounds.Function p = refl
round_one (rounds.SubWorkflow s) (rounds.SubWorkflow t) p =
    let d : s.document ≡ t.document = cc in
    let v : s.input ≡ t.input = cc in
    let c : s.context ≡ t.context = cc in λ i. rounds.SubWorkflow (record { document = d i; input = v i; context = c i })
round_one a b p = cc

frame_one : (f g : Frame) → f.running ≡ g.running → f.round ≡ g.round → f.place ≡ g.place → f ≡ g
frame_one f g r d p =
    subst (λ n. (e : n < 2 ^ 64 - 1) → ◌≡◌ {A = Frame} f (record { running = g.running; round = g.round; place = n; counted = e })) p
    (λ e. λ i. record { running = r i; round = d i; place = f.place; counted = le_prop f.counted e i }) g.counted

top_one : (s t : Top) → top_node s ≡ top_node t → s ≡ t
top_one (tops.Fresh t v) (tops.Fresh u w) p = cc
top_one (tops.Done v f) (tops.Done w g) p = cc
top_one (tops.Fault p) (tops.Fault q) e = cc
top_one (tops.Hearing r a b) (tops.Hearing q c d) p = cc
top_one (tops.Awaiting r a b c) (tops.Awaiting q d e f) p = cc
top_one (tops.Forked r) (tops.Forked q) p = cc
top_one (tops.Waiting r None m) (tops.Waiting q None n) p = cc
top_one (tops.Waiting r (Some a) m) (tops.Waiting q (Some b) n) p = cc
top_one (tops.Hearing r a b) (tops.Waiting q None n) p = cc
top_one (tops.Hearing r a b) (tops.Waiting q (Some c) n) p = cc
top_one (tops.Awaiting r a b c) (tops.Waiting q None n) p = cc
top_one (tops.Awaiting r a b c) (tops.Waiting q (Some d) n) p = cc
top_one (tops.Forked r) (tops.Waiting q None n) p = cc
top_one (tops.Forked r) (tops.Waiting q (Some b) n) p = cc
top_one s t p = cc

-- what stands innermost is no task with another inside
top_alone : (s : Top) (r : Running) (d : NodeRound) (i : ℕ) (n : Node) → top_node s ≡ Live r (At d i n) → ⊥
top_alone (tops.Waiting q None m) r d i n p = cc
top_alone (tops.Waiting q (Some a) m) r d i n p = cc
top_alone s r d i n p = cc

plug_one : (fs gs : List Frame) (s t : Top) → plug fs (top_node s) ≡ plug gs (top_node t) → (fs ≡ gs) × (s ≡ t)
plug_one [] [] s t p = (refl, top_one s t p)
plug_one (f ∷ fs) (g ∷ gs) s t p =
    let r : f.running ≡ g.running = cc in
    let d : f.round ≡ g.round = round_one f.round g.round cc in
    let i : f.place ≡ g.place = cc in
    let e : f ≡ g = frame_one f g r d i in
    let rest : (fs ≡ gs) × (s ≡ t) = plug_one fs gs s t cc in (λ h. e h ∷ rest.0 h, rest.1)
plug_one [] (g ∷ gs) s t p = absurd (top_alone s g.running (round_of g.round) g.place (plug gs (top_node t)) p)
plug_one (f ∷ fs) [] s t p = absurd (top_alone t f.running (round_of f.round) f.place (plug fs (top_node s)) (sym p))

inward_back : (fs : List Frame) → reverse (inward fs) ≡ fs
inward_back [] = refl
inward_back (f ∷ fs) = reverse-append (inward fs) (f ∷ []) ∙ ap (λ gs. f ∷ gs) (inward_back fs)

pub stand_one : (a b : Stand) → plug (inward a.around) (top_node a.top) ≡ plug (inward b.around) (top_node b.top) → a ≡ b
stand_one a b p =
    let q = plug_one (inward a.around) (inward b.around) a.top b.top p in
    let f : a.around ≡ b.around = sym (inward_back a.around) ∙ ap reverse q.0 ∙ inward_back b.around in
    λ i. record { around = f i; top = q.1 i }
