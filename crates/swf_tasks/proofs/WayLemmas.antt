-- What stands on the strand that branch numbers lead to decides for it.
use Rattle.std.proofs.Common.{◌≡◌, ◌∙◌, refl, sym, ap, subst, ℕ, Bool, true, false, not, List, [], ◌∷◌, ◌++◌, Option, Some, None, Ok, Err}
use Rattle.swf_chain.specs.Ends.{is_empty, split_first}
use Rattle.std.specs.Prelude.{Result, IfOk}
use Rattle.swf_value.specs.Value.{Value, Members}
use Rattle.swf_document.specs.Task.{Task}
use Rattle.swf_document.specs.declared.common.Flow.{Flow}
use Rattle.swf_document.specs.declared.error.Problem.{Problem}
use Rattle.swf_frames.specs.Tree.{Tree, Branch, find, numbers}
use Rattle.swf_meaning.specs.Listen.{is_heard}
use Rattle.swf_meaning.specs.Node.{Node, Fresh, Live, Done, Fault, Inside, At, Hear, Await, Forked, Nodes, Round, Running}
use Rattle.swf_meaning.specs.Parts.{kind_of}
use Rattle.swf_meaning.specs.Shared.{is_shared, is_shared_top, is_shared_kind, is_shared_error}
use Rattle.swf_meaning.specs.Top.{top_is}
use Rattle.swf_meaning.specs.World.{Instance}
use Rattle.swf_meaning.specs.declared.heard.Heard.{Heard}
use Rattle.swf_stack.specs.Stands.{frames_of, inward, top_of}
use Rattle.swf_stack.specs.Stack.{plug, top_node, forked, waiting}
use Rattle.swf_catalog.specs.Rounds.{round_of}
use Rattle.swf_scene.specs.Setting.{instance_of}
use Rattle.swf_stack.specs.declared.made.Frame.{Frame}
use Rattle.swf_stack.specs.declared.made.Stand.{Stand}
use Rattle.swf_stack.specs.declared.made.Top.{Top}
use Rattle.swf_stack.specs.declared.made.Top.TheVariants as tops
use Rattle.swf_scene.specs.declared.setting.Setting.{Setting}
use Rattle.swf_tasks.specs.Installed.{output_in, problem_in}
use Rattle.swf_strands.specs.Strands.{nodes_of, node_of, root_node, IsGrown, IsHeld}
use Rattle.swf_strands.specs.Ways.{at, listens_at}
use Rattle.swf_tasks.proofs.KeptLemmas.{plug-append}
use Rattle.swf_strands.proofs.TopLemmas.{top-live, top-fresh}
use Rattle.swf_strands.proofs.TreeLemmas.{root-holds, at-walk, at-nowhere, waiting-forked, IsAt, IsNowhere}

-- ---- the tree of an instance

-- what holds of what the root holds, holds of it
pub of-root : (P : Node → Type 0) (s : Setting) (t : Tree Stand) (r : ℕ) (i : Instance) → instance_of s (root_node t.strands) ≡ i → numbers t.strands ≡ r ∷ [] → IsGrown t.strands → ((b : Branch Stand) → find t.strands r ≡ Some b → P (node_of b)) → P i.node
of-root P s t r i view e g h =
    let x = root-holds t r e g in
    subst (λ (j : Instance). P j.node) view (subst P (sym x.1.1.1.1) (h x.0 x.1.0))

-- what a result tells of each that suits, it tells of this one
pub all-told : {T E A : Type 0} (Q : A → Type 0) (P : T → A → Type 0) (r : Result T E) (a : A) → Q a → IfOk r (λ x. (b : A) → Q b → P x b) → IfOk r (λ x. P x a)
all-told Q P (Ok x) a q h = h a q
all-told Q P (Err e) a q h = tt

-- where the way leads
pub on-strand : (P : Option Node → Type 0) (s : Setting) (t : Tree Stand) (r c : ℕ) (way bs : List ℕ) (i : Instance) → instance_of s (root_node t.strands) ≡ i → numbers t.strands ≡ r ∷ [] → IsGrown t.strands → way ≡ bs → IsAt t r way c →
    ((b : Branch Stand) → find t.strands c ≡ Some b → P (Some (node_of b))) → P (at bs i.node)
on-strand P s t r c way bs i view e g same is h =
    let x = root-holds t r e g in
    let y = is x.0 x.1.0 in
    let there : at way (node_of x.0) ≡ Some (node_of y.0) = at-walk way (record { number = r; held = x.0 }) (record { number = c; held = y.0 }) x.1.1.0 y.1.0 in
    let found : P (at way (root_node t.strands)) = subst P (sym (ap (at way) x.1.1.1.1 ∙ there)) (h y.0 y.1.1.0) in
    subst (λ (j : Instance). P (at bs j.node)) view (subst (λ w. P (at w (root_node t.strands))) same found)

pub no-strand : (P : Option Node → Type 0) (s : Setting) (t : Tree Stand) (r : ℕ) (way bs : List ℕ) (i : Instance) → instance_of s (root_node t.strands) ≡ i → numbers t.strands ≡ r ∷ [] → IsGrown t.strands → way ≡ bs → IsNowhere t r way → P None → P (at bs i.node)
no-strand P s t r way bs i view e g same is h =
    let x = root-holds t r e g in
    let none : at way (node_of x.0) ≡ None = at-nowhere way (record { number = r; held = x.0 }) x.1.1.0 (is x.0 x.1.0) in
    let left : P (at way (root_node t.strands)) = subst P (sym (ap (at way) x.1.1.1.1 ∙ none)) h in
    subst (λ (j : Instance). P (at bs j.node)) view (subst (λ w. P (at w (root_node t.strands))) same left)

-- the strand that a way leads to is held
pub way-held : (t : Tree Stand) (r c : ℕ) (bs : List ℕ) → IsHeld t r → IsAt t r bs c → IsHeld t c
way-held t r c bs held is = let y = is held.1.0 held.1.1.0 in (held.0, (y.0, y.1.1))

-- ---- its next step is shared

is_shared-done : (fs : List Frame) (w : Value) (d : Flow) → is_shared [] (plug fs (Done w d)) ≡ false
is_shared-done [] w d = refl
is_shared-done (f ∷ []) w d = refl
is_shared-done (f ∷ g ∷ gs) w d = is_shared-done (g ∷ gs) w d

is_shared-live : (fs : List Frame) (r : Running) (k : Inside) → is_shared [] (plug fs (Live r k)) ≡ is_shared [] (Live r k)
is_shared-live fs r k = ap (top_is is_shared_top) (top-live [] fs r k)

waiting-alone : (r : Running) (n : Option ℕ) (m : ℕ) → is_shared [] (Live r (waiting n m)) ≡ false
waiting-alone r None m = refl
waiting-alone r (Some n) m = refl

-- what stands innermost decides
abbrev pub shares_with : Branch Stand → Top → Bool
shares_with b t = is_shared [] (plug (frames_of b.frames) (forked (top_node t) (nodes_of b.below)))

shares-is : (b : Branch Stand) (t x : Top) (y : Bool) → t ≡ top_of b.frames → t ≡ x → shares_with b x ≡ y → y ≡ is_shared [] (node_of b)
shares-is b t x y s e h = sym (ap (shares_with b) (sym s ∙ e) ∙ h)

pub shared-fresh : (b : Branch Stand) (t : Top) (r : Task) (v : Value) → t ≡ top_of b.frames → t ≡ tops.Fresh r v → is_shared_kind (kind_of r) ≡ is_shared [] (node_of b)
shared-fresh b t r v s e = shares-is b t (tops.Fresh r v) (is_shared_kind (kind_of r)) s e (ap (top_is is_shared_top) (top-fresh [] (frames_of b.frames) r v))

pub shared-fault : (b : Branch Stand) (t : Top) (p : Problem) (y : Bool) → t ≡ top_of b.frames → t ≡ tops.Fault p → y ≡ is_shared [] (plug (frames_of b.frames) (Fault p)) → y ≡ is_shared [] (node_of b)
shared-fault b t p y s e h = shares-is b t (tops.Fault p) y s e (sym h)

-- what has begun and is no error shares nothing
pub shared-not : (b : Branch Stand) (t : Top) → t ≡ top_of b.frames → ((r : Task) (v : Value) → t ≡ tops.Fresh r v → ⊥) → ((p : Problem) → t ≡ tops.Fault p → ⊥) → false ≡ is_shared [] (node_of b)
shared-not b t s fresh fault = shares-is b t t false s refl (by t fresh fault)
  where
    fs : List Frame
    fs = frames_of b.frames

    by : (t : Top) → ((r : Task) (v : Value) → t ≡ tops.Fresh r v → ⊥) → ((p : Problem) → t ≡ tops.Fault p → ⊥) → shares_with b t ≡ false
    by (tops.Fresh r v) fresh fault = absurd (fresh r v refl)
    by (tops.Done w d) fresh fault = is_shared-done fs w d
    by (tops.Fault p) fresh fault = absurd (fault p refl)
    by (tops.Waiting r n m) fresh fault = ap (λ x. is_shared [] (plug fs x)) (waiting-forked r n m (nodes_of b.below)) ∙ is_shared-live fs r (waiting n m) ∙ waiting-alone r n m
    by (tops.Hearing r bound hs) fresh fault = is_shared-live fs r (Hear bound hs)
    by (tops.Awaiting r a q o) fresh fault = is_shared-live fs r (Await a q o)
    by (tops.Forked r) fresh fault = is_shared-live fs r (Forked (nodes_of b.below))

-- an error inside the innermost of some tasks
pub error-last : (fs : List Frame) (f : Frame) (gs : List Frame) (p : Problem) → fs ≡ f ∷ gs → is_shared_error (round_of f.round) (kind_of f.running.task) ≡ is_shared [] (plug (inward fs) (Fault p))
error-last fs f gs p e =
    sym (ap (λ hs. is_shared [] (plug (inward hs) (Fault p))) e ∙ ap (is_shared []) (plug-append (inward gs) (f ∷ []) (Fault p))
    ∙ is_shared-live (inward gs) f.running (At (round_of f.round) f.place (Fault p)))

pub error-none : (fs : List Frame) (p : Problem) → None ≡ split_first fs → false ≡ is_shared [] (plug (inward fs) (Fault p))
error-none [] p e = refl
error-none (f ∷ fs) p e = cc

-- ---- it listens

abbrev own_listens : Node → Bool
own_listens n = listens_at [] n

own_listens-at : (r : Running) (round : Round) (i : ℕ) (n : Node) → own_listens (Live r (At round i n)) ≡ own_listens n
own_listens-at r round i (Fresh t v) = refl
own_listens-at r round i (Live q k) = refl
own_listens-at r round i (Done w d) = refl
own_listens-at r round i (Fault p) = refl

own_listens-plug : (fs : List Frame) (n : Node) → own_listens (plug fs n) ≡ own_listens n
own_listens-plug [] n = refl
own_listens-plug (f ∷ fs) n = own_listens-at f.running (round_of f.round) f.place (plug fs n) ∙ own_listens-plug fs n

own_listens-top : (b : Branch Stand) (t : Top) → t ≡ top_of b.frames → own_listens (node_of b) ≡ own_listens (forked (top_node t) (nodes_of b.below))
own_listens-top b t s = own_listens-plug (frames_of b.frames) (forked (top_node (top_of b.frames)) (nodes_of b.below)) ∙ ap (λ x. own_listens (forked (top_node x) (nodes_of b.below))) (sym s)

pub listens-hearing : (b : Branch Stand) (t : Top) (r : Running) (bound : Members) (hs : List Heard) → t ≡ top_of b.frames → t ≡ tops.Hearing r bound hs → not (is_heard r.task hs) ≡ listens_at [] (node_of b)
listens-hearing b t r bound hs s e = sym (own_listens-top b t s ∙ ap (λ x. own_listens (forked (top_node x) (nodes_of b.below))) e)

pub listens-not : (b : Branch Stand) (t : Top) → t ≡ top_of b.frames → ((r : Running) (bound : Members) (hs : List Heard) → t ≡ tops.Hearing r bound hs → ⊥) → false ≡ listens_at [] (node_of b)
listens-not b t s isnt = sym (own_listens-top b t s ∙ by t isnt)
  where
    by : (t : Top) → ((r : Running) (bound : Members) (hs : List Heard) → t ≡ tops.Hearing r bound hs → ⊥) → own_listens (forked (top_node t) (nodes_of b.below)) ≡ false
    by (tops.Fresh r v) isnt = refl
    by (tops.Done w d) isnt = refl
    by (tops.Fault p) isnt = refl
    by (tops.Waiting r None m) isnt = refl
    by (tops.Waiting r (Some n) m) isnt = refl
    by (tops.Hearing r bound hs) isnt = absurd (isnt r bound hs refl)
    by (tops.Awaiting r a q o) isnt = refl
    by (tops.Forked r) isnt = refl

-- ---- what an instance ended in

abbrev ended_as : List Frame → Top → Nodes → Node
ended_as fs t ns = plug fs (forked (top_node t) ns)

ended-at : (b : Branch Stand) (t : Top) → t ≡ top_of b.frames → node_of b ≡ ended_as (frames_of b.frames) t (nodes_of b.below)
ended-at b t s = ap (λ x. ended_as (frames_of b.frames) x (nodes_of b.below)) (sym s)

-- a strand that holds this
ended-on : (b : Branch Stand) (h : Stand) → b.frames ≡ h ∷ [] → node_of b ≡ ended_as (inward h.around) h.top (nodes_of b.below)
ended-on b h e = ap (λ ls. ended_as (frames_of ls) (top_of ls) (nodes_of b.below)) e

-- with a task around it
some-around : (fs : List Frame) → is_empty fs ≡ false → (f : Frame) × ((gs : List Frame) × (inward fs ≡ f ∷ gs))
some-around [] e = cc
some-around (f ∷ fs) e = by (inward fs)
  where
    by : (gs : List Frame) → (g : Frame) × ((hs : List Frame) × (gs ++ f ∷ [] ≡ g ∷ hs))
    by [] = (f, ([], refl))
    by (g ∷ gs) = (g, (gs ++ f ∷ [], refl))

none-around : (fs : List Frame) → is_empty fs ≡ true → inward fs ≡ []
none-around [] e = refl
none-around (f ∷ fs) e = cc

pub output-some : (b : Branch Stand) (h : Stand) (w : Value) (d : Flow) (x : Bool) → b.frames ≡ h ∷ [] → h.top ≡ tops.Done w d → x ≡ is_empty h.around → x ≡ true → Some w ≡ output_in (node_of b)
output-some b h w d x on e l is = sym (ap output_in (ended-on b h on ∙ (λ i. ended_as (none-around h.around (sym l ∙ is) i) (e i) (nodes_of b.below))))

pub output-around : (b : Branch Stand) (h : Stand) (x : Bool) → b.frames ≡ h ∷ [] → x ≡ is_empty h.around → x ≡ false → None ≡ output_in (node_of b)
output-around b h x on l isnt = let s = some-around h.around (sym l ∙ isnt) in sym (ap output_in (ended-on b h on ∙ ap (λ fs. ended_as fs h.top (nodes_of b.below)) s.1.1))

pub output-none : (b : Branch Stand) (t : Top) → t ≡ top_of b.frames → ((w : Value) (d : Flow) → t ≡ tops.Done w d → ⊥) → None ≡ output_in (node_of b)
output-none b t s isnt = sym (ap output_in (ended-at b t s) ∙ by (frames_of b.frames) t isnt)
  where
    by : (fs : List Frame) (t : Top) → ((w : Value) (d : Flow) → t ≡ tops.Done w d → ⊥) → output_in (ended_as fs t (nodes_of b.below)) ≡ None
    by (f ∷ fs) t isnt = refl
    by [] (tops.Fresh r v) isnt = refl
    by [] (tops.Done w d) isnt = absurd (isnt w d refl)
    by [] (tops.Fault p) isnt = refl
    by [] (tops.Waiting r n m) isnt = refl
    by [] (tops.Hearing r bound hs) isnt = refl
    by [] (tops.Awaiting r a q o) isnt = refl
    by [] (tops.Forked r) isnt = refl

pub problem-some : (b : Branch Stand) (h : Stand) (p : Problem) (x : Bool) → b.frames ≡ h ∷ [] → h.top ≡ tops.Fault p → x ≡ is_empty h.around → x ≡ true → Some p ≡ problem_in (node_of b)
problem-some b h p x on e l is = sym (ap problem_in (ended-on b h on ∙ (λ i. ended_as (none-around h.around (sym l ∙ is) i) (e i) (nodes_of b.below))))

pub problem-around : (b : Branch Stand) (h : Stand) (x : Bool) → b.frames ≡ h ∷ [] → x ≡ is_empty h.around → x ≡ false → None ≡ problem_in (node_of b)
problem-around b h x on l isnt = let s = some-around h.around (sym l ∙ isnt) in sym (ap problem_in (ended-on b h on ∙ ap (λ fs. ended_as fs h.top (nodes_of b.below)) s.1.1))

pub problem-none : (b : Branch Stand) (t : Top) → t ≡ top_of b.frames → ((p : Problem) → t ≡ tops.Fault p → ⊥) → None ≡ problem_in (node_of b)
problem-none b t s isnt = sym (ap problem_in (ended-at b t s) ∙ by (frames_of b.frames) t isnt)
  where
    by : (fs : List Frame) (t : Top) → ((p : Problem) → t ≡ tops.Fault p → ⊥) → problem_in (ended_as fs t (nodes_of b.below)) ≡ None
    by (f ∷ fs) t isnt = refl
    by [] (tops.Fresh r v) isnt = refl
    by [] (tops.Done w d) isnt = refl
    by [] (tops.Fault p) isnt = absurd (isnt p refl)
    by [] (tops.Waiting r n m) isnt = refl
    by [] (tops.Hearing r bound hs) isnt = refl
    by [] (tops.Awaiting r a q o) isnt = refl
    by [] (tops.Forked r) isnt = refl
