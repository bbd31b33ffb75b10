-- A step of what stands innermost is the step of the whole strand.
use Rattle.std.proofs.Common.{◌≡◌, ℕ, Bool, true, false, List, [], ◌∷◌, ◌++◌, Option, Some, None, Ok, Err, refl, ap, sym, ◌∙◌, subst}
use Rattle.std.specs.Prelude.{nat_le, if◌then◌else◌, is_some, option_map, option_and_then, Result, IfOk}
use Rattle.swf_calls.specs.Request.{Request}
use Rattle.swf_calls.specs.declared.reply.CallReply.{CallReply}
use Rattle.swf_meaning.specs.Call.{answered_by}
use Rattle.swf_value.specs.Value.{Value, Members}
use Rattle.swf_document.specs.Task.{Task}
use Rattle.swf_document.specs.declared.common.Flow.{Flow}
use Rattle.swf_document.specs.declared.error.Problem.{Problem}
use Rattle.swf_document.specs.declared.event.ListenSpec.{ListenSpec}
use Rattle.swf_meaning.specs.Complete.{Stepped, step_of, complete}
use Rattle.swf_meaning.specs.Enter.{enter}
use Rattle.swf_meaning.specs.Around.{seen}
use Rattle.swf_meaning.specs.Line.{Line, Site}
use Rattle.swf_meaning.specs.Listen.{is_heard, is_heard_by, heard, heard_by, events_of}
use Rattle.swf_meaning.specs.Local.{local, rule, moved_on, failed}
use Rattle.swf_meaning.specs.Node.{Node, Fresh, Live, Done, Fault, At, Await, Hear, Round, Running}
use Rattle.swf_meaning.specs.Parts.{http_in, kind_of, listen_in}
use Rattle.swf_meaning.specs.Put.{put_at, put_back}
use Rattle.swf_meaning.specs.Strands.{can_go}
use Rattle.swf_meaning.specs.Top.{top_at, line_at}
use Rattle.swf_meaning.specs.declared.heard.Heard.{Heard}
use Rattle.swf_rules.specs.Woken.{woken_to}
use Rattle.swf_scene.specs.Halts.{Makes}
use Rattle.swf_stack.specs.Stands.{inward}
use Rattle.swf_stack.specs.Stack.{plug, top_node, stepped_of, seen_in, waiting}
use Rattle.swf_catalog.specs.Rounds.{round_of}
use Rattle.swf_scene.specs.declared.halt.Halt.{Halt}
use Rattle.swf_stack.specs.declared.made.Frame.{Frame}
use Rattle.swf_stack.specs.declared.made.Made.{Made}
use Rattle.swf_stack.specs.declared.made.Stand.{Stand}
use Rattle.swf_stack.specs.declared.made.Top.{Top}
use Rattle.swf_stack.specs.declared.made.Top.TheVariants as tops
use Rattle.swf_strands.proofs.AskLemmas.{can_go-live, can_go-until}
use Rattle.swf_tasks.proofs.KeptLemmas.{plug-append}
use Rattle.swf_tasks.specs.Installed.{put_in, IsRuled, IsSeen, IsStep, behind, outer, own_node}
use Rattle.swf_tasks.specs.Taken.{IsListened}

-- a task that has not ended
abbrev pub is_open : Node → Bool
is_open (Fresh t v) = true
is_open (Live r k) = true
is_open (Done w f) = false
is_open (Fault p) = false

pub open-plug : (fs : List Frame) (n : Node) → is_open n ≡ true → is_open (plug fs n) ≡ true
open-plug [] n p = p
open-plug (f ∷ fs) n p = refl

-- the step of a node, put further
pub local-put : (s : Site) (l : Line) (bs : List ℕ) (n : Node) (f : Stepped → Stepped) → option_map (λ x. f (put_at l bs n (step_of (line_at l bs n) x))) (option_and_then (rule s (line_at l bs n)) (top_at bs n)) ≡ option_map f (local s l bs n)
local-put s l bs n f = by (option_and_then (rule s (line_at l bs n)) (top_at bs n))
  where
    by : (o : Option (Result Stepped Problem)) → option_map (λ x. f (put_at l bs n (step_of (line_at l bs n) x))) o ≡ option_map f (option_map (λ x. put_at l bs n (step_of (line_at l bs n) x)) o)
    by None = refl
    by (Some x) = refl

-- what has not ended takes its step inside a task
local-inside : (s : Site) (l : Line) (bs : List ℕ) (r : Running) (round : Round) (i : ℕ) (n : Node) → is_open n ≡ true → local s l bs (Live r (At round i n)) ≡ option_map (put_back l r round i) (local s (seen l r.task round) bs n)
local-inside s l bs r round i (Fresh t v) p = local-put s (seen l r.task round) bs (Fresh t v) (put_back l r round i)
local-inside s l bs r round i (Live q k) p = local-put s (seen l r.task round) bs (Live q k) (put_back l r round i)
local-inside s l bs r round i (Done w f) p = cc
local-inside s l bs r round i (Fault q) p = cc

-- and so inside any number of tasks
pub local-plug : (s : Site) (l : Line) (bs : List ℕ) (fs : List Frame) (n : Node) (m : Stepped) → is_open n ≡ true → local s (seen_in l fs) bs n ≡ Some m → local s l bs (plug fs n) ≡ Some (put_in l fs m)
local-plug s l bs [] n m p e = e
local-plug s l bs (f ∷ fs) n m p e =
    local-inside s l bs f.running (round_of f.round) f.place (plug fs n) (open-plug fs n p)
    ∙ ap (option_map (put_back l f.running (round_of f.round) f.place)) (local-plug s (seen l f.running.task (round_of f.round)) bs fs n m p e)

-- ---- what a rule gives by a line is the step of the tree

pub made-step : {E : Type 0} (s : Site) (l z : Line) (h : Stand) (g : Result Made Halt) (r : Result Made E) → IsSeen l z h → IsRuled s l z h g → IfOk r (λ m. (y : Line) (x : Result Stepped Problem) → Makes y x g → stepped_of y m ≡ step_of y x) → IfOk r (λ m. IsStep s l h m)
made-step s l z h g (Ok m) seen ruled makes =
    ruled.1.1 ∙ ap (λ y. Some (put_in l (inward (outer h.top h.around)) y)) (sym (makes z ruled.0 ruled.1.0) ∙ ap (λ y. stepped_of y m) seen)
made-step s l z h g (Err e) seen ruled makes = tt

-- the rule of the node k applies, with the tasks around it
made : (s : Site) (l z : Line) (h : Stand) (k : Node) (x : Result Stepped Problem) (g : Result Made Halt) → own_node h ≡ plug (inward (outer h.top h.around)) k → is_open k ≡ true → local s z [] k ≡ Some (step_of z x) → IsSeen l z h → Makes z x g → IsRuled s l z h g
made s l z h k x g e p is seen makes =
    (x, (makes, ap (local s l []) e ∙ local-plug s l [] (inward (outer h.top h.around)) k (step_of z x) p (subst (λ y. local s y [] k ≡ Some (step_of z x)) seen is)))

-- all tasks stand around what has not ended
stays : (h : Stand) (x : Top) → h.top ≡ x → outer x h.around ≡ h.around → own_node h ≡ plug (inward (outer h.top h.around)) (top_node x)
stays h x e o =
    let same : h.around ≡ outer h.top h.around = sym (ap (λ y. outer y h.around) e ∙ o) in
    λ i. plug (inward (same i)) (top_node (e i))

-- Enter
pub made-fresh : (s : Site) (l z : Line) (h : Stand) (t : Task) (v : Value) (g : Result Made Halt) → h.top ≡ tops.Fresh t v → IsSeen l z h → Makes z (enter s z t v) g → IsRuled s l z h g
made-fresh s l z h t v g e = made s l z h (Fresh t v) (enter s z t v) g (stays h (tops.Fresh t v) e refl) refl refl

-- Wake
pub enabled-until : (now : ℕ) (h : Stand) (r : Running) (n : Option ℕ) (m : ℕ) → h.top ≡ tops.Waiting r n m → nat_le m now ≡ can_go now [] (own_node h)
enabled-until now h r n m e = sym (ap (λ x. can_go now [] (plug (inward h.around) (top_node x))) e ∙ can_go-live now (inward h.around) r (waiting n m) ∙ can_go-until now r n m)

woken : (s : Site) (l : Line) (r : Running) (n : Option ℕ) (m : ℕ) → nat_le m s.now ≡ true → local s l [] (Live r (waiting n m)) ≡ Some (step_of l (woken_to l r n))
woken s l r None m h = ap (λ b. option_map (step_of l) (if b then Some (woken_to l r None) else None)) h
woken s l r (Some n) m h = ap (λ b. option_map (step_of l) (if b then Some (woken_to l r (Some n)) else None)) h

pub made-waiting : (s : Site) (l z : Line) (h : Stand) (q : Running) (n : Option ℕ) (until : ℕ) (g : Result Made Halt) → h.top ≡ tops.Waiting q n until → can_go s.now [] (own_node h) ≡ true → IsSeen l z h → Makes z (woken_to z q n) g → IsRuled s l z h g
made-waiting s l z h q n until g e p =
    made s l z h (Live q (waiting n until)) (woken_to z q n) g (stays h (tops.Waiting q n until) e refl) refl (woken s z q n until (enabled-until s.now h q n until e ∙ p))

-- Wake, of a task that heard all
pub enabled-hearing : (now : ℕ) (h : Stand) (r : Running) (bound : Members) (hs : List Heard) → h.top ≡ tops.Hearing r bound hs → is_heard r.task hs ≡ can_go now [] (own_node h)
enabled-hearing now h r bound hs e = sym (ap (λ x. can_go now [] (plug (inward h.around) (top_node x))) e ∙ can_go-live now (inward h.around) r (Hear bound hs))

heard_some : (l : Line) (r : Running) (hs : List Heard) → is_heard r.task hs ≡ true → (m : Result Stepped Problem) × (heard l r hs ≡ Some m)
heard_some l r hs e = by (listen_in (kind_of r.task)) e
  where
    by : (o : Option ListenSpec) → is_heard_by hs o ≡ true → (m : Result Stepped Problem) × (heard_by l r hs o ≡ Some m)
    by None e = cc
    by (Some spec) e = (complete l r (events_of spec hs), ap (λ b. if b then Some (complete l r (events_of spec hs)) else None) e)

pub made-hearing : (s : Site) (l z : Line) (h : Stand) (q : Running) (bound : Members) (hs : List Heard) (g : Result Made Halt) → h.top ≡ tops.Hearing q bound hs → can_go s.now [] (own_node h) ≡ true → IsSeen l z h → IsListened z q hs g → IsRuled s l z h g
made-hearing s l z h q bound hs g e p seen listened =
    let some = heard_some z q hs (enabled-hearing s.now h q bound hs e ∙ p) in
    made s l z h (Live q (Hear bound hs)) some.0 g (stays h (tops.Hearing q bound hs) e refl) refl (ap (option_map (step_of z)) some.1) seen (listened some.0 some.1)

-- Wake, of a call that was answered
pub enabled-awaiting : (now : ℕ) (h : Stand) (r : Running) (a : List ℕ) (q : Request) (o : Option CallReply) → h.top ≡ tops.Awaiting r a q o → is_some o ≡ can_go now [] (own_node h)
enabled-awaiting now h r a q o e = sym (ap (λ x. can_go now [] (plug (inward h.around) (top_node x))) e ∙ can_go-live now (inward h.around) r (Await a q o))

pub made-awaiting : (s : Site) (l z : Line) (h : Stand) (r : Running) (a : List ℕ) (q : Request) (p : CallReply) (g : Result Made Halt) → h.top ≡ tops.Awaiting r a q (Some p) → IsSeen l z h → Makes z (answered_by z r q p (http_in (kind_of r.task))) g → IsRuled s l z h g
made-awaiting s l z h r a q p g e =
    made s l z h (Live r (Await a q (Some p))) (answered_by z r q p (http_in (kind_of r.task))) g (stays h (tops.Awaiting r a q (Some p)) e refl) refl refl

-- Next, and Catch or Pass up, of the innermost task
ends-in : (h : Stand) (x : Top) (f : Frame) → h.top ≡ x → h.around ≡ f ∷ behind h.around → outer x h.around ≡ behind h.around →
    own_node h ≡ plug (inward (outer h.top h.around)) (Live f.running (At (round_of f.round) f.place (top_node x)))
ends-in h x f e a o =
    (λ i. plug (inward (a i)) (top_node (e i))) ∙ plug-append (inward (behind h.around)) (f ∷ []) (top_node x)
    ∙ ap (λ fs. plug (inward fs) (Live f.running (At (round_of f.round) f.place (top_node x)))) (sym (ap (λ y. outer y h.around) e ∙ o))

pub made-moved : (s : Site) (l z : Line) (h : Stand) (w : Value) (d : Flow) (f : Frame) (g : Result Made Halt) → h.top ≡ tops.Done w d → h.around ≡ f ∷ behind h.around → IsSeen l z h → Makes z (moved_on z f.running (round_of f.round) f.place w d) g → IsRuled s l z h g
made-moved s l z h w d f g e a =
    made s l z h (Live f.running (At (round_of f.round) f.place (Done w d))) (moved_on z f.running (round_of f.round) f.place w d) g (ends-in h (tops.Done w d) f e a refl) refl refl

pub made-failed : (s : Site) (l z : Line) (h : Stand) (q : Problem) (f : Frame) (g : Result Made Halt) → h.top ≡ tops.Fault q → h.around ≡ f ∷ behind h.around → IsSeen l z h → Makes z (failed s z f.running (round_of f.round) q) g → IsRuled s l z h g
made-failed s l z h q f g e a =
    made s l z h (Live f.running (At (round_of f.round) f.place (Fault q))) (failed s z f.running (round_of f.round) q) g (ends-in h (tops.Fault q) f e a refl) refl refl
