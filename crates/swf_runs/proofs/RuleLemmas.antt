-- What kinds of node the rules make.
use Rattle.std.proofs.Common.{◌≡◌, refl, sym, subst, cond, ℕ, zero, ◌+◌, ◌≤◌, List, [], nat_le, nat_lt, length, Bool, true, false, Option, Some, None, Result, Ok, Err, codes}
use Rattle.std.proofs.lemmas.Bool.{leb-true}
use Rattle.std.proofs.lemmas.Option.{option_and_then_some}
use Rattle.std.specs.Prelude.{option_and_then}
use Rattle.swf_expr.specs.Expr.{Tree}
use Rattle.swf_value.specs.Value.{Value, null, list}
use Rattle.swf_value.specs.Members.{values_of}
use Rattle.swf_value.specs.Node.{items_of}
use Rattle.swf_calls.specs.Request.{Request}
use Rattle.swf_calls.specs.declared.reply.CallReply.{CallReply}
use Rattle.swf_calls.specs.declared.reply.CallReply.TheVariants as replies
use Rattle.swf_cloudevents.specs.Event.{event_of}
use Rattle.swf_cloudevents.specs.Faults.{Fault as EventFault}
use Rattle.swf_cloudevents.specs.declared.event.Event.{Event}
use Rattle.swf_document.specs.Task.{Task, Tasks, no_tasks, named, Kind, call, do_all, emit, for, fork, listen, raise, run, set, switch, try, wait}
use Rattle.swf_document.specs.Template.{Template}
use Rattle.swf_document.specs.declared.call.Callee.{Callee}
use Rattle.swf_document.specs.declared.call.Callee.TheVariants as callees
use Rattle.swf_document.specs.declared.call.HttpSpec.{HttpSpec}
use Rattle.swf_document.specs.declared.common.Flow.{Flow}
use Rattle.swf_document.specs.declared.common.Flow.TheVariants as flows
use Rattle.swf_document.specs.declared.error.ErrorKind.TheVariants as kinds
use Rattle.swf_document.specs.declared.error.Problem.{Problem}
use Rattle.swf_document.specs.declared.event.ListenSpec.{ListenSpec}
use Rattle.swf_document.specs.declared.run.RunSpec.{RunSpec}
use Rattle.swf_templates.specs.Fill.{fill, first_of, is_within}
use Rattle.swf_meaning.specs.Around.{seen}
use Rattle.swf_meaning.specs.Call.{requested, awaits, is_answered, response_value, communication, answered, answered_by, replied}
use Rattle.swf_meaning.specs.Complete.{Stepped, becomes, step_of, asked, input_of, output_of, finished, exported, complete_by, complete}
use Rattle.swf_meaning.specs.Emit.{emits, with_own}
use Rattle.swf_meaning.specs.Documents.{document_at, resolved}
use Rattle.swf_meaning.specs.Enter.{called, begun, begun_if, guarded, enter}
use Rattle.swf_meaning.specs.For.{over}
use Rattle.swf_meaning.specs.Function.{in_depth, input_by, function_in, or_unknown_function, or_unknown_workflow, runs_inside, calling, running}
use Rattle.swf_meaning.specs.Fork.{fresh, split, forking, count, most_branches}
use Rattle.swf_meaning.specs.Line.{Line, Site, within, is_workflow}
use Rattle.swf_meaning.specs.Listen.{bound_by, correlations, heard_by, is_satisfied, events_of}
use Rattle.swf_meaning.specs.Lists.{list_of, guard_of, begins_with, iteration_decided, iteration_guarded, iteration, list_ended, arrives, comes_to, workflow_ended, goes_to}
use Rattle.swf_meaning.specs.Local.{moved_on, caught_by, failed, rule, local}
use Rattle.swf_meaning.specs.Next.{Goal, Place, ListEnd, WorkflowEnd, task_at, ended, next}
use Rattle.swf_meaning.specs.Node.{Node, Fresh, Live, Done, Fault, Inside, At, Later, Sleep, Hear, Await, Forked, Nodes, no_nodes, branch, Round, Seq, Each, Try, Catch, Fun, Sub, Running}
use Rattle.swf_meaning.specs.Parts.{Catching, kind_of, common_of, http_in, listen_in, try_in, workflow}
use Rattle.swf_meaning.specs.Put.{put_at}
use Rattle.swf_meaning.specs.Raise.{raised_by}
use Rattle.swf_meaning.specs.Rule.{◌>>=◌, fails, value_of}
use Rattle.swf_meaning.specs.Switch.{taken, default_of, flow_by}
use Rattle.swf_meaning.specs.Top.{Top, Begins, Moves, Fails, Retries, Sleeps, Hears, Awaits, Splits, Ends, Breaks, top_at, line_at}
use Rattle.swf_meaning.specs.Try.{Verdict, Pass, Again, Handle, Stay, Give, verdict, by_verdict}
use Rattle.swf_meaning.specs.declared.heard.Heard.{Heard}
use Rattle.swf_runs.proofs.OnceLemmas.{mapped_some}

-- where a list stands that begins or goes on
abbrev pub IsBeginning : Node → Type 0
IsBeginning (Fresh t v) = Unit {0}
IsBeginning (Live r k) = ⊥
IsBeginning (Done w f) = Unit {0}
IsBeginning (Fault p) = ⊥

abbrev pub IsFresh : Node → Type 0
IsFresh (Fresh t v) = Unit {0}
IsFresh (Live r k) = ⊥
IsFresh (Done w f) = ⊥
IsFresh (Fault p) = ⊥

abbrev pub AreFresh : Nodes → Type 0
AreFresh no_nodes = Unit {0}
AreFresh (branch n ns) = IsFresh n × AreFresh ns

-- branches for which there is room, none of which has begun
abbrev pub IsSplit : Site → Nodes → Type 0
IsSplit s no_nodes = ⊥
IsSplit s (branch n ns) = (s.branches + count (branch n ns) ≤ most_branches) × AreFresh (branch n ns)

abbrev pub IsMadeInside : Site → Inside → Type 0
IsMadeInside s (At round i n) = IsBeginning n
IsMadeInside s (Later n m) = Unit {0}
IsMadeInside s (Sleep m) = Unit {0}
IsMadeInside s (Hear bound hs) = Unit {0}
IsMadeInside s (Await a q o) = Unit {0}
IsMadeInside s (Forked ns) = IsSplit s ns

-- a node that a rule makes: it is done or in an error, its list begins or goes on, it waits or listens, or it splits
abbrev pub IsMade : Site → Node → Type 0
IsMade s (Fresh t v) = ⊥
IsMade s (Live r k) = IsMadeInside s k
IsMade s (Done w f) = Unit {0}
IsMade s (Fault p) = Unit {0}

-- a rule gives such a node, or an error
abbrev pub Yields : Site → Result Stepped Problem → Type 0
Yields s (Ok m) = IsMade s m.node
Yields s (Err p) = Unit {0}

-- a rule that may not apply
abbrev pub MayYield : Site → Option (Result Stepped Problem) → Type 0
MayYield s None = Unit {0}
MayYield s (Some r) = Yields s r

after_part : {A : Type 0} (s : Site) (o : Result A Problem) (f : A → Result Stepped Problem) → ((a : A) → Yields s (f a)) → Yields s (o >>= f)
after_part s (Ok a) f h = h a
after_part s (Err p) f h = tt

by_either : (s : Site) (b : Bool) (x y : Result Stepped Problem) → Yields s x → Yields s y → Yields s (cond b x y)
by_either s true x y h k = h
by_either s false x y h k = k

if_some : (s : Site) (b : Bool) (r : Result Stepped Problem) → Yields s r → MayYield s (cond b (Some r) None)
if_some s true r h = h
if_some s false r h = tt

exports : (s : Site) (l : Line) (r : Running) (f : Flow) (w : Value) (e : Option Template) → Yields s (exported l r f w e)
exports s l r f w None = tt
exports s l r f w (Some e) = after_part s (value_of r.task (fill e _ w)) (λ c. Ok (finished w f c)) (λ c. tt)

completes_by : (s : Site) (l : Line) (r : Running) (f : Flow) (raw : Value) → Yields s (complete_by l r f raw)
completes_by s l r f raw =
    by_either s (is_within raw) (output_of l r raw >>= λ w. exported l r f w (common_of r.task).export_as) _
    (after_part s (output_of l r raw) (λ w. exported l r f w (common_of r.task).export_as) (λ w. exports s l r f w (common_of r.task).export_as)) tt

pub completes : (s : Site) (l : Line) (r : Running) (raw : Value) → Yields s (complete l r raw)
completes s l r raw = completes_by s l r (common_of r.task).flow raw

begins : (w : Value) (o : Option Task) → IsBeginning (begins_with w o)
begins w None = tt
begins w (Some t) = tt

iteration_decides : (s : Site) (l : Line) (r : Running) (round : Round) (w : Value) (b : Bool) → Yields s (iteration_decided l r round w b)
iteration_decides s l r round w true = begins w (task_at (list_of r.task round) zero)
iteration_decides s l r round w false = completes s l r w

iteration_guards : (s : Site) (l : Line) (r : Running) (round : Round) (w : Value) (o : Option Tree) → Yields s (iteration_guarded l r round w o)
iteration_guards s l r round w None = begins w (task_at (list_of r.task round) zero)
iteration_guards s l r round w (Some e) = after_part s (asked r.task (within (seen l r.task round) r) w e) (iteration_decided l r round w) (iteration_decides s l r round w)

iterations : (s : Site) (l : Line) (r : Running) (items : List Value) (j : ℕ) (w : Value) → Yields s (iteration l r items j w)
iterations s l r items j w =
    by_either s (nat_lt j (length items)) (iteration_guarded l r (Each items j) w (guard_of r.task)) (complete l r w) (iteration_guards s l r (Each items j) w (guard_of r.task)) (completes s l r w)

list_ends : (s : Site) (l : Line) (r : Running) (round : Round) (w : Value) → Yields s (list_ended l r round w)
list_ends s l r Seq w = completes s l r w
list_ends s l r (Each items j) w = iterations s l r items (j + 1) w
list_ends s l r (Try n) w = completes s l r w
list_ends s l r (Catch p) w = completes s l r w
list_ends s l r Fun w = completes s l r w
list_ends s l r (Sub d v c) w = completes s l r w

arrival : (s : Site) (l : Line) (r : Running) (round : Round) (i : ℕ) (w : Value) (o : Option Task) → Yields s (arrives l r round i w o)
arrival s l r round i w None = list_ends s l r round w
arrival s l r round i w (Some t) = tt

comes : (s : Site) (l : Line) (r : Running) (round : Round) (i : ℕ) (w : Value) → Yields s (comes_to l r round i w)
comes s l r round i w = arrival s l r round i w (task_at (list_of r.task round) i)

ends : (s : Site) (l : Line) (r : Running) (w : Value) → Yields s (ended l r w)
ends s l r w =
    by_either s (is_workflow r.task) (output_of l r w >>= λ x. Ok (becomes l (Done x flows.End))) (Ok (becomes l (Done w flows.End)))
    (after_part s (output_of l r w) (λ x. Ok (becomes l (Done x flows.End))) (λ x. tt)) tt

workflow_ends : (s : Site) (l : Line) (r : Running) (round : Round) (w : Value) → Yields s (workflow_ended l r round w)
workflow_ends s l r Seq w = ends s l r w
workflow_ends s l r (Each items j) w = ends s l r w
workflow_ends s l r (Try n) w = ends s l r w
workflow_ends s l r (Catch p) w = ends s l r w
workflow_ends s l r Fun w = ends s l r w
workflow_ends s l r (Sub d v c) w = completes s l r w

goes : (s : Site) (l : Line) (r : Running) (round : Round) (w : Value) (g : Goal) → Yields s (goes_to l r round w g)
goes s l r round w (Place i) = comes s l r round i w
goes s l r round w ListEnd = list_ends s l r round w
goes s l r round w WorkflowEnd = workflow_ends s l r round w

moves_on : (s : Site) (l : Line) (r : Running) (round : Round) (i : ℕ) (w : Value) (f : Flow) → Yields s (moved_on l r round i w f)
moves_on s l r round i w f = goes s l r round w (next (list_of r.task round) i f)

decides : (s : Site) (l : Line) (r : Running) (n : ℕ) (p : Problem) (v : Verdict) → Yields s (by_verdict s l r n p v)
decides s l r n p Pass = tt
decides s l r n p (Again delay) = tt
decides s l r n p Handle = comes s l r (Catch p) zero r.input
decides s l r n p Stay = tt
decides s l r n p Give = completes s l r r.input

catches : (s : Site) (l : Line) (r : Running) (n : ℕ) (p : Problem) (o : Option Catching) → Yields s (caught_by s l r n p o)
catches s l r n p None = tt
catches s l r n p (Some c) = after_part s (verdict l r n p c.errors c.handler) (by_verdict s l r n p) (decides s l r n p)

fails_on : (s : Site) (l : Line) (r : Running) (round : Round) (p : Problem) → Yields s (failed s l r round p)
fails_on s l r Seq p = tt
fails_on s l r (Each items j) p = tt
fails_on s l r (Try n) p = catches s l r n p (try_in (kind_of r.task))
fails_on s l r (Catch q) p = tt
fails_on s l r Fun p = tt
fails_on s l r (Sub d v c) p = tt

hears : (s : Site) (l : Line) (r : Running) (hs : List Heard) (o : Option ListenSpec) → MayYield s (heard_by l r hs o)
hears s l r hs None = tt
hears s l r hs (Some spec) = if_some s (is_satisfied spec hs) (complete l r (events_of spec hs)) (completes s l r (events_of spec hs))

steps : (s : Site) (l : Line) (o : Result Stepped Problem) → Yields s o → IsMade s (step_of l o).node
steps s l (Ok m) h = h
steps s l (Err p) h = tt

sends : (s : Site) (l : Line) (r : Running) (o : Result Event EventFault) → Yields s (emits l r o)
sends s l r (Ok e) = steps s l (complete l r r.input) (completes s l r r.input)
sends s l r (Err f) = tt

goes_over : (s : Site) (l : Line) (r : Running) (v : Value) → Yields s (over l r v)
goes_over s l r (list xs) = iterations s l r (values_of xs) zero r.input
goes_over s l r v = tt

-- branches that have not begun
begin_fresh : (ts : Tasks) (u : Value) → AreFresh (fresh ts u)
begin_fresh no_tasks u = tt
begin_fresh (named k t ts) u = (tt, begin_fresh ts u)

splits : (s : Site) (l : Line) (r : Running) (ts : Tasks) (u : Value) → s.branches + count (fresh ts u) ≤ most_branches → Yields s (split l r (fresh ts u))
splits s l r no_tasks u room = completes s l r (list (items_of []))
splits s l r (named k t ts) u room = (room, begin_fresh (named k t ts) u)

forks : (s : Site) (l : Line) (r : Running) (ts : Tasks) → Yields s (forking s l r ts)
forks s l r ts = by (nat_le (s.branches + count (fresh ts r.input)) most_branches) refl
  where
    by : (b : Bool) → nat_le (s.branches + count (fresh ts r.input)) most_branches ≡ b → Yields s (cond b (split l r (fresh ts r.input)) (fails r.task kinds.Runtime (codes "strand limit")))
    by true e = splits s l r ts r.input (leb-true (s.branches + count (fresh ts r.input)) most_branches e)
    by false e = tt

-- a call asks, or runs a function
calls_function : (s : Site) (l : Line) (r : Running) (n : List ℕ) (e : Option Template) → Yields s (calling l r n e)
calls_function s l r n e = after_part s (in_depth l r.task) _ (λ u. after_part s (input_by l r e) _ (λ v. after_part s (or_unknown_function r.task (function_in n l.document.functions)) (λ f. Ok (runs_inside l r Fun f v)) (λ f. tt)))

calls : (s : Site) (l : Line) (r : Running) (c : Callee) → Yields s (called s l r c)
calls s l r (callees.Http h) = after_part s (requested l r h) (λ q. Ok (awaits s l r q)) (λ q. tt)
calls s l r (callees.Function n e) = calls_function s l r n e

runs : (s : Site) (l : Line) (r : Running) (spec : RunSpec) → Yields s (running s l r spec)
runs s l r spec = after_part s (in_depth l r.task) _
    (λ u. after_part s (input_by l r spec.input) _ (λ v. after_part s (or_unknown_workflow r.task (document_at (resolved s.documents spec.key) s.documents)) (λ d. Ok (runs_inside l r (Sub d v null) (workflow d) v)) (λ d. tt)))

-- what a call is answered it gives, or is in an error
gives : (s : Site) (l : Line) (r : Running) (h : HttpSpec) (q : Request) (p : CallReply) → Yields s (answered l r h q p)
gives s l r h q (replies.Answer status headers content) =
    by_either s (is_answered h.redirect status) (complete l r (response_value h.response q status headers content)) (communication r.task status None) (completes s l r (response_value h.response q status headers content)) tt
gives s l r h q replies.Unreached = tt

gives_by : (s : Site) (l : Line) (r : Running) (q : Request) (p : CallReply) (o : Option HttpSpec) → Yields s (answered_by l r q p o)
gives_by s l r q p None = completes s l r r.input
gives_by s l r q p (Some h) = gives s l r h q p

goes_on : (s : Site) (l : Line) (r : Running) (q : Request) (o : Option CallReply) → MayYield s (replied l r q o)
goes_on s l r q None = tt
goes_on s l r q (Some p) = gives_by s l r q p (http_in (kind_of r.task))

begins_as : (s : Site) (l : Line) (r : Running) (k : Kind) → Yields s (begun s l r k)
begins_as s l r (call c) = calls s l r c
begins_as s l r (do_all ts) = comes s l r Seq zero r.input
begins_as s l r (emit e) = after_part s (value_of r.task (fill e (within l r) r.input)) (λ v. emits l r (event_of (with_own s l v))) (λ v. sends s l r (event_of (with_own s l v)))
begins_as s l r (for spec ts) = after_part s (value_of r.task (first_of spec.items (within l r) r.input)) (over l r) (goes_over s l r)
begins_as s l r (fork c ts) = forks s l r ts
begins_as s l r (listen spec) = after_part s (bound_by r.task (within l r) r.input (correlations spec.filters) _) (λ bound. Ok (becomes l (Live r (Hear bound [])))) (λ bound. tt)
begins_as s l r (raise e) = after_part s (raised_by l r e) (λ p. Err p) (λ p. tt)
begins_as s l r (run spec) = runs s l r spec
begins_as s l r (set e) = after_part s (value_of r.task (fill e (within l r) r.input)) (complete l r) (completes s l r)
begins_as s l r (switch cs) = after_part s (taken l r (default_of cs) cs) (λ c. complete_by l r (flow_by r.task c) r.input) (λ c. completes_by s l r (flow_by r.task c) r.input)
begins_as s l r (try c ts h) = comes s l r (Try zero) zero r.input
begins_as s l r (wait d) = tt

begins_if : (s : Site) (l : Line) (r : Running) (b : Bool) → Yields s (begun_if s l r b)
begins_if s l r true = begins_as s l r (kind_of r.task)
begins_if s l r false = tt

guards : (s : Site) (l : Line) (r : Running) (o : Option Tree) → Yields s (guarded s l r o)
guards s l r None = begins_as s l r (kind_of r.task)
guards s l r (Some e) = after_part s (asked r.task (within l r) r.input e) (begun_if s l r) (begins_if s l r)

enters : (s : Site) (l : Line) (t : Task) (v : Value) → Yields s (enter s l t v)
enters s l t v = after_part s (input_of l t v) (λ u. guarded s l (record { task = t; raw = v; input = u }) (common_of t).cond) (λ u. guards s l (record { task = t; raw = v; input = u }) (common_of t).cond)

-- the rule of a top
rules : (s : Site) (l : Line) (t : Top) → MayYield s (rule s l t)
rules s l (Begins t v) = enters s l t v
rules s l (Moves r round i w f) = moves_on s l r round i w f
rules s l (Fails r round i p) = fails_on s l r round p
rules s l (Retries r n until) = if_some s (nat_le until s.now) (comes_to l r (Try n) zero r.input) (comes s l r (Try n) zero r.input)
rules s l (Sleeps r until) = if_some s (nat_le until s.now) (complete l r r.input) (completes s l r r.input)
rules s l (Hears r bound hs) = hears s l r hs (listen_in (kind_of r.task))
rules s l (Awaits r a q o) = goes_on s l r q o
rules s l (Splits r ns) = tt
rules s l (Ends w f) = tt
rules s l (Breaks p) = tt

-- a step of a strand puts such a node in the place of its top
abbrev pub IsPut : Site → Line → List ℕ → Node → Stepped → Type 0
IsPut s l bs n m = (x : Stepped) × IsMade s x.node × (m ≡ put_at l bs n x)

pub local_put : (s : Site) (l : Line) (bs : List ℕ) (n : Node) (m : Stepped) → local s l bs n ≡ Some m → IsPut s l bs n m
local_put s l bs n m e =
    let z = line_at l bs n in
    mapped_some (λ x. put_at l bs n (step_of z x)) (option_and_then (rule s z) (top_at bs n)) m e
    (λ x p q. option_and_then_some (rule s z) (top_at bs n) x p (λ t a b. (step_of z x, steps s z x (subst (MayYield s) b (rules s z t)), sym q)))
