-- An unshared rule goes by the line and the moment alone, uses no number, and sends nothing.
use Rattle.std.proofs.Common.{◌≡◌, refl, ap, cond, ℕ, zero, ◌+◌, List, nat_le, nat_lt, length, Bool, true, false, Option, Some, None, Result, Ok, Err}
use Rattle.swf_expr.specs.Expr.{Tree}
use Rattle.swf_value.specs.Value.{Value, list}
use Rattle.swf_value.specs.Members.{values_of}
use Rattle.swf_calls.specs.Request.{Request}
use Rattle.swf_calls.specs.declared.reply.CallReply.{CallReply}
use Rattle.swf_calls.specs.declared.reply.CallReply.TheVariants as replies
use Rattle.swf_document.specs.Task.{Task, Kind, call, do_all, emit, for, fork, listen, raise, run, set, switch, try, wait}
use Rattle.swf_document.specs.Template.{Template}
use Rattle.swf_document.specs.declared.call.HttpSpec.{HttpSpec}
use Rattle.swf_document.specs.declared.common.Flow.{Flow}
use Rattle.swf_document.specs.declared.common.Flow.TheVariants as flows
use Rattle.swf_document.specs.declared.error.Problem.{Problem}
use Rattle.swf_document.specs.declared.event.ListenSpec.{ListenSpec}
use Rattle.swf_templates.specs.Fill.{fill, first_of, is_within}
use Rattle.swf_meaning.specs.Around.{seen}
use Rattle.swf_meaning.specs.Call.{is_answered, response_value, communication, answered, answered_by, replied}
use Rattle.swf_meaning.specs.Complete.{Stepped, becomes, step_of, asked, input_of, output_of, finished, exported, complete_by, complete}
use Rattle.swf_meaning.specs.Enter.{begun, begun_if, guarded, enter}
use Rattle.swf_meaning.specs.For.{over}
use Rattle.swf_meaning.specs.Line.{Line, Site, within, is_workflow}
use Rattle.swf_meaning.specs.Listen.{heard_by, is_satisfied, events_of}
use Rattle.swf_meaning.specs.Lists.{list_of, guard_of, iteration_decided, iteration_guarded, iteration, list_ended, arrives, comes_to, workflow_ended, goes_to}
use Rattle.swf_meaning.specs.Local.{caught_by, failed, rule}
use Rattle.swf_meaning.specs.Next.{Goal, Place, ListEnd, WorkflowEnd, task_at, ended, next}
use Rattle.swf_meaning.specs.Node.{Done, Round, Seq, Each, Try, Catch, Fun, Sub, Running}
use Rattle.swf_meaning.specs.Parts.{Catching, kind_of, common_of, http_in, listen_in, try_in}
use Rattle.swf_meaning.specs.Raise.{raised_by}
use Rattle.swf_meaning.specs.Rule.{◌>>=◌, value_of}
use Rattle.swf_meaning.specs.Shared.{is_shared_kind, is_shared_top}
use Rattle.swf_meaning.specs.Switch.{taken, default_of, flow_by}
use Rattle.swf_meaning.specs.Top.{Top, Begins, Moves, Fails, Retries, Sleeps, Hears, Awaits, Splits, Ends, Breaks}
use Rattle.swf_meaning.specs.Try.{Verdict, Pass, Again, Handle, Stay, Give, verdict, by_verdict}
use Rattle.swf_meaning.specs.declared.heard.Heard.{Heard}
use Rattle.swf_lines.specs.Own.{blind}

-- ---- it goes by the line and the moment alone

begins_blind : (s : Site) (l : Line) (r : Running) (k : Kind) → is_shared_kind k ≡ false → begun s l r k ≡ begun (blind s.now) l r k
begins_blind s l r (call c) e = cc
begins_blind s l r (do_all ts) e = refl
begins_blind s l r (emit x) e = cc
begins_blind s l r (for spec ts) e = refl
begins_blind s l r (fork c ts) e = cc
begins_blind s l r (listen spec) e = cc
begins_blind s l r (raise x) e = refl
begins_blind s l r (run spec) e = cc
begins_blind s l r (set x) e = refl
begins_blind s l r (switch cs) e = refl
begins_blind s l r (try c ts h) e = refl
begins_blind s l r (wait d) e = cc

begins_if_blind : (s : Site) (l : Line) (r : Running) → is_shared_kind (kind_of r.task) ≡ false → (b : Bool) → begun_if s l r b ≡ begun_if (blind s.now) l r b
begins_if_blind s l r e true = begins_blind s l r (kind_of r.task) e
begins_if_blind s l r e false = refl

same_after : {A : Type 0} (o : Result A Problem) (f g : A → Result Stepped Problem) → ((a : A) → f a ≡ g a) → (o >>= f) ≡ (o >>= g)
same_after (Ok a) f g h = h a
same_after (Err p) f g h = refl

guards_blind : (s : Site) (l : Line) (r : Running) → is_shared_kind (kind_of r.task) ≡ false → (o : Option Tree) → guarded s l r o ≡ guarded (blind s.now) l r o
guards_blind s l r e None = begins_blind s l r (kind_of r.task) e
guards_blind s l r e (Some x) = same_after (asked r.task (within l r) r.input x) (begun_if s l r) (begun_if (blind s.now) l r) (begins_if_blind s l r e)

enters_blind : (s : Site) (l : Line) (t : Task) (v : Value) → is_shared_kind (kind_of t) ≡ false → enter s l t v ≡ enter (blind s.now) l t v
enters_blind s l t v e =
    same_after (input_of l t v) (λ u. guarded s l (record { task = t; raw = v; input = u }) (common_of t).cond) (λ u. guarded (blind s.now) l (record { task = t; raw = v; input = u }) (common_of t).cond)
    (λ u. guards_blind s l (record { task = t; raw = v; input = u }) e (common_of t).cond)

decides_blind : (s : Site) (l : Line) (r : Running) (n : ℕ) (p : Problem) (v : Verdict) → by_verdict s l r n p v ≡ by_verdict (blind s.now) l r n p v
decides_blind s l r n p Pass = refl
decides_blind s l r n p (Again delay) = refl
decides_blind s l r n p Handle = refl
decides_blind s l r n p Stay = refl
decides_blind s l r n p Give = refl

catches_blind : (s : Site) (l : Line) (r : Running) (n : ℕ) (p : Problem) (o : Option Catching) → caught_by s l r n p o ≡ caught_by (blind s.now) l r n p o
catches_blind s l r n p None = refl
catches_blind s l r n p (Some c) = same_after (verdict l r n p c.errors c.handler) (by_verdict s l r n p) (by_verdict (blind s.now) l r n p) (decides_blind s l r n p)

fails_blind : (s : Site) (l : Line) (r : Running) (round : Round) (p : Problem) → failed s l r round p ≡ failed (blind s.now) l r round p
fails_blind s l r Seq p = refl
fails_blind s l r (Each items j) p = refl
fails_blind s l r (Try n) p = catches_blind s l r n p (try_in (kind_of r.task))
fails_blind s l r (Catch q) p = refl
fails_blind s l r Fun p = refl
fails_blind s l r (Sub d v c) p = refl

pub rule_blind : (s : Site) (l : Line) (t : Top) → is_shared_top t ≡ false → rule s l t ≡ rule (blind s.now) l t
rule_blind s l (Begins t v) e = ap Some (enters_blind s l t v e)
rule_blind s l (Moves r round i w f) e = refl
rule_blind s l (Fails r round i p) e = ap Some (fails_blind s l r round p)
rule_blind s l (Retries r n until) e = refl
rule_blind s l (Sleeps r until) e = refl
rule_blind s l (Hears r bound hs) e = refl
rule_blind s l (Awaits r a q o) e = refl
rule_blind s l (Splits r ns) e = refl
rule_blind s l (Ends w f) e = refl
rule_blind s l (Breaks p) e = refl

-- ---- it uses no number and sends nothing

abbrev pub Rests : Stepped → Type 0
Rests m = (m.used ≡ 0) × (m.emitted ≡ None)

abbrev pub Yields : Result Stepped Problem → Type 0
Yields (Ok m) = Rests m
Yields (Err p) = Unit {0}

abbrev pub MayYield : Option (Result Stepped Problem) → Type 0
MayYield None = Unit {0}
MayYield (Some r) = Yields r

after_part : {A : Type 0} (o : Result A Problem) (f : A → Result Stepped Problem) → ((a : A) → Yields (f a)) → Yields (o >>= f)
after_part (Ok a) f h = h a
after_part (Err p) f h = tt

by_either : (b : Bool) (x y : Result Stepped Problem) → Yields x → Yields y → Yields (cond b x y)
by_either true x y h k = h
by_either false x y h k = k

if_some : (b : Bool) (r : Result Stepped Problem) → Yields r → MayYield (cond b (Some r) None)
if_some true r h = h
if_some false r h = tt

exports : (l : Line) (r : Running) (f : Flow) (w : Value) (e : Option Template) → Yields (exported l r f w e)
exports l r f w None = (refl, refl)
exports l r f w (Some e) = after_part (value_of r.task (fill e _ w)) (λ c. Ok (finished w f c)) (λ c. (refl, refl))

completes_by : (l : Line) (r : Running) (f : Flow) (raw : Value) → Yields (complete_by l r f raw)
completes_by l r f raw =
    by_either (is_within raw) (output_of l r raw >>= λ w. exported l r f w (common_of r.task).export_as) _
    (after_part (output_of l r raw) (λ w. exported l r f w (common_of r.task).export_as) (λ w. exports l r f w (common_of r.task).export_as)) tt

completes : (l : Line) (r : Running) (raw : Value) → Yields (complete l r raw)
completes l r raw = completes_by l r (common_of r.task).flow raw

iteration_decides : (l : Line) (r : Running) (round : Round) (w : Value) (b : Bool) → Yields (iteration_decided l r round w b)
iteration_decides l r round w true = (refl, refl)
iteration_decides l r round w false = completes l r w

iteration_guards : (l : Line) (r : Running) (round : Round) (w : Value) (o : Option Tree) → Yields (iteration_guarded l r round w o)
iteration_guards l r round w None = (refl, refl)
iteration_guards l r round w (Some e) = after_part (asked r.task (within (seen l r.task round) r) w e) (iteration_decided l r round w) (iteration_decides l r round w)

iterations : (l : Line) (r : Running) (items : List Value) (j : ℕ) (w : Value) → Yields (iteration l r items j w)
iterations l r items j w =
    by_either (nat_lt j (length items)) (iteration_guarded l r (Each items j) w (guard_of r.task)) (complete l r w) (iteration_guards l r (Each items j) w (guard_of r.task)) (completes l r w)

list_ends : (l : Line) (r : Running) (round : Round) (w : Value) → Yields (list_ended l r round w)
list_ends l r Seq w = completes l r w
list_ends l r (Each items j) w = iterations l r items (j + 1) w
list_ends l r (Try n) w = completes l r w
list_ends l r (Catch p) w = completes l r w
list_ends l r Fun w = completes l r w
list_ends l r (Sub d v c) w = completes l r w

arrival : (l : Line) (r : Running) (round : Round) (i : ℕ) (w : Value) (o : Option Task) → Yields (arrives l r round i w o)
arrival l r round i w None = list_ends l r round w
arrival l r round i w (Some t) = (refl, refl)

comes : (l : Line) (r : Running) (round : Round) (i : ℕ) (w : Value) → Yields (comes_to l r round i w)
comes l r round i w = arrival l r round i w (task_at (list_of r.task round) i)

ends : (l : Line) (r : Running) (w : Value) → Yields (ended l r w)
ends l r w =
    by_either (is_workflow r.task) (output_of l r w >>= λ x. Ok (becomes l (Done x flows.End))) (Ok (becomes l (Done w flows.End)))
    (after_part (output_of l r w) (λ x. Ok (becomes l (Done x flows.End))) (λ x. (refl, refl))) (refl, refl)

workflow_ends : (l : Line) (r : Running) (round : Round) (w : Value) → Yields (workflow_ended l r round w)
workflow_ends l r Seq w = ends l r w
workflow_ends l r (Each items j) w = ends l r w
workflow_ends l r (Try n) w = ends l r w
workflow_ends l r (Catch p) w = ends l r w
workflow_ends l r Fun w = ends l r w
workflow_ends l r (Sub d v c) w = completes l r w

goes : (l : Line) (r : Running) (round : Round) (w : Value) (g : Goal) → Yields (goes_to l r round w g)
goes l r round w (Place i) = comes l r round i w
goes l r round w ListEnd = list_ends l r round w
goes l r round w WorkflowEnd = workflow_ends l r round w

decides : (s : Site) (l : Line) (r : Running) (n : ℕ) (p : Problem) (v : Verdict) → Yields (by_verdict s l r n p v)
decides s l r n p Pass = tt
decides s l r n p (Again delay) = (refl, refl)
decides s l r n p Handle = comes l r (Catch p) zero r.input
decides s l r n p Stay = tt
decides s l r n p Give = completes l r r.input

catches : (s : Site) (l : Line) (r : Running) (n : ℕ) (p : Problem) (o : Option Catching) → Yields (caught_by s l r n p o)
catches s l r n p None = tt
catches s l r n p (Some c) = after_part (verdict l r n p c.errors c.handler) (by_verdict s l r n p) (decides s l r n p)

fails_on : (s : Site) (l : Line) (r : Running) (round : Round) (p : Problem) → Yields (failed s l r round p)
fails_on s l r Seq p = tt
fails_on s l r (Each items j) p = tt
fails_on s l r (Try n) p = catches s l r n p (try_in (kind_of r.task))
fails_on s l r (Catch q) p = tt
fails_on s l r Fun p = tt
fails_on s l r (Sub d v c) p = tt

hears : (l : Line) (r : Running) (hs : List Heard) (o : Option ListenSpec) → MayYield (heard_by l r hs o)
hears l r hs None = tt
hears l r hs (Some spec) = if_some (is_satisfied spec hs) (complete l r (events_of spec hs)) (completes l r (events_of spec hs))

goes_over : (l : Line) (r : Running) (v : Value) → Yields (over l r v)
goes_over l r (list xs) = iterations l r (values_of xs) zero r.input
goes_over l r v = tt

gives : (l : Line) (r : Running) (h : HttpSpec) (q : Request) (p : CallReply) → Yields (answered l r h q p)
gives l r h q (replies.Answer status headers content) =
    by_either (is_answered h.redirect status) (complete l r (response_value h.response q status headers content)) (communication r.task status None) (completes l r (response_value h.response q status headers content)) tt
gives l r h q replies.Unreached = tt

gives_by : (l : Line) (r : Running) (q : Request) (p : CallReply) (o : Option HttpSpec) → Yields (answered_by l r q p o)
gives_by l r q p None = completes l r r.input
gives_by l r q p (Some h) = gives l r h q p

goes_on : (l : Line) (r : Running) (q : Request) (o : Option CallReply) → MayYield (replied l r q o)
goes_on l r q None = tt
goes_on l r q (Some p) = gives_by l r q p (http_in (kind_of r.task))

begins_as : (s : Site) (l : Line) (r : Running) (k : Kind) → is_shared_kind k ≡ false → Yields (begun s l r k)
begins_as s l r (call c) e = cc
begins_as s l r (do_all ts) e = comes l r Seq zero r.input
begins_as s l r (emit x) e = cc
begins_as s l r (for spec ts) e = after_part (value_of r.task (first_of spec.items (within l r) r.input)) (over l r) (goes_over l r)
begins_as s l r (fork c ts) e = cc
begins_as s l r (listen spec) e = cc
begins_as s l r (raise x) e = after_part (raised_by l r x) (λ p. Err p) (λ p. tt)
begins_as s l r (run spec) e = cc
begins_as s l r (set x) e = after_part (value_of r.task (fill x (within l r) r.input)) (complete l r) (completes l r)
begins_as s l r (switch cs) e = after_part (taken l r (default_of cs) cs) (λ c. complete_by l r (flow_by r.task c) r.input) (λ c. completes_by l r (flow_by r.task c) r.input)
begins_as s l r (try c ts h) e = comes l r (Try zero) zero r.input
begins_as s l r (wait d) e = cc

begins_if : (s : Site) (l : Line) (r : Running) → is_shared_kind (kind_of r.task) ≡ false → (b : Bool) → Yields (begun_if s l r b)
begins_if s l r e true = begins_as s l r (kind_of r.task) e
begins_if s l r e false = (refl, refl)

guards : (s : Site) (l : Line) (r : Running) → is_shared_kind (kind_of r.task) ≡ false → (o : Option Tree) → Yields (guarded s l r o)
guards s l r e None = begins_as s l r (kind_of r.task) e
guards s l r e (Some x) = after_part (asked r.task (within l r) r.input x) (begun_if s l r) (begins_if s l r e)

enters : (s : Site) (l : Line) (t : Task) (v : Value) → is_shared_kind (kind_of t) ≡ false → Yields (enter s l t v)
enters s l t v e = after_part (input_of l t v) (λ u. guarded s l (record { task = t; raw = v; input = u }) (common_of t).cond) (λ u. guards s l (record { task = t; raw = v; input = u }) e (common_of t).cond)

pub rule_rests : (s : Site) (l : Line) (t : Top) → is_shared_top t ≡ false → MayYield (rule s l t)
rule_rests s l (Begins t v) e = enters s l t v e
rule_rests s l (Moves r round i w f) e = goes l r round w (next (list_of r.task round) i f)
rule_rests s l (Fails r round i p) e = fails_on s l r round p
rule_rests s l (Retries r n until) e = if_some (nat_le until s.now) (comes_to l r (Try n) zero r.input) (comes l r (Try n) zero r.input)
rule_rests s l (Sleeps r until) e = if_some (nat_le until s.now) (complete l r r.input) (completes l r r.input)
rule_rests s l (Hears r bound hs) e = hears l r hs (listen_in (kind_of r.task))
rule_rests s l (Awaits r a q o) e = goes_on l r q o
rule_rests s l (Splits r ns) e = tt
rule_rests s l (Ends w f) e = tt
rule_rests s l (Breaks p) e = tt

pub steps_rest : (l : Line) (o : Result Stepped Problem) → Yields o → Rests (step_of l o)
steps_rest l (Ok m) h = h
steps_rest l (Err p) h = (refl, refl)
