use Rattle.std.proofs.Common.{◌≡◌, ◌∙◌, ◌<◌, ◌++◌, ap, sym, ℕ, length, map, not, false, arith, Vec, Global}
use Rattle.std.proofs.lemmas.List.{length-map, get_or_read}
use Rattle.swf_value.proofs.Writing.{first_of_rest}
use Rattle.swf_document.specs.TaskNode.{tasks_of}
use Rattle.swf_document.specs.declared.fault.FaultKind.TheVariants.{FunctionCycle}
use Rattle.swf_cycles.specs.Cycles.{calls_itself}
use Rattle.swf_scope.specs.Scope.{fault_unless}
use Rattle.swf_scope.specs.ScopeView.{scope_of}
use Rattle.swf_validate.specs.Calls.{calls_of}
use Rattle.swf_validate.proofs.NamedLemmas.{length-calls_of, functions_step}
use Rattle.swf_validate.proofs.document.functions.Goals as goal

pub index-requires : goal.index-requires
index-requires c =
    let rows : length c.in_ok-called.called.items ≡ length c.args.given.now =
    sym (length-map c.in_ok-called.called.items (λ (row : Vec ℕ Global). row.items)) ∙ ap length c.in_ok-called.ensures ∙ length-calls_of (scope_of c.args.scope.now).known.functions c.args.given.now in
    let lent : length c.deref.result.now ≡ length c.in_ok-called.called.items = ap length c.deref.ensures.value in
    omega (arith, rows, lent, c.in_ok-cycles.ensures.len, c.in_ok-cycles.cycles.ok.0, c.loop-function-test.true)

pub loop-function-preserved : goal.loop-function-preserved
loop-function-preserved c =
    let ns = c.args.given.now in
    let i = c.loop-function.function in
    let n = c.index-given-function.result in
    let s = scope_of c.args.scope.now in
    let graph = calls_of s.known.functions (tasks_of ns) in
    let out = c.loop-function.out in
    let cycles = c.in_ok-cycles.cycles.items in
    let lent : map (λ (row : Vec ℕ Global). row.items) c.deref.result.now ≡ graph = ap (map (λ (row : Vec ℕ Global). row.items)) c.deref.ensures.value ∙ c.in_ok-called.ensures in
    let rows : length c.deref.result.now ≡ length ns =
    sym (length-map c.deref.result.now (λ (row : Vec ℕ Global). row.items)) ∙ ap length lent ∙ length-calls_of s.known.functions ns in
    let in_rows : i < length c.deref.result.now = omega (arith, rows, c.loop-function-test.true) in
    let in_cycles : i < length cycles = omega (arith, in_rows, c.in_ok-cycles.ensures.len) in
    let itself : c.index.result.now ≡ calls_itself graph i =
    get_or_read cycles i _ in_cycles c.index.ensures false ∙ c.in_ok-cycles.ensures.each i in_rows ∙ ap (λ g. calls_itself g i) lent in
    functions_step s graph ns i n out _ _ _ (first_of_rest ns i n c.loop-function-test.true c.index-given-function.is)
    (c.in_ok-tell_unless.ensures ∙ ap (λ b. out ++ fault_unless (not b) n.task.common.place FunctionCycle) itself) c.in_ok-task.ensures c.loop-function.invariant
