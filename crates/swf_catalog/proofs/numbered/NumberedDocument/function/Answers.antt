use Rattle.std.proofs.Common.{◌≡◌, ◌∙◌, ap, sym, zero}
use Rattle.std.specs.Prelude.{is_some, option_and_then}
use Rattle.swf_document.specs.TaskNode.{tasks_of}
use Rattle.swf_document.specs.declared.document.Document.{Document}
use Rattle.swf_meaning.specs.Next.{place_from, task_at}
use Rattle.swf_catalog.specs.Numbers.{functions_begin, numbered}
use Rattle.swf_catalog.proofs.FunctionLemmas.{function-found, function-numbered, function-there}
use Rattle.swf_catalog.proofs.numbered.NumberedDocument.function.Goals as goal

pub returns-in_err-place-clause-task : goal.returns-in_err-place-clause-task
returns-in_err-place-clause-task c =
    let d = c.args.self.now in
    let n = c.args.name.now in
    let same : tasks_of c.as_slice.result.now ≡ d.functions = c.as_slice.ensures ∙ ap (λ (x : Document). x.functions) (c.deref.ensures ∙ c.self.view_is) in
    ap (option_and_then (numbered d)) c.from_residual.ensures
    ∙ sym (function-found n d.functions ∙ ap (option_and_then (task_at d.functions)) (sym (c.in_err-place.ensures ∙ ap (place_from zero n) same)))

pub number_at-requires : goal.number_at-requires
number_at-requires c =
    let d = c.args.self.now in
    let n = c.args.name.now in
    let same : tasks_of c.as_slice.result.now ≡ d.functions = c.as_slice.ensures ∙ ap (λ (x : Document). x.functions) (c.deref.ensures ∙ c.self.view_is) in
    function-there d n c.self.inside.functions c.in_ok-place.place (c.self.invariant.1 ∙ ap functions_begin c.self.view_is) (sym (c.in_ok-place.ensures ∙ ap (place_from zero n) same))

pub returns-clause-task : goal.returns-clause-task
returns-clause-task c =
    let d = c.args.self.now in
    let n = c.args.name.now in
    let same : tasks_of c.as_slice.result.now ≡ d.functions = c.as_slice.ensures ∙ ap (λ (x : Document). x.functions) (c.deref.ensures ∙ c.self.view_is) in
    ap (numbered d) c.number_at.ensures
    ∙ function-numbered d n c.self.inside.functions c.in_ok-place.place (c.self.invariant.1 ∙ ap functions_begin c.self.view_is) (sym (c.in_ok-place.ensures ∙ ap (place_from zero n) same))

pub returns-clause-there : goal.returns-clause-there
returns-clause-there c =
    let d = c.args.self.now in
    let n = c.args.name.now in
    let same : tasks_of c.as_slice.result.now ≡ d.functions = c.as_slice.ensures ∙ ap (λ (x : Document). x.functions) (c.deref.ensures ∙ c.self.view_is) in
    ap (λ m. is_some (numbered d m)) c.number_at.ensures
    ∙ function-there d n c.self.inside.functions c.in_ok-place.place (c.self.invariant.1 ∙ ap functions_begin c.self.view_is) (sym (c.in_ok-place.ensures ∙ ap (place_from zero n) same))
