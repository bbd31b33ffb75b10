use Rattle.std.proofs.Common.{rules, ◌≡◌, ◌∙◌, [], Err, ap, sym, subst, length, arith}
use Rattle.std.proofs.lemmas.List.{nil_from_length}
use Rattle.std.specs.Vec.Iter.{into_iter_items}
use Rattle.swf_jq_tokens.specs.Gives.{Gives, Fails}
use Rattle.swf_jq_parse.specs.Machine.{run}
use Rattle.swf_jq_parse.proofs.Reading.{run_goes, run_fails}
use Rattle.swf_jq_parse.proofs.parsing.run.Goals as goal

pub returns-in_err-mode : goal.returns-in_err-mode
returns-in_err-mode c =
    let s : c.from_residual.result ≡ Err c.in_err-mode.field-0.0 = search rules in
    rw s (subst (Fails _) (ap (λ ts. run c.loop-at.stack c.loop-at.mode ts c.args.end) (sym c.in-Some.ensures.steps.0) ∙ c.loop-at.invariant.0)
    (run_fails c.loop-at.stack c.loop-at.mode c.in-Some.at c.in-Some.token (into_iter_items c.next.new.self) c.args.end _ c.in_err-mode.ensures))

pub loop-at-preserved : goal.loop-at-preserved
loop-at-preserved c =
    let left = c.in-Some.ensures.steps in (
      run_goes c.loop-at.stack c.step.new.stack c.loop-at.mode c.in_ok-mode.mode c.in-Some.at c.in-Some.token (into_iter_items c.next.new.self) c.args.end c.in_ok-mode.ensures
          ∙ ap (λ ts. run c.loop-at.stack c.loop-at.mode ts c.args.end) (sym left.0)
          ∙ c.loop-at.invariant.0,
      omega (arith, left.1, c.loop-at.invariant.1, ap length left.0),
    )

pub returns : goal.returns
returns c =
    let none : into_iter_items c.loop-at.at-iterator ≡ [] = nil_from_length _ (omega (arith, c.loop-at.invariant.1, c.in-None.ensures.steps.0)) in
    subst (Gives _ c.ended.result) (ap (λ ts. run c.loop-at.stack c.loop-at.mode ts c.args.end) (sym none) ∙ c.loop-at.invariant.0) c.ended.ensures
