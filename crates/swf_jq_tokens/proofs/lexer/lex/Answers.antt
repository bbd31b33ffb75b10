use Rattle.std.proofs.Common.{◌∙◌, ap, sym, Option, Ok, arith}
use Rattle.swf_jq_tokens.specs.Nest.{behind}
use Rattle.swf_jq_tokens.specs.declared.fault.ParseFault.{ParseFault}
use Rattle.swf_jq_tokens.proofs.TokenSteps.{on_blank, on_behind}
use Rattle.swf_jq_tokens.proofs.lexer.lex.Goals as goal

pub loop-first-preserved-then-is_blank : goal.loop-first-preserved-then-is_blank
loop-first-preserved-then-is_blank c = record {
  same = on_blank _ _ _ _ _ _ _ c.in-Some.ensures.cases.0 (sym c.is_blank.ensures ∙ c.if-is_blank.true) c.loop-first.invariant.same;
  room = omega (arith, c.in-Some.ensures.cases.1);
}

pub returns-in-Some-fault : goal.returns-in-Some-fault
returns-in-Some-fault c =
    on_behind _ _ _ _ _ _ _ _ _ _ _ c.in-Some.ensures.cases.0 (sym c.is_blank.ensures ∙ c.if-is_blank.false)
    (c.in-Ok.ensures ∙ ap (λ (o : Option ParseFault). Ok (c.in-Ok.spelled.0, c.in-Ok.spelled.1, behind c.spell.new.nest o)) c.in-Some-fault.is) c.in_ok-push.ensures.items c.loop-first.invariant.same
