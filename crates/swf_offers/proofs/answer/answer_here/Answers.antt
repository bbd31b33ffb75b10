use Rattle.std.proofs.Common.{◌∙◌, ap, sym}
use Rattle.swf_stack.specs.Stands.{top_of}
use Rattle.swf_offers.specs.Answers.{is_open_in_top}
use Rattle.swf_offers.proofs.AnswerLemmas.{here-none, here-lent, lent-none}
use Rattle.swf_offers.proofs.OpenLemmas.{IsOwn}
use Rattle.swf_offers.proofs.answer.answer_here.Goals as goal
use Rattle.swf_offers.proofs.answer.answer_here.Goals.{in-Some, in_default+in-Answer-1, in_default+in-Unreached-1}

pub returns-then-not-is_open : goal.returns-then-not-is_open
returns-then-not-is_open c =
    here-none c.args.activity.now c.args.reply c.args.forest.now c.args.strand c.is_open.result (λ b f. c.is_open.ensures ∙ ap (is_open_in_top c.args.activity.now) (c.get.ensures ∙ sym (ap top_of (c.stand_of.ensures b f)))) c.if-not-is_open.true

pub returns : goal.returns
returns c =
    let own : IsOwn c.args.activity.now c.args.forest.now c.args.strand c.is_open.result = λ b f. c.is_open.ensures ∙ ap (is_open_in_top c.args.activity.now) (c.get.ensures ∙ sym (ap top_of (c.stand_of.ensures b f))) in
    elim c.match-top_mut.branch [
      | in-Some w ↦ here-lent c.args.activity.now c.args.reply c.args.forest.now c.match-top_mut.forest c.args.strand c.stand_of.result.now c.is_open.result c.requires c.stand_of.ensures own c.if-not-is_open.false
          c.top_mut.result w.in-Some.stand w.put_answer.new.top c.top_mut.ensures.value w.in-Some.is w.put_answer.ensures w.forest-is
      | in_default+in-Answer-1 w ↦ absurd (lent-none c.args.forest.now c.args.strand c.top_mut.result c.requires c.top_mut.ensures.value w.in_default.is)
      | in_default+in-Unreached-1 w ↦ absurd (lent-none c.args.forest.now c.args.strand c.top_mut.result c.requires c.top_mut.ensures.value w.in_default.is)
    ]
