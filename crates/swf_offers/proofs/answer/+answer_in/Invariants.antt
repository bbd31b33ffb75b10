use Rattle.std.proofs.Common.{◌≤◌, ◌-◌}
use Rattle.swf_strands.specs.Strands.{most_beside}
use Rattle.swf_strands.proofs.AskLemmas.{below_held}
use Rattle.swf_offers.proofs.AnswerLemmas.{IsUnanswered}
use Rattle.swf_offers.proofs.answer.+answer_in.Given as goal

-- how many strands stand below
abbrev pub decreases-answer_in : goal.decreases-answer_in
decreases-answer_in l = below_held l.forest.now l.strand

-- the answer is not put yet: neither on the strand nor on a branch before this one the call is open
abbrev pub invariant-loop-child : goal.invariant-loop-child
invariant-loop-child l = (l.number ≤ most_beside) × IsUnanswered l.activity l.fn.reply l.strand l.fn.forest l.number l.forest l.reply

abbrev pub decreases-loop-child : goal.decreases-loop-child
decreases-loop-child l = most_beside - l.number
