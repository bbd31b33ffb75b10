-- For what a task runs its list, in the words of the definitions.
use Rattle.std.specs.Prelude.{Bool, true, false}
use Rattle.swf_value.specs.Value.{Value}
use Rattle.swf_catalog.specs.declared.round.Round.{Round as DeclaredRound}
use Rattle.swf_catalog.specs.declared.round.Round.TheVariants as rounds
use Rattle.swf_meaning.specs.Node.{Round, Seq, Each, Try, Catch, Fun, Sub}

abbrev pub round_of : DeclaredRound → Round
round_of rounds.Seq = Seq
round_of (rounds.Each t) = Each t.items t.number
round_of (rounds.Try n) = Try n
round_of (rounds.Catch p) = Catch p
round_of rounds.Function = Fun
round_of (rounds.SubWorkflow s) = Sub s.document s.input s.context

-- a sub-workflow, which has a context of its own
abbrev pub is_sub : DeclaredRound → Bool
is_sub rounds.Seq = false
is_sub (rounds.Each t) = false
is_sub (rounds.Try n) = false
is_sub (rounds.Catch p) = false
is_sub rounds.Function = false
is_sub (rounds.SubWorkflow s) = true

-- the same with another context, where it has one
abbrev pub keeping_in : DeclaredRound → Value → DeclaredRound
keeping_in rounds.Seq c = rounds.Seq
keeping_in (rounds.Each t) c = rounds.Each t
keeping_in (rounds.Try n) c = rounds.Try n
keeping_in (rounds.Catch p) c = rounds.Catch p
keeping_in rounds.Function c = rounds.Function
keeping_in (rounds.SubWorkflow s) c = rounds.SubWorkflow (record s { context = c })
