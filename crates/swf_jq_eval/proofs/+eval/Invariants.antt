-- How far the expressions are from being taken apart, and what has come of those of a search.
use Rattle.std.proofs.Common.{◌≡◌, ◌+◌, ◌*◌, drop}
use Rattle.std.specs.Option.{option_map_or}
use Rattle.swf_expr.specs.ExprNode.{node_tree, trees_of, pairs_of, value_or_here, weight, weight_trees, weight_pairs}
use Rattle.swf_evaluation.specs.Run.{until}
use Rattle.swf_evaluation.specs.Outputs.{run}
use Rattle.swf_jq_eval.specs.Names.{names}
use Rattle.swf_jq_eval.specs.Goes.{ahead}
use Rattle.swf_jq_eval.proofs.Weights.{weight_inner}
use Rattle.swf_jq_eval.proofs.+eval.Given as goal

abbrev pub decreases-forms::level : goal.decreases-forms::level
decreases-forms::level l = 16 * weight (node_tree l.level.now)

abbrev pub decreases-forms::eval : goal.decreases-forms::eval
decreases-forms::eval l = 16 * weight l.expr.now + 1

abbrev pub decreases-forms::all : goal.decreases-forms::all
decreases-forms::all l = 16 * weight l.expr.now + 2

abbrev pub decreases-forms::maybe : goal.decreases-forms::maybe
decreases-forms::maybe l = 16 * (weight l.of.now) + 20

abbrev pub decreases-forms::both : goal.decreases-forms::both
decreases-forms::both l = 16 * (weight l.left.now + weight l.right.now) + 20

abbrev pub decreases-forms::alternative : goal.decreases-forms::alternative
decreases-forms::alternative l = 16 * (weight l.left.now + weight l.right.now) + 20

abbrev pub decreases-forms::list_of : goal.decreases-forms::list_of
decreases-forms::list_of l = 16 * (weight l.of.now) + 20

abbrev pub decreases-call::call : goal.decreases-call::call
decreases-call::call l = 16 * weight_trees (trees_of l.arguments.now) + 50

abbrev pub decreases-call::with_argument : goal.decreases-call::with_argument
decreases-call::with_argument l = 16 * weight l.of.now + 40

abbrev pub decreases-call::any_of : goal.decreases-call::any_of
decreases-call::any_of l = 16 * weight l.of.now + 30

abbrev pub decreases-call::all_of : goal.decreases-call::all_of
decreases-call::all_of l = 16 * weight l.of.now + 30

abbrev pub decreases-call::map : goal.decreases-call::map
decreases-call::map l = 16 * weight l.of.now + 30

abbrev pub decreases-call::with_entries : goal.decreases-call::with_entries
decreases-call::with_entries l = 16 * weight l.of.now + 30

abbrev pub decreases-call::sort_by : goal.decreases-call::sort_by
decreases-call::sort_by l = 16 * weight l.of.now + 30

abbrev pub decreases-call::first_of : goal.decreases-call::first_of
decreases-call::first_of l = 16 * weight l.of.now + 30

abbrev pub decreases-search::until : goal.decreases-search::until
decreases-search::until l = 16 * weight l.expr.now + 10

abbrev pub decreases-search::each_of : goal.decreases-search::each_of
decreases-search::each_of l = 16 * weight l.expr.now + 20

abbrev pub decreases-search::each_part : goal.decreases-search::each_part
decreases-search::each_part l = 16 * weight l.expr.now + 15

abbrev pub decreases-search::each_part-each : goal.decreases-search::each_part-each
decreases-search::each_part-each l = 16 * weight l.expr.now + 10

abbrev pub decreases-search::sorted : goal.decreases-search::sorted
decreases-search::sorted l = 16 * weight l.expr.now + 25

abbrev pub decreases-search::keys_of : goal.decreases-search::keys_of
decreases-search::keys_of l = 16 * weight l.expr.now + 20

abbrev pub decreases-search::each_key-each : goal.decreases-search::each_key-each
decreases-search::each_key-each l = 16 * weight l.expr.now + 12

abbrev pub decreases-search::each_key : goal.decreases-search::each_key
decreases-search::each_key l = 16 * weight l.expr.now + 15

abbrev pub decreases-search::key_of : goal.decreases-search::key_of
decreases-search::key_of l = 16 * weight l.expr.now + 10

abbrev pub decreases-object::object : goal.decreases-object::object
decreases-object::object l = 16 * weight_pairs (pairs_of l.members.now) + 40

abbrev pub decreases-object::keyed : goal.decreases-object::keyed
decreases-object::keyed l = 16 * (weight l.member.now.key + weight (value_or_here l.member.now.key l.member.now.value) + weight_pairs (pairs_of l.rest.now)) + 31

abbrev pub decreases-object::keyed-over : goal.decreases-object::keyed-over
decreases-object::keyed-over l = 16 * (weight (value_or_here l.member.now.key l.member.now.value) + weight_pairs (pairs_of l.rest.now)) + 30

abbrev pub decreases-object::keyed-over-over : goal.decreases-object::keyed-over-over
decreases-object::keyed-over-over l = 16 * weight_pairs (pairs_of l.rest.now) + 42

abbrev pub decreases-object::with_chosen : goal.decreases-object::with_chosen
decreases-object::with_chosen l = 16 * weight_pairs (pairs_of l.rest.now) + 41

abbrev pub decreases-object::values : goal.decreases-object::values
decreases-object::values l = 16 * weight (value_or_here l.key.now l.value.now) + 29

abbrev pub decreases-object::members_of_input : goal.decreases-object::members_of_input
decreases-object::members_of_input l = 16 * weight l.key.now + 53

abbrev pub decreases-object::member_of_input : goal.decreases-object::member_of_input
decreases-object::member_of_input l = 16 * weight l.key.now + 40

abbrev pub decreases-inner::otherwise : goal.decreases-inner::otherwise
decreases-inner::otherwise l = 16 * option_map_or (λ e. weight e) l.second.now 0 + 8

abbrev pub decreases-inner::each_inner : goal.decreases-inner::each_inner
decreases-inner::each_inner l = 16 * (weight l.of.now + weight_inner l.inner) + 20

abbrev pub decreases-inner::each_inner-over : goal.decreases-inner::each_inner-over
decreases-inner::each_inner-over l = 16 * weight_inner l.inner + 12

abbrev pub decreases-inner::take : goal.decreases-inner::take
decreases-inner::take l = 16 * weight_inner l.inner.now + 10

abbrev pub decreases-steps::each_step : goal.decreases-steps::each_step
decreases-steps::each_step l = 16 * weight l.of.now + 4

abbrev pub invariant-search::until-loop-x : goal.invariant-search::until-loop-x
invariant-search::until-loop-x l =
    ahead l.out (until l.want (λ x. run l.expr (names l.at) x) (drop l.x-index l.values)) ≡ ahead l.fn.out (until l.want (λ x. run l.expr (names l.at) x) l.values)
