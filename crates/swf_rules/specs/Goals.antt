-- What a goal of the code stands for.
use Rattle.swf_meaning.specs.Next.{Goal, Place, ListEnd, WorkflowEnd}
use Rattle.swf_rules.specs.declared.next.Goal.{Goal as DeclaredGoal}
use Rattle.swf_rules.specs.declared.next.Goal.TheVariants as goals

abbrev pub goal_of : DeclaredGoal → Goal
goal_of (goals.Place i) = Place i
goal_of goals.ListEnd = ListEnd
goal_of goals.WorkflowEnd = WorkflowEnd
