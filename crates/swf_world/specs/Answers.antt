-- What a query is answered.
use Rattle.std.specs.Prelude.{List, Option, Some, None, Result, Ok, Err}
use Rattle.swf_value.specs.Value.{Value}
use Rattle.swf_meaning.specs.declared.label.Label.{Label}
use Rattle.swf_meaning.specs.declared.label.Query.{Query}
use Rattle.swf_meaning.specs.declared.label.Query.TheVariants as queries
use Rattle.swf_meaning.specs.declared.label.Answer.{Answer}
use Rattle.swf_meaning.specs.declared.label.Answer.TheVariants.{Status, Pending, Outbox, History}
use Rattle.swf_meaning.specs.World.{World}
use Rattle.swf_meaning.specs.Answer.{status}
use Rattle.swf_meaning.specs.Pending.{pending_value, outbox_value}
use Rattle.swf_meaning.specs.Printed.{history_value}
use Rattle.swf_world.specs.declared.query.QueryFault.{QueryFault}
use Rattle.swf_world.specs.declared.query.QueryFault.TheVariants.{UnknownInstance}

-- the report, or that there is no such instance
abbrev pub found : Option Value → Result Answer QueryFault
found None = Err UnknownInstance
found (Some v) = Ok (Status v)

-- what a query is answered behind these labels, which led to this world
abbrev pub answer : List Label → World → Query → Result Answer QueryFault
answer labels w (queries.Status id) = found (status w id)
answer labels w queries.Pending = Ok (Pending (pending_value w.instances))
answer labels w (queries.Outbox n) = Ok (Outbox (outbox_value w.outbox n))
answer labels w (queries.History place) = Ok (History (history_value labels place))

-- the world alone answers it
abbrev pub IsOfWorld : Query → Type 0
IsOfWorld (queries.Status id) = Unit {0}
IsOfWorld queries.Pending = Unit {0}
IsOfWorld (queries.Outbox n) = Unit {0}
IsOfWorld (queries.History place) = ⊥
