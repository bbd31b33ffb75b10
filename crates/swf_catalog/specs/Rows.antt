-- What a row stands for.
use Rattle.std.specs.Prelude.{List, map}
use Rattle.swf_meaning.specs.Next.{task_at}
use Rattle.swf_catalog.specs.Numbers.{Entry, or_nothing}
use Rattle.swf_catalog.specs.declared.row.Row.{Row}

-- the task of a row, and where its lists begin
abbrev pub entry_of : Row → Entry
entry_of r = record { task = or_nothing (task_at r.tasks r.place); begins = r.begins }

-- of all rows, in order
abbrev pub entries_of : List Row → List Entry
entries_of rs = map entry_of rs
