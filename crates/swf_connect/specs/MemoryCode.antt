-- A code for connectors in memory, by which a ghost name tells them apart.
use Rattle.std.specs.Coded.{Coded, codes}
use Rattle.swf_value.specs.ValueCode.{value_code}
use Rattle.swf_connect.specs.Memory.{Memory}

pub memory_code : Coded Memory
memory_code = hlevel (codes, value_code)
