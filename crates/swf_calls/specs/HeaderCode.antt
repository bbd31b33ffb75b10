-- A code for headers, by which a ghost name tells them apart.
use Rattle.std.specs.Coded.{Coded, codes}
use Rattle.swf_calls.specs.declared.headers.Header.{Header}

pub header_code : Coded Header
header_code = hlevel codes
