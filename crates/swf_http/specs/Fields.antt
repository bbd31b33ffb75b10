-- Names and values of fields, as headers (RFC 9110, section 5).
use Rattle.std.specs.Prelude.{ℕ, List, [], map, fold}
use Rattle.std.specs.Char.{to_ascii_lowercase}
use Rattle.swf_calls.specs.Headers.{with_field}
use Rattle.swf_calls.specs.declared.headers.Header.{Header}

-- a name and a value as a header: the name in lower case, and each byte of the value as the character of that number
abbrev pub header_of : List ℕ × List ℕ → Header
header_of pair = record { name = map to_ascii_lowercase pair.0; value = pair.1 }

-- names and values as headers; equal names have one value, which joins theirs
abbrev pub headers_of : List (List ℕ × List ℕ) → List Header
headers_of pairs = fold (λ headers pair. with_field (header_of pair) headers) [] pairs
