-- How large a text is.
use Rattle.std.specs.Prelude.{ℕ, List, length}
use Rattle.std.specs.Str.{encode_utf8_all}

-- the bytes of a text in UTF-8
abbrev pub bytes_in : List ℕ → ℕ
bytes_in t = length (encode_utf8_all t)
